-- A message that is refused is one that the bytes do not show.
use Rattle.std.proofs.Common.{ℕ, ◌≡◌, ◌⊎◌, List, inl, inr}
use Rattle.vx_proto.specs.Reads.{Cause}
use Rattle.vx_proto.specs.Schema.{Schema}
use Rattle.vx_proto.specs.declared.error.ProtoError.{ProtoError}
use Rattle.vx_proto.specs.declared.error.ProtoError.TheVariants.{OutOfMemory, BadMessage, TooDeep, OutOfRange}
use Rattle.vx_proto.proofs.LawsOfMessages.{read_uncaused}
use Rattle.vx_encodings.specs.Steps.{RefusesMetadata, message_error}

pub unread_message : (s : Schema) (place : ℕ) (bytes : List ℕ) (e : ProtoError) → (e ≡ OutOfMemory) ⊎ Cause s 100 e place bytes → RefusesMetadata (message_error e) s place bytes
unread_message s place bytes OutOfMemory c = tt
unread_message s place bytes BadMessage (inl h) = absurd (cc)
unread_message s place bytes BadMessage (inr c) = λ v r. read_uncaused s place bytes v BadMessage r c
unread_message s place bytes TooDeep (inl h) = absurd (cc)
unread_message s place bytes TooDeep (inr c) = λ v r. read_uncaused s place bytes v TooDeep r c
unread_message s place bytes OutOfRange (inl h) = absurd (cc)
unread_message s place bytes OutOfRange (inr c) = λ v r. read_uncaused s place bytes v OutOfRange r c

-- The lemmas for the reading of messages.
pub ruleset unread = (unread_message)
