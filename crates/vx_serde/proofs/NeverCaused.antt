-- Where a blob spells an array within the limits, the only refusal with a cause is `OutOfMemory`.
use Rattle.std.proofs.Common.{ℕ, ◌≡◌, List, ◌++◌, Option, Some, None, length, refl, sym, ap, ◌∙◌, subst, arith, length-append, inl, inr}
use Rattle.std.specs.Prelude.{IsSome}
use Rattle.std.specs.Int.{w32, from_le_bytes}
use Rattle.vx_array_tree.specs.Tree.{Tree}
use Rattle.vx_flat.specs.Value.{Fields}
use Rattle.vx_flat.specs.declared.limits.Limits.{Limits}
use Rattle.vx_types.specs.Typ.{Typ}
use Rattle.vx_flat.specs.Shows.{Shows}
use Rattle.vx_flat.proofs.LawsOfMessages.{shown-one}
use Rattle.vx_wire_tree.specs.Codec.{IsLawful}
use Rattle.vx_wire_tree.specs.Context.{Context, grown}
use Rattle.vx_wire_tree.specs.ReadBack.{IsWritten}
use Rattle.vx_wire_tree.specs.Session.{SessionMeaning, IsShipped, IsPaired}
use Rattle.vx_wire_tree.specs.Wire.{Wire}
use Rattle.vx_wire_tree.proofs.Laws.{matched_written}
use Rattle.vx_encodings.specs.Messages.{codec}
use Rattle.vx_serialized.specs.declared.error.WireError.{WireError}
use Rattle.vx_serialized.specs.declared.error.WireError.TheVariants.{OutOfMemory, TooShort, BadTable, TableLimit, BadAlignment, Compressed, OutOfBounds, UnknownIndex, UnknownEncoding, BadMetadata, BadShape, BadContent, ForeignControl, BadStats, NotPermitted, WireLimit, PluginRefused}
use Rattle.vx_serialized.specs.ArraySchema.{array_schema}
use Rattle.vx_serialized.specs.declared.message.Descriptor.{Descriptor}
use Rattle.vx_serialized.specs.Message.{message_of}
use Rattle.vx_serialized.specs.Blob.{IsBlob, AreClean}
use Rattle.vx_serialized.specs.Carried.{IsWithinLimits, RefusesCarried, RefusesBlob}
use Rattle.vx_serde.specs.Limits.{message_limits}
use Rattle.vx_serialized.specs.Opening.{IsTooShort, RefusesOpening, RefusesDescriptors, HasRefusedDescriptors, ShowsNoRoot}
use Rattle.vx_serialized.specs.Causes.{RefusesWire}
use Rattle.vx_serde.specs.Causes.{RefusesReading, RefusesWriting, RefusesArray}
use Rattle.vx_serde.specs.Spells.{Spells, KeepsWriterLimits}
use Rattle.vx_serde.specs.Request.{Request, IsSpelled, CanRecode}
use Rattle.vx_serde.proofs.OneArray.{spelled_once}
use Rattle.vx_serialized.proofs.LawsOfBlobs.{one_blob, carried_once, backs}
use Rattle.vx_serialized.proofs.LawsOfTrees.{never_caused}
use Rattle.vx_serde.proofs.Taking.{refused_own}

-- ---- the blob

not_short : (blob segment message : List ℕ) → IsBlob blob segment message → IsTooShort blob → ⊥
not_short blob segment message is (inl h) =
    omega (arith, h, ap (λ z. length z) is.parts, length-append (segment ++ message) is.word, is.word_len)
not_short blob segment message is (inr h) =
    let same = sym is.parts ∙ h.2 in
    let words : length is.word ≡ length h.1 = omega (arith, is.word_len, h.3) in
    let word = ap (λ z. from_le_bytes w32 z) (backs (segment ++ message) is.word h.0 h.1 same words) in
    omega (arith, h.4, word, is.message_len, ap (λ z. length z) same, length-append (segment ++ message) is.word, length-append h.0 h.1, length-append segment message, words)

not_refused : (x : WireError) (segment : List ℕ) (ds : List Descriptor) → AreClean segment ds → RefusesDescriptors x segment ds → x ≡ OutOfMemory
not_refused OutOfMemory segment ds clean r = refl
not_refused BadAlignment segment ds clean r = absurd (omega (arith, clean.aligned r.0 r.1 r.2, ap (λ d. d.exponent) r.3, r.4))
not_refused Compressed segment ds clean r = absurd (omega (arith, clean.plain r.0 r.1 r.2, ap (λ d. d.compression) r.3, r.4))
not_refused OutOfBounds segment ds clean r = absurd (omega (arith, clean.within, r))
not_refused _ segment ds clean r = absurd r

module _ (most : Limits) (s : SessionMeaning) (law : IsLawful codec s) (blob : List ℕ) (ids : List (List ℕ)) (d : Typ) (n : ℕ) (t : Tree) (spelled : Spells blob ids d n s t) where
  same_value_of : (segment message : List ℕ) (v : Fields) → IsBlob blob segment message → Shows array_schema message v → (segment ≡ spelled.carried.segment) × (v ≡ spelled.carried.value)
  same_value_of segment message v is shows =
      let k = spelled.carried in
      let parts = one_blob blob segment k.segment message k.message is k.blob_is in
      let P : List ℕ → Type 0 = λ m. Shows array_schema m v in
      (parts.0, shown-one array_schema k.message v k.value (subst P parts.1 shows) k.shows)

  not_described : (x : WireError) → HasRefusedDescriptors x blob → x ≡ OutOfMemory
  not_described x h =
      let same = same_value_of h.segment h.message h.value h.blob_is h.shows in
      let A : List ℕ → Type 0 = λ z. RefusesDescriptors x z (message_of h.value).descriptors in
      let B : Fields → Type 0 = λ z. RefusesDescriptors x spelled.carried.segment (message_of z).descriptors in
      not_refused x spelled.carried.segment (message_of spelled.carried.value).descriptors spelled.clean (subst B same.1 (subst A same.0 h.refused))

  not_rootless : ShowsNoRoot blob → ⊥
  not_rootless h =
      let k = spelled.carried in
      let parts = one_blob blob k.segment h.segment k.message h.message k.blob_is h.blob_is in
      let P : List ℕ → Type 0 = λ m. Shows array_schema m k.value in
      h.none k.value k.root (subst P parts.1 k.shows) k.root_is

  -- Its wire tree is not refused.
  never_below : (x : WireError) → RefusesCarried s x blob ids d n → x ≡ OutOfMemory
  never_below x h =
      let same = (carried_once blob ids h.wire spelled.wire h.carried spelled.carried).tree in
      let P : Wire → Type 0 = λ z. RefusesWire s x z d n in
      never_caused s law x spelled.wire d n t spelled.told (subst P same h.cause)

  -- The blob is opened.
  never_closed : IsWithinLimits most blob → (x : WireError) → RefusesOpening most x blob → x ≡ OutOfMemory
  never_closed within_limits OutOfMemory h = refl
  never_closed within_limits TooShort h = absurd (not_short blob spelled.carried.segment spelled.carried.message spelled.carried.blob_is h)
  never_closed within_limits BadTable h = absurd (not_rootless h)
  never_closed within_limits TableLimit h = absurd (h.over_limits (within_limits.within_limits h.segment h.message h.blob_is))
  never_closed within_limits BadAlignment h = not_described BadAlignment h
  never_closed within_limits Compressed h = not_described Compressed h
  never_closed within_limits OutOfBounds h = not_described OutOfBounds h
  never_closed within_limits _ h = absurd h

  -- Where the blob spells an array within the limits, it is read, unless allocation fails.
  pub never_refused : IsWithinLimits most blob → (x : WireError) → RefusesBlob most s x blob ids d n → x ≡ OutOfMemory
  never_refused within OutOfMemory h = refl
  never_refused within TooShort h = never_closed within TooShort h
  never_refused within BadTable h = never_closed within BadTable h
  never_refused within TableLimit h = never_closed within TableLimit h
  never_refused within BadAlignment h = never_closed within BadAlignment h
  never_refused within Compressed h = never_closed within Compressed h
  never_refused within OutOfBounds (inl h) = never_closed within OutOfBounds h
  never_refused within OutOfBounds (inr h) = never_below OutOfBounds h
  never_refused within UnknownIndex h = never_below UnknownIndex h
  never_refused within UnknownEncoding h = never_below UnknownEncoding h
  never_refused within BadMetadata h = never_below BadMetadata h
  never_refused within BadShape h = never_below BadShape h
  never_refused within BadContent h = never_below BadContent h
  never_refused within ForeignControl h = never_below ForeignControl h
  never_refused within BadStats h = never_below BadStats h
  never_refused within PluginRefused h = never_below PluginRefused h
  never_refused within _ h = absurd h

-- ---- the array

is_grown : (o : Option Context) → IsSome o → o ≡ None → ⊥
is_grown (Some d) some e = absurd (cc)
is_grown None some e = absurd (cc)

module _ (asked : Request) (ok : IsShipped asked.session) (law : IsLawful codec asked.session) (t : Tree) (spelled : IsSpelled asked t) (paired : IsPaired asked.session) (fits : KeepsWriterLimits asked.session t asked.context asked.options) where
  has_writers : IsWritten asked.session t
  has_writers = matched_written codec asked.session ok law paired spelled.wire t spelled.told.matched

  has_blob : IsSome (grown codec asked.session asked.context t) → (x : WireError) → RefusesWriting asked.session t asked.context asked.options x → x ≡ OutOfMemory
  has_blob grows OutOfMemory h = refl
  has_blob grows NotPermitted h = absurd (is_grown (grown codec asked.session asked.context t) grows h)
  has_blob grows WireLimit h = absurd (h fits)
  has_blob grows _ h = absurd h

  -- And the array has a blob.
  pub never_unwritten : IsSome (grown codec asked.session asked.context t) → (x : WireError) → RefusesArray asked.session t asked.context asked.options x → x ≡ OutOfMemory
  never_unwritten grows x h = has_blob grows x (refused_own asked.session ok t asked.context asked.options x has_writers h)

-- Where what is asked can be done, the only refusal with a cause is `OutOfMemory`: no cause is one of reading,
pub memory_at_reading : (asked : Request) → IsLawful codec asked.session → (e : WireError) → CanRecode asked → RefusesReading asked e → e ≡ OutOfMemory
memory_at_reading asked law e can cause =
    never_refused (message_limits asked.options) asked.session law asked.blob asked.ids asked.dtype asked.len can.array can.spelled can.reader_limits e cause

-- and none of the array.
pub memory_at_array : (asked : Request) → IsShipped asked.session → IsLawful codec asked.session → IsPaired asked.session → (e : WireError) (t : Tree) → IsSpelled asked t → CanRecode asked → RefusesArray asked.session t asked.context asked.options e → e ≡ OutOfMemory
memory_at_array asked ok law paired e t spelled can cause =
    let same : t ≡ can.array = spelled_once asked.blob asked.ids asked.dtype asked.len asked.session t can.array law spelled can.spelled in
    let P : Tree → Type 0 = λ z. RefusesArray asked.session z asked.context asked.options e in
    never_unwritten asked ok law can.array can.spelled paired can.writer_limits can.grows e (subst P same cause)
