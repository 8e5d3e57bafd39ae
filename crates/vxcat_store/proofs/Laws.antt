-- What the proofs of commands need of stores, sinks, identifier files and statuses.
use Rattle.std.proofs.Common.{◌≡◌, ℕ, Option, None, Some, List, refl, arith}
use Rattle.std.specs.Bool.{IsTrue}
use Rattle.std.specs.Io.KnownBytes.{Keeps}
use Rattle.vx_serialized.specs.Errors.{error_number}
use Rattle.vx_serialized.specs.declared.refusal.BlobRefusal.{BlobRefusal}
use Rattle.vx_serialized.specs.declared.refusal.BlobRefusal.TheVariants as refusal
use Rattle.vxcat_store.specs.RunState.{IsUntouched, run_of}
use Rattle.vxcat_store.specs.SinkState.{SinkState}
use Rattle.vx_serialized.specs.Refusals.{wire_error}
use Rattle.vxcat_store.specs.StoreState.{Stands, StoreState}
-- The names that were asked for stay among those that may be.
pub use Rattle.vxcat_store.proofs.AskedNames.{asked_none, asked_more, asked_last}
-- Bytes have at most one list of lines.
pub use Rattle.vxcat_store.proofs.IdLines.{lines_unique}

-- What a sink tells is kept by a run that prints nothing.
pub keeps_same : (known : Option (List ℕ)) → Keeps known known
keeps_same None = tt
keeps_same (Some bytes) = refl

-- A run that saves and prints nothing leaves all untouched.
pub untouched : (before after : StoreState) (out : SinkState) → after.tells ≡ before.tells → after.file ≡ before.file → IsUntouched (run_of before after out out)
untouched before after out tells file = record { told = tells; files = file; unprinted = keeps_same out.written }

-- A store tells at most one list of bytes at a name.
pub stands_same : (store : StoreState) (name a b : List ℕ) → IsTrue store.tells → Stands store name a → Stands store name b → a ≡ b
stands_same store name a b told first second = let x = first told in let y = second told in cc

-- No refusal of a blob has the number of no command.
pub refusal_not_two : (r : BlobRefusal) → error_number (wire_error r) ≡ 2 → ⊥
refusal_not_two refusal.TooShort is = absurd (omega (arith, is))
refusal_not_two refusal.BadTable is = absurd (omega (arith, is))
refusal_not_two refusal.TableLimit is = absurd (omega (arith, is))
refusal_not_two refusal.BadAlignment is = absurd (omega (arith, is))
refusal_not_two refusal.Compressed is = absurd (omega (arith, is))
refusal_not_two refusal.OutOfBounds is = absurd (omega (arith, is))
refusal_not_two refusal.UnknownIndex is = absurd (omega (arith, is))
refusal_not_two refusal.UnknownEncoding is = absurd (omega (arith, is))
refusal_not_two refusal.BadMetadata is = absurd (omega (arith, is))
refusal_not_two refusal.BadShape is = absurd (omega (arith, is))
refusal_not_two refusal.BadContent is = absurd (omega (arith, is))
refusal_not_two refusal.ForeignControl is = absurd (omega (arith, is))
refusal_not_two refusal.BadStats is = absurd (omega (arith, is))
refusal_not_two refusal.NotPermitted is = absurd (omega (arith, is))
refusal_not_two refusal.WireLimit is = absurd (omega (arith, is))
refusal_not_two refusal.NotRegistered is = absurd (omega (arith, is))
refusal_not_two refusal.NotSerializable is = absurd (omega (arith, is))
refusal_not_two refusal.UndeclaredId is = absurd (omega (arith, is))
refusal_not_two refusal.PluginRefused is = absurd (omega (arith, is))
