-- What is written of a column at its offset.
use Rattle.std.proofs.Common.{ℕ, ◌≡◌, ◌+◌, ◌<◌, ◌^◌, List, length, sym, ap, subst, arith}
use Rattle.vx_buffer.specs.Buffer.{Buffer}
use Rattle.vx_buffer.specs.Joined.{joined}
use Rattle.vx_trees.specs.Rose.{label}
use Rattle.vx_array_tree.specs.Tree.{Tree}
use Rattle.vx_wire_tree.specs.Context.{Context}
use Rattle.vx_wire_tree.specs.Session.{SessionMeaning, IsShipped}
use Rattle.vx_wire_tree.specs.Written.{canon}
use Rattle.vx_encodings.specs.Messages.{codec}
use Rattle.vx_serialized.specs.Refusals.{wire_error}
use Rattle.vx_serialized.specs.declared.error.WireError.{WireError}
use Rattle.vx_serialized.specs.declared.refusal.BlobRefusal.{BlobRefusal}
use Rattle.vx_serde.specs.Causes.{RefusesArray}
use Rattle.vx_serde.specs.Serializing.{IsSerialized, IsReadAgain, IsSpelledBack}
use Rattle.vx_serde.specs.Spells.{Spells}
use Rattle.vx_serde.specs.Taking.{as_written}
use Rattle.vx_serde.proofs.LawsOfReading.{written_within_limits}
use Rattle.vx_file.specs.Written.{options_at, column_blob, context_after}
use Rattle.vx_file.specs.WrittenColumns.{IsWrittenColumn}
use Rattle.vx_file.proofs.GrownContexts.{grown_context}

module _ (s : SessionMeaning) (t : Tree) (offset : ℕ) (before after : Context) (buffers : List Buffer) (made : IsSerialized s t (options_at offset) before after buffers) where
  -- The buffers are the column's blob.
  pub column_bytes : joined buffers ≡ column_blob s t offset before
  column_bytes = made.blob.written

  -- It ends within the offsets of eight bytes.
  pub column_ends : offset + length (joined buffers) < 2 ^ 64
  column_ends = omega (arith, ap length made.blob.written, made.blob.limits.writable.ends)

  pub column_context : after ≡ context_after s t offset before
  column_context = grown_context s (as_written s (options_at offset) t) before after made.blob.grown_is

  -- And what is read of it is what is read back of the column.
  pub column_written : (IsShipped s → IsReadAgain s t → IsSpelledBack s t after buffers) → IsWrittenColumn s t offset before
  column_written back =
      let P : List ℕ → Type 0 = λ z. Spells z after.ids (label t).dtype (label t).len s (canon codec s t) in
      let Q : Context → Type 0 = λ c. Spells (column_blob s t offset before) c.ids (label t).dtype (label t).len s (canon codec s t) in
      record {
        within_limits = written_within_limits s (as_written s (options_at offset) t) before (options_at offset) made.blob.limits;
        spelled = λ ok again. subst Q column_context (subst P column_bytes (back ok again));
      }

-- A refusal has its cause by its other name.
pub array_refused : (s : SessionMeaning) (t : Tree) (offset : ℕ) (ctx : Context) (e : WireError) (r : BlobRefusal) → wire_error r ≡ e → RefusesArray s t ctx (options_at offset) e → RefusesArray s t ctx (options_at offset) (wire_error r)
array_refused s t offset ctx e r same h =
    let P : WireError → Type 0 = λ z. RefusesArray s t ctx (options_at offset) z in
    subst P (sym same) h
