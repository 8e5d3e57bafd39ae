-- Columns that were written.
use Rattle.std.specs.Prelude.{ℕ, ◌+◌, false, List, [], ◌∷◌, length}
use Rattle.vx_flat.specs.Limits.{limits_to}
use Rattle.vx_trees.specs.Rose.{label}
use Rattle.vx_array_tree.specs.Tree.{Tree}
use Rattle.vx_wire_tree.specs.Context.{Context}
use Rattle.vx_wire_tree.specs.Session.{SessionMeaning, IsShipped}
use Rattle.vx_wire_tree.specs.Written.{canon}
use Rattle.vx_encodings.specs.Messages.{codec}
use Rattle.vx_serialized.specs.Carried.{IsWithinLimits}
use Rattle.vx_serde.specs.Serializing.{IsReadAgain}
use Rattle.vx_serde.specs.Spells.{Spells}
use Rattle.vx_file.specs.Written.{column_blob, context_after}

-- A column is written at an offset and under a context: its blob keeps the limits on reading, and with shipped encodings
-- alone it spells what is read back of the column, with the identifiers after it.
pub record IsWrittenColumn (s : SessionMeaning) (t : Tree) (offset : ℕ) (ctx : Context) : Type 0 where
  pub within_limits : IsWithinLimits (limits_to false) (column_blob s t offset ctx)
  pub spelled : IsShipped s → IsReadAgain s t
      → Spells (column_blob s t offset ctx) (context_after s t offset ctx).ids (label t).dtype (label t).len s (canon codec s t)

-- So is each of several columns, one after the other.
abbrev pub AreWrittenColumns : SessionMeaning → List Tree → ℕ → Context → Type 0
AreWrittenColumns s [] offset ctx = Unit {0}
AreWrittenColumns s (t ∷ ts) offset ctx =
    IsWrittenColumn s t offset ctx × AreWrittenColumns s ts (offset + length (column_blob s t offset ctx)) (context_after s t offset ctx)
