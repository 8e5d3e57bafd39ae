-- Nulls: arrays of which each row is null.
use Rattle.std.specs.Prelude.{ℕ, List, [], Option, Some, None, false, codes}
use Rattle.vx_trees.specs.Rose.{node, end}
use Rattle.vx_types.specs.Kind.{null}
use Rattle.vx_types.specs.Typ.{Typ}
use Rattle.vx_types.specs.Value as V
use Rattle.vx_types.specs.Value.{lone}
use Rattle.vx_array_tree.specs.Place.{Place, exactly}
use Rattle.vx_array_tree.specs.Rows.{Rows, by_validity}

-- The identifier is "vortex.null".
abbrev pub id : List ℕ
id = codes "vortex.null"

-- A node is of the type of nulls, and has no children.
abbrev pub plan : Typ → ℕ → ℕ → Option (List Place)
plan (node null end) n k = exactly [] k
plan _ n k = None

-- No row is valid.
abbrev pub rows : ℕ → Rows
rows n = by_validity n (λ i. Some false) (λ i. lone V.null)
