-- Extensions, by their storage.
use Rattle.std.specs.Prelude.{ℕ, List, [], ◌∷◌, Option, None, codes}
use Rattle.vx_trees.specs.Rose.{node, end, more}
use Rattle.vx_types.specs.Kind.{extension}
use Rattle.vx_types.specs.Typ.{Typ}
use Rattle.vx_array_tree.specs.Place.{Place, place, exactly}
use Rattle.vx_array_tree.specs.Rows.{Rows, as_rows, first}

-- The identifier is "vortex.ext".
abbrev pub id : List ℕ
id = codes "vortex.ext"

-- A node is of a type of an extension, and has its storage.
abbrev pub plan : Typ → ℕ → ℕ → Option (List Place)
plan (node (extension x bs) (more e end)) n k = exactly (place e n ∷ []) k
plan _ n k = None

-- A row is its storage's.
abbrev pub rows : ℕ → List Rows → Rows
rows n rs = as_rows n (first rs)
