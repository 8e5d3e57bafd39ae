-- Maps, as lists of entries.
use Rattle.std.specs.Prelude.{ℕ, List, [], ◌∷◌, Option, None, codes}
use Rattle.vx_trees.specs.Rose.{node, end, more}
use Rattle.vx_types.specs.Kind.{list, map}
use Rattle.vx_types.specs.Typ.{Typ}
use Rattle.vx_types.specs.Words.{entries}
use Rattle.vx_array_tree.specs.Encoding.{Encoding}
use Rattle.vx_array_tree.specs.Encoding as E
use Rattle.vx_array_tree.specs.Place.{Place, place, exactly}
use Rattle.vx_array_tree.specs.Rows.{Rows, as_rows, first}

-- The identifier is "vortex.map".
abbrev pub id : List ℕ
id = codes "vortex.map"

-- A node is of a type of maps, and has one child: lists of entries, which are null where the maps are.
abbrev pub plan : Typ → ℕ → ℕ → Option (List Place)
plan (node (map b m) (more x (more y end))) n k =
    exactly (place (node (list m) (more (entries (record { key = x; value = y; keys_sorted = b })) end)) n ∷ []) k
plan _ n k = None

-- The child is a list view, as far as its encoding is known.
abbrev pub Takes : List Encoding → Type 0
Takes (E.listview ∷ es) = Unit {0}
Takes (E.foreign ∷ es) = Unit {0}
Takes _ = ⊥

-- A row is the list of its entries.
abbrev pub rows : ℕ → List Rows → Rows
rows n rs = as_rows n (first rs)
