-- What is made where an array of maps is asked for.
use Rattle.std.specs.Prelude.{ℕ, ◌≡◌, [], ◌∷◌, Option, Some, None}
use Rattle.vx_trees.specs.Rose.{node, end, more, label}
use Rattle.vx_types.specs.Kind.{list, map}
use Rattle.vx_types.specs.Parts.{Entries}
use Rattle.vx_types.specs.Typ.{Typ}
use Rattle.vx_types.specs.Words.{entries, nullability}
use Rattle.vx_array_tree.specs.Body as B
use Rattle.vx_array_tree.specs.Encodings.Maps.{Takes}
use Rattle.vx_array_tree.specs.Table.{encoding_of}
use Rattle.vx_array_tree.specs.Tree.{Tree, untold}

-- A map node over its entries, with as many rows, which are null where those are.
abbrev pub map_tree : Entries → Tree → Tree
map_tree m t = node (untold (node (map m.keys_sorted (nullability (label t).dtype)) (more m.key (more m.value end))) (label t).len B.map) (more t end)

-- The type of the lists of entries, of a type of maps.
abbrev pub entries_of : Typ → Option Typ
entries_of (node (map b m) (more x (more y end))) = Some (node (list m) (more (entries (record { key = x; value = y; keys_sorted = b })) end))
entries_of _ = None

-- An array is the entries of n maps of a type: of the type of their lists, with as many rows, and a list view as far as
-- its encoding is known.
pub record AreEntries (d : Typ) (n : ℕ) (t : Tree) : Type 0 where
  pub typed : entries_of d ≡ Some (label t).dtype
  pub counted : (label t).len ≡ n
  pub viewed : Takes (encoding_of (label t).body ∷ [])
