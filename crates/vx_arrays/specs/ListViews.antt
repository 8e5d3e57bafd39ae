-- What is made where an array of list views is asked for.
use Rattle.std.specs.Prelude.{ℕ, ◌≡◌, Bool, Option, Some}
use Rattle.vx_trees.specs.Rose.{node, end, more, label}
use Rattle.vx_types.specs.Kind.{list}
use Rattle.vx_types.specs.Typ.{Typ}
use Rattle.vx_types.specs.Words.{nullability}
use Rattle.vx_types.specs.declared.nullability.Nullability.{Nullability}
use Rattle.vx_array_tree.specs.Body.{Body}
use Rattle.vx_array_tree.specs.Body as B
use Rattle.vx_array_tree.specs.Tree.{Tree, Trees, option_trees, untold}
use Rattle.vx_arrays.specs.Lists.{element_of}
use Rattle.vx_arrays.specs.Validity.{IsValidity}
use Rattle.vx_arrays.specs.VarBins.{IsOfOffsets}

-- What a list view node holds: its flag.
abbrev pub views_of : Bool → Body
views_of flag = B.listview (record { zero_copy = flag })

-- Lists of the elements: a node over these, the offsets, the sizes, and the validity, if any. There are as many rows
-- as offsets.
abbrev pub list_view_tree : Tree → Tree → Tree → Nullability → Option Tree → Bool → Tree
list_view_tree elements offsets sizes m validity flag =
    node (untold (node (list m) (more (label elements).dtype end)) (label offsets).len (views_of flag)) (more elements (more offsets (more sizes (option_trees validity))))

-- Integers that are non-nullable, one for each of n rows.
pub record AreCounts (n : ℕ) (t : Tree) : Type 0 where
  pub integers : IsOfOffsets (label t).dtype
  pub counted : (label t).len ≡ n

-- The children of a node of n lists: elements of its type's, an offset and a size for each row, and a validity or nothing.
pub record AreViewParts (d : Typ) (n : ℕ) (a o z : Tree) (vs : Trees) : Type 0 where
  pub element : element_of d ≡ Some (label a).dtype
  pub offsets : AreCounts n o
  pub sizes : AreCounts n z
  pub after : IsValidity (nullability d) n vs
