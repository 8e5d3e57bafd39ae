-- What is made where an array of lists is asked for.
use Rattle.std.specs.Prelude.{◌-◌, Option, None, Some}
use Rattle.vx_trees.specs.Rose.{node, end, more, label}
use Rattle.vx_types.specs.Kind.{list}
use Rattle.vx_types.specs.Typ.{Typ}
use Rattle.vx_types.specs.declared.nullability.Nullability.{Nullability}
use Rattle.vx_array_tree.specs.Body as B
use Rattle.vx_array_tree.specs.Tree.{Tree, option_trees, untold}

-- Lists of the elements: a node over these, the offsets and the validity, if any. There is one row less than there
-- are offsets.
abbrev pub list_tree : Tree → Tree → Nullability → Option Tree → Tree
list_tree elements offsets m validity =
    node (untold (node (list m) (more (label elements).dtype end)) ((label offsets).len - 1) B.list) (more elements (more offsets (option_trees validity)))

-- The type of the elements, of a type of lists.
abbrev pub element_of : Typ → Option Typ
element_of (node (list m) (more d end)) = Some d
element_of _ = None
