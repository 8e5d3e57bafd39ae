-- What is made where an array of nulls is asked for.
use Rattle.std.specs.Prelude.{ℕ}
use Rattle.vx_trees.specs.Rose.{node, end}
use Rattle.vx_types.specs.Kind.{null}
use Rattle.vx_array_tree.specs.Body as B
use Rattle.vx_array_tree.specs.Tree.{Tree, untold}

-- n nulls: one node, of the type of nulls.
abbrev pub null_tree : ℕ → Tree
null_tree n = node (untold (node null end) n B.null) end
