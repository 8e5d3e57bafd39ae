-- The nodes kept below one are smaller than it: the measure of recursions.
use Rattle.std.specs.Prelude.{Option, Some, None, Vec, ◌+◌, ◌≤◌}
use Rattle.std.specs.Global.{Global}
use Rattle.std.proofs.Common.{arith}
use Rattle.vx_trees.specs.Walks.{nodes, nodes_of}
use Rattle.vx_trees.proofs.Counting.{most_le-nodes}
use Rattle.vx_array_tree.specs.Tree.{Tree, Trees}
use Rattle.vx_serde.specs.Taking.{taken_below}
use Rattle.vx_serde.specs.declared.taken.TakenNode.TheShapes.{weighed-TakenNode-children}

pub children_le-nodes : (ts : Trees) (us : Option (Vec Tree Global)) → (weighed-TakenNode-children).weight Tree (λ t. nodes t + 1) us ≤ nodes_of (taken_below ts us) + 1
children_le-nodes ts None = omega arith
children_le-nodes ts (Some us) = omega (arith, most_le-nodes us.items)
