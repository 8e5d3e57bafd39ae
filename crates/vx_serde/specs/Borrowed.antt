-- Nodes that are borrowed, as trees.
use Rattle.std.specs.Prelude.{List}
use Rattle.vx_array_tree.specs.Tree.{Tree}
use Rattle.vx_serde.specs.declared.node_ref.Borrowed.{Borrowed}
use Rattle.vx_serde.specs.declared.node_ref.Borrowed.TheVariants.{Own, Taken}
use Rattle.vx_serde.specs.declared.node_ref.BorrowedNodes.{BorrowedNodes}
use Rattle.vx_serde.specs.declared.node_ref.BorrowedNodes.TheVariants as nodes

-- An array is written unchanged; a node that was taken is the tree that is written for it.
abbrev pub borrowed_tree : Borrowed → Tree
borrowed_tree (Own array) = array.now
borrowed_tree (Taken node) = node.now

-- The same for several in one slice.
abbrev pub borrowed_trees : BorrowedNodes → List Tree
borrowed_trees (nodes.Own arrays) = arrays.now
borrowed_trees (nodes.Taken ns) = ns.now
