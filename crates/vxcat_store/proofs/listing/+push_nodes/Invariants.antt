use Rattle.std.proofs.Common.{◌≡◌, ◌++◌, drop, codes, string_bytes}
use Rattle.vx_trees.specs.Rose.{roses_of}
use Rattle.vx_trees.specs.Walks.{nodes}
use Rattle.vxcat_store.specs.Listing.{node_lines, node_lines_below}
use Rattle.vxcat_store.proofs.listing.+push_nodes.Given as goal

abbrev pub decreases-push_nodes : goal.decreases-push_nodes
decreases-push_nodes l = nodes l.array.now

abbrev pub invariant-loop-child : goal.invariant-loop-child
invariant-loop-child l =
    string_bytes l.text ++ node_lines_below (l.indent ++ codes "  ") (roses_of (drop l.child-index l.child-items)) ≡ string_bytes l.fn.text ++ node_lines l.indent l.array
