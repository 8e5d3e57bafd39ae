use Rattle.std.proofs.Common.{take}
use Rattle.vx_trees.specs.Rose.{below, roses_of, roses_list}
use Rattle.vx_trees.specs.Walks.{nodes}
use Rattle.vx_types.specs.Seen.{typ}
use Rattle.vx_wire_tree.specs.Kept.{AreKeptAs}
use Rattle.vx_serialized.specs.Serialized.{wire_in}
use Rattle.vx_serialized.proofs.keeping.+keep_node.Given as goal

abbrev pub decreases-keep_node : goal.decreases-keep_node
decreases-keep_node l = nodes l.node.now.root

-- The children so far are kept.
abbrev pub invariant-loop-i : goal.invariant-loop-i
invariant-loop-i l = AreKeptAs (roses_of (take l.i (roses_list (below (wire_in l.ids l.node))))) (typ l.dtype) l.len l.children
