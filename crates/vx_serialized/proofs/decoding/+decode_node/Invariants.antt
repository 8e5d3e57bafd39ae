use Rattle.std.proofs.Common.{take}
use Rattle.vx_trees.specs.Rose.{below, roses_of, roses_list}
use Rattle.vx_trees.specs.Walks.{nodes}
use Rattle.vx_wire_tree.specs.Causes.{AllTell}
use Rattle.vx_encodings.specs.Messages.{codec}
use Rattle.vx_registry.specs.Meaning.{session_meaning}
use Rattle.vx_serialized.specs.Serialized.{wire_in}
use Rattle.vx_serialized.specs.contracts.decoding.decode_node.{dyn-1-ghosts, dyn-2-ghosts}
use Rattle.vx_serialized.proofs.decoding.+decode_node.Given as goal

abbrev pub decreases-decode_node : goal.decreases-decode_node
decreases-decode_node g l = nodes l.node.now.root

-- The children so far decode to the arrays so far.
abbrev pub invariant-loop-i : goal.invariant-loop-i
invariant-loop-i g l =
    let s = session_meaning (λ b. ((dyn-2-ghosts g.dyn-2 g.dyn-1).0.entry b.vtable).1.means b.value) (λ b. ((dyn-1-ghosts g.dyn-2 g.dyn-1).0.entry b.vtable).1.accepted b.value) l.session in
    AllTell codec s (roses_of (take l.i (roses_list (below (wire_in l.ids l.node))))) (take l.i l.planned.children) l.children
