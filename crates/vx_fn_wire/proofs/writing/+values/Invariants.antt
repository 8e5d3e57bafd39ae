use Rattle.std.proofs.Common.{◌≡◌, ◌++◌, ◌+◌, ◌*◌, take, drop}
use Rattle.vx_trees.specs.Rose.{roses_of}
use Rattle.vx_trees.specs.Walks.{nodes, nodes_of}
use Rattle.vx_proto.specs.Repeated.{members, as_message}
use Rattle.vx_proto.specs.Value.{entries_view}
use Rattle.vx_fn_wire.specs.Expr.{AreExprs}
use Rattle.vx_fn_wire.specs.Messages.{expr_message}
use Rattle.vx_fn_wire.specs.Seen.{expr, exprs}
use Rattle.vx_fn_wire.proofs.writing.+values.Given as goal

abbrev pub invariant-children_slot-loop-child : goal.invariant-children_slot-loop-child
invariant-children_slot-loop-child l =
    (entries_view l.entries.items ++ members (as_message (λ e. expr_message (expr e))) 2 (drop l.child-index l.children)
    ≡ members (as_message (λ e. expr_message (expr e))) 2 l.children)
    × AreExprs (exprs (take l.child-index l.children))

abbrev pub decreases-slots_of : goal.decreases-slots_of
decreases-slots_of l = 4 * nodes (expr l.expression.now)

abbrev pub decreases-children_slot : goal.decreases-children_slot
decreases-children_slot l = 4 * nodes_of (roses_of (exprs l.children.now)) + 1
