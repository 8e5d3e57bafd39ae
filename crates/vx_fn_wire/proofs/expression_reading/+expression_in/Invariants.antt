use Rattle.vx_proto.specs.Value.{slots_of, value_view}
use Rattle.vx_proto.specs.Written.{slots_depth}
use Rattle.vx_fn_wire.specs.Expr.{AreExprs}
use Rattle.vx_fn_wire.specs.Session.{scalars_meaning}
use Rattle.vx_fn_wire.specs.contracts.expression_reading.expression_in.{dyn-1-ghosts}
use Rattle.vx_fn_wire.proofs.ExprParts.{AreReadTo}
use Rattle.vx_fn_wire.proofs.expression_reading.+expression_in.Given as goal

abbrev pub decreases-expression_in : goal.decreases-expression_in
decreases-expression_in g l = slots_depth (slots_of (value_view l.slots.now))

abbrev pub invariant-loop-element : goal.invariant-loop-element
invariant-loop-element g l =
    let registry = scalars_meaning (λ b. ((dyn-1-ghosts g.dyn-1).0.entry b.vtable).1.scalar_of b.value) l.session in
    AreReadTo registry l.unknown l.children l.element-items l.element-index × AreExprs l.children
