use Rattle.std.proofs.Common.{◌≡◌, ◌⊎◌, arith}
use Rattle.std.proofs.lemmas.Result.{err_from_is_err_and}
use Rattle.vx_proto.specs.Value.{value_view}
use Rattle.vx_trees.proofs.Holding.{everywhere_below-snoc}
use Rattle.vx_fn_wire.specs.Expr.{IsExprNode}
use Rattle.vx_fn_wire.specs.ReadsExpr.{RefusesReadingExpr}
use Rattle.vx_fn_wire.specs.Seen.{expr}
use Rattle.vx_fn_wire.specs.Session.{scalars_meaning}
use Rattle.vx_fn_wire.specs.contracts.expression_reading.expression_in.{dyn-1-ghosts}
use Rattle.vx_fn_wire.specs.declared.error.FnWireError.TheVariants.{OutOfMemory}
use Rattle.vx_fn_wire.proofs.ExprParts.{children_formed, child_held, child_form, child_depth, id_found, one_more}
use Rattle.vx_fn_wire.proofs.ReadExprs.{whole_read, whole_unread, child_unread}
use Rattle.vx_trees.proofs.LawsOfResults.{at_error}
use Rattle.vx_fn_wire.proofs.expression_reading.+expression_in.Goals as goal

pub unreachable-requires : goal.unreachable-requires
unreachable-requires g t c =
    let es = c.entries_at-element-items.result.now in
    let formed = children_formed (value_view c.args.slots.now) es c.requires c.entries_at-element-items.ensures in
    child_held es c.loop-element.element-index c.loop-element-item.result c.loop-element-test.true c.loop-element-item.is formed c.in_default.ensures

pub expression_in-requires : goal.expression_in-requires
expression_in-requires g t c =
    let v = value_view c.args.slots.now in
    let w = value_view c.in-Some.child.now in
    let es = c.entries_at-element-items.result.now in
    let formed = children_formed v es c.requires c.entries_at-element-items.ensures in (
      omega (arith, child_depth v es c.loop-element.element-index c.loop-element-item.result w c.loop-element-test.true c.loop-element-item.is c.entries_at-element-items.ensures c.in-Some.ensures, c.decreases),
      child_form es c.loop-element.element-index c.loop-element-item.result w c.loop-element-test.true c.loop-element-item.is formed c.in-Some.ensures,
    )

pub returns-in_err-expression_in-clause-cause : goal.returns-in_err-expression_in-clause-cause
returns-in_err-expression_in-clause-cause g t c =
    let p = err_from_is_err_and c.from_residual.result c.from_residual.ensures.1 in
    let registry = scalars_meaning (λ b. ((dyn-1-ghosts g.dyn-1).0.entry b.vtable).1.scalar_of b.value) c.args.session.now in
    let v = value_view c.args.slots.now in
    let e = c.in_err-expression_in.field-0.0 in
    at_error c.from_residual.result p.0 e (λ x. (x ≡ OutOfMemory) ⊎ RefusesReadingExpr registry c.args.unknown x v) p.1 p.2
    (child_unread registry c.args.unknown e v c.entries_at-element-items.result.now c.loop-element.element-index c.loop-element-item.result (value_view c.in-Some.child.now) c.requires c.entries_at-element-items.ensures
    c.loop-element-test.true c.loop-element-item.is c.in-Some.ensures c.in_err-expression_in.ensures.cause)

pub loop-element-preserved : goal.loop-element-preserved
loop-element-preserved g t c =
    let registry = scalars_meaning (λ b. ((dyn-1-ghosts g.dyn-1).0.entry b.vtable).1.scalar_of b.value) c.args.session.now in
    let child = c.in_ok-expression_in.ensures.read in (
      one_more registry c.args.unknown c.loop-element.children c.push.new.self (expr c.in_ok-expression_in.field-0) c.entries_at-element-items.result.now c.loop-element.element-index c.loop-element-item.result (value_view c.in-Some.child.now)
          c.loop-element-test.true c.loop-element-item.is c.in-Some.ensures c.in_ok-push.ensures.ok c.loop-element.invariant.0 child.message,
      everywhere_below-snoc IsExprNode c.loop-element.children c.push.new.self (expr c.in_ok-expression_in.field-0) c.loop-element.invariant.1 child.is_expr c.in_ok-push.ensures.ok,
    )

pub unreachable-requires-in_default-text_at : goal.unreachable-requires-in_default-text_at
unreachable-requires-in_default-text_at g t c = id_found (value_view c.args.slots.now) c.requires c.in_default-text_at.ensures

pub returns-clause-read : goal.returns-clause-read
returns-clause-read g t c =
    let registry = scalars_meaning (λ b. ((dyn-1-ghosts g.dyn-1).0.entry b.vtable).1.scalar_of b.value) c.args.session.now in
    whole_read registry c.args.unknown (value_view c.args.slots.now) c.entries_at-element-items.result.now c.loop-element.element-index c.loop-element.children c.in-Some-text_at.id.now c.metadata_at.result.now c.node_of.result
    c.requires c.entries_at-element-items.ensures c.loop-element-test.false c.loop-element.invariant.0 c.in-Some-text_at.ensures c.metadata_at.ensures c.node_of.ensures.given
    (c.node_of.ensures.formed c.loop-element.invariant.1)

pub returns-clause-cause : goal.returns-clause-cause
returns-clause-cause g t c =
    let registry = scalars_meaning (λ b. ((dyn-1-ghosts g.dyn-1).0.entry b.vtable).1.scalar_of b.value) c.args.session.now in
    whole_unread registry c.args.unknown (value_view c.args.slots.now) c.entries_at-element-items.result.now c.loop-element.element-index c.loop-element.children c.in-Some-text_at.id.now c.metadata_at.result.now c.node_of.result
    c.requires c.entries_at-element-items.ensures c.loop-element-test.false c.loop-element.invariant.0 c.in-Some-text_at.ensures c.metadata_at.ensures c.node_of.ensures.cause
