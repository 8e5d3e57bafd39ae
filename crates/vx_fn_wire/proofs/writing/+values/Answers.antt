use Rattle.std.proofs.Common.{◌++◌, ◌+◌, drop, ap, subst, arith, ◌∙◌}
use Rattle.std.proofs.lemmas.List.{take_all}
use Rattle.vx_types.specs.Content.{IsText}
use Rattle.vx_proto.specs.Repeated.{members, as_message}
use Rattle.vx_proto.specs.Value.{entries_view}
use Rattle.vx_proto.specs.declared.element.Element.TheViews.{Message}
use Rattle.vx_proto.proofs.LawsOfRepeated.{shows_message, member_written, all_written}
use Rattle.vx_fn_wire.specs.Expr.{IsExprNode, AreExprs}
use Rattle.vx_fn_wire.specs.Messages.{expr_message}
use Rattle.vx_fn_wire.specs.Seen.{expr, exprs}
use Rattle.vx_fn_wire.specs.declared.expression.Expression.{Expression}
use Rattle.vx_fn_wire.specs.declared.scalar_fn.ScalarFn.{ScalarFn}
use Rattle.vx_fn_wire.proofs.Lists.{nodes_at, every_more, call_formed, written_exprs}
use Rattle.vx_fn_wire.proofs.writing.+values.Goals as goal

pub slots_of-returns-in_ok-vec-in-Call-clause-formed : goal.slots_of-returns-in_ok-vec-in-Call-clause-formed
slots_of-returns-in_ok-vec-in-Call-clause-formed t c =
    let call = c.in-Call.call in
    let children = c.as_slice.ensures ∙ c.children.ensures.same in
    call_formed (expr c.args.expression.now) call.function call.children (ap expr c.in-Call.is) c.children.ensures.arity
    (subst (λ (f : ScalarFn). IsText f.id) c.function.ensures c.as_str.ensures.text) (subst AreExprs children c.in_ok-children-in-Call.ensures.formed)

pub children_slot-slots_of-requires : goal.children_slot-slots_of-requires
children_slot-slots_of-requires t c =
    (omega (arith, nodes_at c.args.children.now c.loop-child.child-index c.child-item.result c.loop-child-test.true c.child-item.is), tt)

pub children_slot-loop-child-preserved : goal.children_slot-loop-child-preserved
children_slot-loop-child-preserved t c =
    let content = as_message (λ (e : Expression). expr_message (expr e)) in
    let children = c.args.children.now in (
      ap (λ z. entries_view z ++ members content 2 (drop (c.loop-child.child-index + 1) children)) c.in_ok-push.ensures.items
          ∙ member_written content 2 c.loop-child.entries.items (Message c.in_ok-slots_of.field-0) children c.loop-child.child-index c.child-item.result c.loop-child-test.true c.child-item.is
          (shows_message c.in_ok-slots_of.field-0 (expr_message (expr c.child-item.result)) c.in_ok-slots_of.ensures.same) c.loop-child.invariant.0,
      every_more IsExprNode children c.loop-child.child-index c.child-item.result c.loop-child-test.true c.child-item.is c.loop-child.invariant.1 c.in_ok-slots_of.ensures.formed,
    )

pub children_slot-returns-clause-same : goal.children_slot-returns-clause-same
children_slot-returns-clause-same t c =
    all_written (as_message (λ e. expr_message (expr e))) 2 c.loop-child.entries.items c.args.children.now c.loop-child.child-index c.loop-child-test.false c.loop-child.invariant.0 ∙ written_exprs 2 c.args.children.now

pub children_slot-returns-clause-formed : goal.children_slot-returns-clause-formed
children_slot-returns-clause-formed t c =
    subst (λ es. AreExprs (exprs es)) (take_all c.loop-child.child-index c.args.children.now (omega (arith, c.loop-child-test.false))) c.loop-child.invariant.1
