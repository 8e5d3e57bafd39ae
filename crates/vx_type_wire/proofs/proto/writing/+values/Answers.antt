use Rattle.std.proofs.Common.{◌++◌, ◌+◌, [], ◌∷◌, List, drop, arith, ap, sym, ◌∙◌}
use Rattle.vx_proto.specs.Repeated.{members, as_message}
use Rattle.vx_proto.proofs.LawsOfRepeated.{shows_message, member_written, all_written}
use Rattle.vx_proto.specs.Value.{Entry, Content, value_view, entries_view}
use Rattle.vx_proto.proofs.LawsOfMessages.{where_ok}
use Rattle.vx_proto.specs.declared.element.Element.TheViews.{Message}
use Rattle.vx_types.specs.declared.dtype.DType.{DType}
use Rattle.vx_types.specs.Seen.{typ}
use Rattle.vx_type_wire.specs.TypeMessage.{type_message, parts_below}
use Rattle.vx_type_wire.proofs.Judging.{nodes_at}
use Rattle.vx_type_wire.proofs.MessageSteps.{written_types, whole_message}
use Rattle.vx_type_wire.proofs.proto.writing.+values.Goals as goal

pub types_slot-slots_of-requires : goal.types_slot-slots_of-requires
types_slot-slots_of-requires t c =
    (omega (arith, nodes_at c.args.types.now c.loop-dtype.dtype-index c.dtype-item.result c.loop-dtype-test.true c.dtype-item.is), tt)

pub slots_of-returns-clause-same : goal.slots_of-returns-clause-same
slots_of-returns-clause-same t c =
    let ty = typ c.args.dtype.now in
    let shows = shows_message c.in_ok-parts.parts (parts_below ty) c.in_ok-parts.ensures.same in
    ap value_view c.in_ok-vec.ensures.items
    ∙ ap (λ (z : List Entry). z ∷ []) (c.in_ok-member.ensures.same ∙ (λ i. (c.tag_of.ensures i, shows i) ∷ []))
    ∙ sym (whole_message ty)

pub type_slot-returns-clause-same : goal.type_slot-returns-clause-same
type_slot-returns-clause-same t c =
    where_ok c.one.result _ _ c.one.ensures.same
    (λ es same. same ∙ ap (λ (e : Content). (c.args.number, e) ∷ []) (shows_message c.in_ok-slots.slots (type_message (typ c.args.dtype.now)) c.in_ok-slots.ensures.same))

pub types_slot-returns-clause-same : goal.types_slot-returns-clause-same
types_slot-returns-clause-same t c =
    all_written (as_message (λ d. type_message (typ d))) c.args.number c.loop-dtype.entries.items c.args.types.now c.loop-dtype.dtype-index c.loop-dtype-test.false c.loop-dtype.invariant ∙ written_types c.args.number c.args.types.now

pub types_slot-loop-dtype-preserved : goal.types_slot-loop-dtype-preserved
types_slot-loop-dtype-preserved t c =
    let content = as_message (λ (d : DType). type_message (typ d)) in
    let types = c.args.types.now in
    ap (λ z. entries_view z ++ members content c.args.number (drop (c.loop-dtype.dtype-index + 1) types)) c.in_ok-push.ensures.items
    ∙ member_written content c.args.number c.loop-dtype.entries.items (Message c.in_ok-slots_of.field-0) types c.loop-dtype.dtype-index c.dtype-item.result c.loop-dtype-test.true c.dtype-item.is
    (shows_message c.in_ok-slots_of.field-0 (type_message (typ c.dtype-item.result)) c.in_ok-slots_of.ensures.same) c.loop-dtype.invariant
