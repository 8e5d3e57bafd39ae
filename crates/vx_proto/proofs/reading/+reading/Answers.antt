use Rattle.std.proofs.Common.{◌≡◌, ℕ, Ok, sym, ap, ◌∙◌, arith, length, length-set, zero, suc, ◌<◌, eqb, false}
use Rattle.std.proofs.lemmas.List.{length-map}
use Rattle.std.proofs.lemmas.Bool.{eqb-true}
use Rattle.vx_proto.specs.Wire.{cut}
use Rattle.vx_proto.specs.WireView.{field_view}
use Rattle.vx_proto.specs.Value.{view, value_view}
use Rattle.vx_proto.specs.Reading.{typed, gather_all, decoded}
use Rattle.vx_proto.proofs.LawsOfViews.{view_message}
use Rattle.vx_proto.proofs.Loops.{goes_past, goes_on, ends, ends_bad, is_done, message_gives}
use Rattle.std.proofs.lemmas.Result.{err_from_is_err_and}
use Rattle.vx_proto.specs.Schema.{list_view, schema_view}
use Rattle.vx_proto.proofs.Views.{view_push}
use Rattle.vx_proto.proofs.reading.+reading.Goals as goal

some_left : (n : ℕ) → eqb n 0 ≡ false → 0 < n
some_left zero e = absurd cc
some_left (suc n) e = omega arith

pub element_of-returns-in_ok-slots-in-Message : goal.element_of-returns-in_ok-slots-in-Message
unfolding typed
element_of-returns-in_ok-slots-in-Message t c = rw (c.in-Message.is, c.in_ok-s-in-Message.ensures, c.in_ok-slots-in-Message.ensures) (ap (λ e. Ok e) (sym (view_message c.in_ok-slots-in-Message.slots)))

pub gather-returns-in_default-clause-value : goal.gather-returns-in_default-clause-value
gather-returns-in_default-clause-value t c =
    ends_bad (decoded (schema_view c.args.schema) c.args.left) (list_view c.args.list.now) c.loop-rest.rest.now (value_view c.loop-rest.slots.items) _ (sym c.in_default.ensures.field) (some_left _ (sym c.is_empty.ensures ∙ c.loop-rest-test.true)) c.loop-rest.invariant.1

pub gather-returns-in_err-element-clause-value : goal.gather-returns-in_err-element-clause-value
gather-returns-in_err-element-clause-value t c =
    let p = err_from_is_err_and c.from_residual-in_err-element.result c.from_residual-in_err-element.ensures.1 in
    rw (p.1, p.2) (ends (decoded (schema_view c.args.schema) c.args.left) (list_view c.args.list.now) c.loop-rest.rest.now (field_view c.in-Some.field, c.in-Some.after.now) (c.in-Some-slot_of.place, c.in-Some-slot_of.kind) c.in_err-element.field-0.0 (value_view c.loop-rest.slots.items) _
    (sym c.in-Some.ensures.field) (sym c.in-Some-slot_of.ensures.place) c.in_err-element.ensures c.loop-rest.invariant.1)

pub gather-loop-rest-preserved-in_ok-push_entry : goal.gather-loop-rest-preserved-in_ok-push_entry
gather-loop-rest-preserved-in_ok-push_entry t c =
    let lt = c.in-Some-slot_of.ensures.bound in
    let e = view_push c.loop-rest.slots.items c.in-Some-slot_of.place c.index_mut.result.now c.push_entry.new.entries (c.in-Some.field.number, c.in_ok-element.element) (omega (arith, lt, c.loop-rest.invariant.0)) c.index_mut.ensures.value c.in_ok-push_entry.ensures in (
      length-set _ _ _ ∙ c.loop-rest.invariant.0,
      ap (gather_all (decoded (schema_view c.args.schema) c.args.left) (list_view c.args.list.now) (cut c.in-Some.after.now)) e
          ∙ goes_on (decoded (schema_view c.args.schema) c.args.left) (list_view c.args.list.now) c.loop-rest.rest.now (field_view c.in-Some.field, c.in-Some.after.now) (c.in-Some-slot_of.place, c.in-Some-slot_of.kind) (view c.in_ok-element.element) (value_view c.loop-rest.slots.items) _
          (sym c.in-Some.ensures.field) (sym c.in-Some-slot_of.ensures.place) c.in_ok-element.ensures c.loop-rest.invariant.1,
    )

pub gather-loop-rest-preserved : goal.gather-loop-rest-preserved
gather-loop-rest-preserved t c = (
  c.loop-rest.invariant.0,
  goes_past (decoded (schema_view c.args.schema) c.args.left) (list_view c.args.list.now) c.loop-rest.rest.now (field_view c.in-Some.field, c.in-Some.after.now) (value_view c.loop-rest.slots.items) _
      (sym c.in-Some.ensures.field) (sym c.in_default-slot_of.ensures.place) c.loop-rest.invariant.1,
)

pub gather-returns-clause-value : goal.gather-returns-clause-value
gather-returns-clause-value t c =
    is_done (decoded (schema_view c.args.schema) c.args.left) (list_view c.args.list.now) c.loop-rest.rest.now (value_view c.loop-rest.slots.items) _ (eqb-true _ 0 (sym c.is_empty.ensures ∙ c.loop-rest-test.false)) c.loop-rest.invariant.1

pub message_of-returns : goal.message_of-returns
message_of-returns t c = message_gives (λ v. value_view v.items) c.finish.result (schema_view c.args.schema) c.args.left c.args.place (length c.list_of-list.result.now) (list_view c.list_of-list.result.now) c.args.bytes.now (value_view c.in_ok-slots.slots.items)
    c.if-left-eq0.false c.list_of-list.ensures (sym (length-map _ _)) c.in_ok-slots.ensures.value c.finish.ensures
