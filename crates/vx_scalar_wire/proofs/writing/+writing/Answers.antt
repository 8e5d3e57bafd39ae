use Rattle.std.proofs.Common.{ap, subst, sym, ◌∙◌, arith, option_copied, Option}
use Rattle.vx_trees.specs.Rose.{roses_of}
use Rattle.vx_trees.specs.Walks.{nodes}
use Rattle.vx_proto.specs.Value.{entries_view}
use Rattle.vx_types.specs.Well.{IsWell}
use Rattle.vx_scalars.specs.Seen.{seen, all_seen}
use Rattle.vx_scalars.specs.declared.value.ScalarValue.{ScalarValue}
use Rattle.vx_scalar_wire.specs.ScalarMessage.{value_message}
use Rattle.vx_scalar_wire.specs.Shallow.{IsShallow, AreShallow}
use Rattle.vx_scalar_wire.proofs.Lists.{list-more, shallow-more, well-more, shallow-at, nodes-at, unwritten-whole}
use Rattle.vx_scalar_wire.proofs.writing.+writing.Goals as goal

pub list_slots-value_slots-requires : goal.list_slots-value_slots-requires
list_slots-value_slots-requires t c =
    (omega (arith, ap (λ w. nodes (seen w)) c.as_ref.ensures.value, nodes-at c.args.values.now c.loop-value.value-index c.value-item.result c.loop-value-test.true c.value-item.is), tt)

pub list_slots-returns-in-Err-clause-writes : goal.list_slots-returns-in-Err-clause-writes
list_slots-returns-in-Err-clause-writes t c =
    let values = c.args.values.now in
    let v = c.value-item.result in
    let part : AreShallow (roses_of (all_seen values)) → IsShallow (seen (option_copied c.as_ref.result)) =
    λ w. subst (λ (z : Option ScalarValue). IsShallow (seen z)) (sym c.as_ref.ensures.value) (shallow-at values c.loop-value.value-index v c.loop-value-test.true c.value-item.is w) in
    unwritten-whole c.in-Err.error (IsShallow (seen (option_copied c.as_ref.result))) (AreShallow (roses_of (all_seen values))) part c.in-Err.ensures.writes

pub list_slots-loop-value-preserved : goal.list_slots-loop-value-preserved
list_slots-loop-value-preserved t c =
    let values = c.args.values.now in
    let v = c.value-item.result in
    let i = c.loop-value.value-index in
    let is = c.as_ref.ensures.value in (
      ap entries_view c.in_ok-push.ensures.items
          ∙ list-more values i v c.loop-value.entries.items c.in-Ok.slots c.loop-value-test.true c.value-item.is c.loop-value.invariant.0
          (c.in-Ok.ensures.writes.0 ∙ ap (λ (z : Option ScalarValue). value_message (seen z)) is),
      shallow-more values i v c.loop-value-test.true c.value-item.is c.loop-value.invariant.1 (subst (λ (z : Option ScalarValue). IsShallow (seen z)) is c.in-Ok.ensures.writes.1),
      well-more values i v c.loop-value-test.true c.value-item.is c.loop-value.invariant.2 (subst (λ (z : Option ScalarValue). IsWell (seen z)) is c.in-Ok.ensures.well),
    )
