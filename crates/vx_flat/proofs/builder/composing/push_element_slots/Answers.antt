use Rattle.std.proofs.Common.{◌++◌}
use Rattle.vx_flat.specs.Building.{element_slots}
use Rattle.vx_flat.proofs.Composing.{elements_next}
use Rattle.vx_flat.proofs.builder.composing.push_element_slots.Goals as goal

pub loop-index-preserved : goal.loop-index-preserved
loop-index-preserved c =
    let a = c.args in
    rw c.in_ok-push.ensures.items
    (elements_next a.block a.kind a.place c.loop-index.index a.count c.loop-index.slots.items
    (a.slots.now.items ++ element_slots a.block a.kind a.place 0 a.count) c.loop-index-test.true c.loop-index.invariant)
