use Rattle.std.proofs.Common.{◌≡◌, ◌+◌, ◌-◌, ◌*◌, ◌++◌}
use Rattle.vx_flat.specs.Building.{element_slots}
use Rattle.vx_flat.proofs.builder.composing.push_element_slots.Given as goal

abbrev pub invariant-loop-index : goal.invariant-loop-index
invariant-loop-index l =
    l.slots.items ++ element_slots l.block l.kind (l.place + 4 * l.index) l.index (l.count - l.index)
    ≡ l.fn.slots.items ++ element_slots l.block l.kind l.place 0 l.count
