use Rattle.std.proofs.Common.{◌≡◌, ◌++◌, drop}
use Rattle.vx_serde.specs.MessageValue.{descriptors_bytes}
use Rattle.vx_serde.specs.Placing.{descriptors_from, data_end}
use Rattle.vx_serde.proofs.placing.describe.Given as goal

abbrev pub invariant-loop-i : goal.invariant-loop-i
invariant-loop-i l =
    (l.descriptors.items ++ descriptors_bytes (descriptors_from l.options l.position (drop l.i l.buffers)) ≡ descriptors_bytes (descriptors_from l.options l.options.offset l.buffers))
    × (data_end l.options l.position (drop l.i l.buffers) ≡ data_end l.options l.options.offset l.buffers)
