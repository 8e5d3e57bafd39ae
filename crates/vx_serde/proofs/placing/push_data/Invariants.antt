use Rattle.std.proofs.Common.{◌≡◌, ◌++◌, drop}
use Rattle.vx_serde.specs.Placing.{data_end}
use Rattle.vx_serde.specs.WrittenBuffers.{data_buffers}
use Rattle.vx_serde.proofs.placing.push_data.Given as goal

abbrev pub invariant-loop-i : goal.invariant-loop-i
invariant-loop-i l =
    (l.out ++ data_buffers l.options l.position (drop l.i l.buffers) ≡ l.initial.out ++ data_buffers l.options l.options.offset l.buffers)
    × (data_end l.options l.position (drop l.i l.buffers) ≡ data_end l.options l.options.offset l.buffers)
