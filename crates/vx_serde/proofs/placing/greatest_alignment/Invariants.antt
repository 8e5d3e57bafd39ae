use Rattle.std.proofs.Common.{◌≡◌, drop}
use Rattle.vx_serde.specs.WrittenBuffers.{greatest_exponent}
use Rattle.vx_serde.proofs.placing.greatest_alignment.Given as goal

abbrev pub invariant-loop-i : goal.invariant-loop-i
invariant-loop-i l = greatest_exponent l.greatest (drop l.i l.buffers) ≡ greatest_exponent 3 l.buffers
