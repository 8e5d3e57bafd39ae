use Rattle.std.proofs.Common.{◌≡◌, replicate}
use Rattle.vx_serde.proofs.placing.zeros.Given as goal

abbrev pub invariant-loop : goal.invariant-loop
invariant-loop l = l.zeros.items ≡ replicate l.counter 0
