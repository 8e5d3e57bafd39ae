use Rattle.std.proofs.Common.{arith}
use Rattle.vx_buffer.proofs.Powers.{no_power}
use Rattle.vx_buffer.proofs.align.Alignment.new.Goals as goal

pub returns-clause-none : goal.returns-clause-none
returns-clause-none c =
    no_power c.args.bytes (omega arith) (λ k below. c.loop-exponent.invariant k (omega arith))
