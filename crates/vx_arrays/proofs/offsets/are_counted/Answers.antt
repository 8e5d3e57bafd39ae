-- Where one more than the parts is no number that can be counted, no array has n rows.
use Rattle.std.proofs.Common.{arith}
use Rattle.vx_arrays.proofs.offsets.are_counted.Goals as goal

pub returns-in-None-clause-all : goal.returns-in-None-clause-all
returns-in-None-clause-all c = λ k l. absurd (c.in-None.ensures (omega (arith, l, c.len.ensures.len)))
