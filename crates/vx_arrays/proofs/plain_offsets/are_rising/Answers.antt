-- Numbers of which one falls are no offsets.
use Rattle.std.proofs.Common.{suc, arith}
use Rattle.std.proofs.lemmas.Bool.{false≢true}
use Rattle.vx_arrays.proofs.PlainOffsets.{plain_decreases}
use Rattle.vx_arrays.proofs.plain_offsets.are_rising.Goals as goal

pub returns-then-offset-last : goal.returns-then-offset-last
returns-then-offset-last g c = (
  λ t. absurd (false≢true t),
  λ o. absurd (plain_decreases g.T.Unsigned.kind (suc c.args.parts) c.args.bytes.now c.loop-i.i c.number_at-offset.result c.number_at-offset.ensures c.args.parts c.args.total c.loop-i.last c.loop-i.invariant (omega (arith, c.count_in-count.ensures (suc c.args.parts) c.requires.filled)) c.if-offset-last.true o),
)
