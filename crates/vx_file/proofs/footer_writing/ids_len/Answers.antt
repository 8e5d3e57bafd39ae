-- Nothing is left at the end.
use Rattle.std.proofs.Common.{arith}
use Rattle.vx_file.proofs.FooterLengths.{ids_end}
use Rattle.vx_file.proofs.footer_writing.ids_len.Goals as goal

pub returns : goal.returns
returns c = omega (arith, c.loop-id.invariant.total, c.loop-id.invariant.small, ids_end c.args.ids.now c.loop-id.id-index c.loop-id-test.false)
