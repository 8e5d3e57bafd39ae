use Rattle.std.proofs.Common.{arith}
use Rattle.vx_serde.proofs.PlacedData.{data_end-next}
use Rattle.vx_serde.proofs.placing.describe.Goals as goal

pub returns-in_default-clause-none : goal.returns-in_default-clause-none
returns-in_default-clause-none c =
    let next = data_end-next c.args.options.now c.loop-i.position c.args.buffers.now c.loop-i.i c.get-buffer.result.now (omega (arith, c.loop-i-test.true, c.len-i-end.ensures)) c.get-buffer.ensures in
    omega (arith, next, c.loop-i.invariant.1, c.in_default.ensures, c.descriptor_at-descriptor.ensures.padding, c.descriptor_at-descriptor.ensures.len)
