use Rattle.vx_serialized.proofs.DecodedNodes.{buffers-next}
use Rattle.vx_serialized.proofs.decoding.own_buffers.Goals as goal

pub loop-i-preserved : goal.loop-i-preserved
loop-i-preserved c =
    buffers-next c.args.node.now c.loop-i.i c.loop-i.own c.push.new.self c.in-Ok.buffer.now c.in_ok-clone-in-Ok.field-0 c.loop-i.invariant c.in-Ok.ensures.ok c.in_ok-clone-in-Ok.ensures c.in_ok-push-in-Ok.ensures.ok
