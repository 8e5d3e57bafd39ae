-- One more buffer comes to both.
use Rattle.std.proofs.Common.{◌≡◌, ◌++◌, sym, ap, ◌∙◌, append_assoc}
use Rattle.vx_buffer.specs.Joined.{joined}
use Rattle.vx_file.proofs.JoinedSteps.{joined_more}
use Rattle.vx_file.proofs.buffers.append.Goals as goal

pub loop-buffer-preserved : goal.loop-buffer-preserved
loop-buffer-preserved c =
    let buffer = c.in-Some.buffer in
    ap (λ bs. joined bs) c.in_ok-push.ensures.ok
    ∙ joined_more c.loop-buffer.buffers buffer
    ∙ ap (λ z. z ++ buffer.bytes) c.loop-buffer.invariant
    ∙ append_assoc (joined c.args.buffers.now) (joined c.loop-buffer.yielded) buffer.bytes
    ∙ ap (λ z. joined c.args.buffers.now ++ z) (sym (joined_more c.loop-buffer.yielded buffer))
