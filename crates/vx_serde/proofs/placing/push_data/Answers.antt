use Rattle.std.proofs.Common.{◌≡◌, ◌∙◌, ap, arith}
use Rattle.vx_serde.specs.Placing.{pad}
use Rattle.vx_serde.proofs.PlacedData.{data_end-next}
use Rattle.vx_serde.proofs.placing.push_data.Goals as goal

pub overflow_add-position-in-loop-i : goal.overflow_add-position-in-loop-i
overflow_add-position-in-loop-i c =
    let o = c.args.options.now in
    let b = c.get-buffer.result.now in
    let p = c.loop-i.position in
    let next = data_end-next o p c.args.buffers.now c.loop-i.i b (omega (arith, c.loop-i-test.true, c.len-i-end.ensures)) c.get-buffer.ensures in
    let e : c.pad_at-padding.result ≡ pad o b.exponent p = c.pad_at-padding.ensures.value ∙ ap (λ x. pad o x p) (c.exponent.ensures.value ∙ c.alignment.ensures) in
    omega (arith, next, e, c.len.ensures, c.loop-i.invariant.1, c.requires.fits)
