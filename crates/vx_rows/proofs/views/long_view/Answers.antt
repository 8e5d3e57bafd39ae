-- A long view's bytes are those of the buffer that it names.
use Rattle.std.proofs.Common.{◌∙◌, ap, sym, length, option_map}
use Rattle.std.proofs.lemmas.Bool.{ltb-false, ltb-true}
use Rattle.vx_buffer.specs.Buffer.{Buffer}
use Rattle.vx_rows.proofs.LongViews.{long_none, long_some}
use Rattle.vx_rows.proofs.views.long_view.Goals as goal

pub returns-in-None : goal.returns-in-None
returns-in-None c = long_none c.args.buffers.now c.args.size c.args.view.now c.word_at-which.result c.word_at-which.ensures.word
    (ltb-false c.word_at-which.result (length c.args.buffers.now) (sym c.in-None.ensures.lookup.0))

pub returns-in-Some : goal.returns-in-Some
returns-in-Some c =
    long_some c.args.buffers.now c.args.size c.args.view.now c.word_at-which.result c.word_at-which.ensures.word c.word_at-offset.result c.in-Some.buffer.now c.as_slice.result.now (option_map (λ b. b.now) c.found.result)
    c.word_at-offset.ensures.word (ltb-true c.word_at-which.result (length c.args.buffers.now) (sym c.in-Some.ensures.lookup.0)) c.in-Some.ensures.lookup.1 (c.as_slice.ensures ∙ ap (λ (b : Buffer). b.bytes) c.as_host.ensures) c.found.ensures
