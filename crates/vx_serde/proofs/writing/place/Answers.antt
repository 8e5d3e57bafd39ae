use Rattle.std.proofs.Common.{arith, ap, ◌∙◌, [], ◌++◌}
use Rattle.std.proofs.lemmas.Result.{err_from_is_err_and}
use Rattle.vx_wire_tree.specs.Wire.{buffers_in}
use Rattle.vx_wire_tree.specs.Written.{wire}
use Rattle.vx_encodings.specs.Messages.{codec}
use Rattle.vx_serde.proofs.Gathered.{unplaced_nodes}
use Rattle.vx_serde.proofs.NumberedBy.{first-encodings}
use Rattle.vx_serde.proofs.WholeBlob.{laid_out}
use Rattle.vx_serde.proofs.writing.place.Goals as goal

pub returns-in_err-gather-clause-refused : goal.returns-in_err-gather-clause-refused
returns-in_err-gather-clause-refused c = λ s q.
    let p = err_from_is_err_and c.from_residual.result c.from_residual.ensures.1 in
    rw (p.1, p.2) (unplaced_nodes s c.args.options.now c.args.array.now c.args.ctx.now c.in_err-gather.field-0.0 (c.in_err-gather.ensures.cause s q))

pub returns-clause-encodings : goal.returns-clause-encodings
returns-clause-encodings c = λ s q.
    first-encodings (wire codec s c.args.array.now) c.gather.new.ctx.ids c.new-found.result.encodings.items c.gather.new.found.encodings.items c.new-found.ensures.encodings (c.in_ok-gather.ensures.encodings s [] q)

pub returns-clause-placed : goal.returns-clause-placed
returns-clause-placed c = λ s.
    let bs = c.gather.new.found.buffers in
    laid_out s c.args.array.now c.args.options.now bs c.in-Some.placed.descriptors.items c.in-Some.placed.end
    (c.in_ok-gather.ensures.buffers s ∙ ap (λ z. z ++ buffers_in (wire codec s c.args.array.now)) c.new-found.ensures.buffers) c.requires.levels
    (omega (arith, c.if-len-gt-MAX_BUFFERS.false, c.len.ensures)) (c.are_describable.ensures.0 c.if-not-are_describable.false)
    (rw c.in-Some.is at c.in_ok-placed.ensures.descriptors) (rw c.in-Some.is at c.in_ok-placed.ensures.end) (omega arith)
