-- A foreign node's buffers are named by their numbers.
use Rattle.std.proofs.Common.{Some, ◌∙◌, ap}
use Rattle.vx_trees.specs.Rose.{label}
use Rattle.vx_arrays.proofs.Bracketed.{foreign_buffer, no_buffer}
use Rattle.vx_arrays.proofs.array.Array.buffer_name.Goals as goal

pub returns-in_ok-numbered-in-Foreign-clause-ok : goal.returns-in_ok-numbered-in-Foreign-clause-ok
returns-in_ok-numbered-in-Foreign-clause-ok c =
    ap (λ z. Some z) c.in_ok-numbered-in-Foreign.ensures.ok
    ∙ foreign_buffer (label c.args.self.now).body c.body.result.now c.in-Foreign.foreign c.body.ensures c.in-Foreign.is c.buffers.result.now c.args.index c.buffers.ensures c.if-index-buffers.true

pub returns-else-index-buffers-clause-ok : goal.returns-else-index-buffers-clause-ok
returns-else-index-buffers-clause-ok c =
    no_buffer (label c.args.self.now).body c.body.result.now c.in-Foreign.foreign c.body.ensures c.in-Foreign.is c.buffers.result.now c.args.index c.buffers.ensures c.if-index-buffers.false
