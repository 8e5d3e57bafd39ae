-- By what serializing the column gives.
use Rattle.std.proofs.Common.{ℕ, ◌≡◌, ◌+◌, ◌++◌, length, ap, ◌∙◌, arith}
use Rattle.vx_buffer.specs.Joined.{joined}
use Rattle.vx_file.proofs.ColumnWritten.{column_bytes, column_ends, column_context, column_written, array_refused}
use Rattle.vx_file.proofs.written_columns.write_column.Goals as goal

pub returns-in-Some-clause-cause : goal.returns-in-Some-clause-cause
returns-in-Some-clause-cause g c =
    array_refused _ c.args.column.now c.args.offset c.args.ctx.now c.in-Err.e c.in-Some.refusal c.in-Some.ensures.some c.in-Err.ensures.cause

pub joined_len-len-requires : goal.joined_len-len-requires
joined_len-len-requires g c =
    omega (arith, column_ends _ c.args.column.now c.args.offset c.args.ctx.now c.serialize.new.ctx c.in-Ok.blob c.in-Ok.ensures.made)

pub returns-in-Ok-append-clause-written : goal.returns-in-Ok-append-clause-written
returns-in-Ok-append-clause-written g c =
    c.in-Ok-append.ensures
    ∙ ap (λ z. joined c.args.buffers.now ++ z) (column_bytes _ c.args.column.now c.args.offset c.args.ctx.now c.serialize.new.ctx c.in-Ok.blob c.in-Ok.ensures.made)

pub returns-in-Ok-append-clause-len : goal.returns-in-Ok-append-clause-len
returns-in-Ok-append-clause-len g c =
    c.joined_len-len.ensures ∙ ap length (column_bytes _ c.args.column.now c.args.offset c.args.ctx.now c.serialize.new.ctx c.in-Ok.blob c.in-Ok.ensures.made)

pub returns-in-Ok-append-clause-ends : goal.returns-in-Ok-append-clause-ends
returns-in-Ok-append-clause-ends g c =
    omega (arith, c.joined_len-len.ensures, column_ends _ c.args.column.now c.args.offset c.args.ctx.now c.serialize.new.ctx c.in-Ok.blob c.in-Ok.ensures.made)

pub returns-in-Ok-append-clause-context : goal.returns-in-Ok-append-clause-context
returns-in-Ok-append-clause-context g c =
    column_context _ c.args.column.now c.args.offset c.args.ctx.now c.serialize.new.ctx c.in-Ok.blob c.in-Ok.ensures.made

pub returns-in-Ok-append-clause-column : goal.returns-in-Ok-append-clause-column
returns-in-Ok-append-clause-column g c =
    column_written _ c.args.column.now c.args.offset c.args.ctx.now c.serialize.new.ctx c.in-Ok.blob c.in-Ok.ensures.made c.in-Ok.ensures.read_back
