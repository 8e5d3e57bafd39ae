-- Buffers that are refused without statistics are so with them.
use Rattle.std.proofs.lemmas.Result.{err_from_is_err_and}
use Rattle.vx_scalars.specs.Stats.{no_stats}
use Rattle.vx_arrays.proofs.Rebuffered.{told_refused}
use Rattle.vx_arrays.proofs.array.Array.with_buffers.Goals as goal

pub returns-in_err-array-clause-err : goal.returns-in_err-array-clause-err
returns-in_err-array-clause-err c =
    let p = err_from_is_err_and c.from_residual.result c.from_residual.ensures.1 in
    rw (p.1, p.2) (told_refused c.in_err-array.field-0.0 no_stats c.args.self.now c.args.buffers c.in_err-array.ensures.err)
