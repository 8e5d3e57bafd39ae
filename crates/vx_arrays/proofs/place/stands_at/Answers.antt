-- An array stands where its type and its length do.
use Rattle.vx_types.specs.Seen.{typ}
use Rattle.vx_arrays.proofs.Columns.{column_decides}
use Rattle.vx_arrays.proofs.place.stands_at.Goals as goal

pub returns-then-len : goal.returns-then-len
returns-then-len c =
    column_decides c.args.array.now (typ c.args.dtype.now) c.args.len c.eq.result (typ c.dtype.result.now) c.len.result c.len.ensures.len c.if-len.true c.dtype.ensures.dtype c.eq.ensures
