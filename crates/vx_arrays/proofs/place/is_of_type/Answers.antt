-- Types are equal where their trees are.
use Rattle.vx_types.specs.Seen.{typ}
use Rattle.vx_arrays.proofs.Columns.{type_decides}
use Rattle.vx_arrays.proofs.place.is_of_type.Goals as goal

pub returns : goal.returns
returns c = type_decides c.args.array.now (typ c.args.dtype.now) c.eq.result (typ c.dtype.result.now) c.dtype.ensures.dtype c.eq.ensures
