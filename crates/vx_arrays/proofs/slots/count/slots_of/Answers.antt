-- A foreign node has as many slots as children.
use Rattle.vx_types.specs.Seen.{typ}
use Rattle.vx_arrays.proofs.Bracketed.{foreign_count}
use Rattle.vx_arrays.proofs.slots.count.slots_of.Goals as goal

pub returns-in-Foreign : goal.returns-in-Foreign
returns-in-Foreign c = foreign_count (typ c.args.dtype.now) c.args.body.now c.in-Foreign.field-0 c.args.count c.in-Foreign.is
