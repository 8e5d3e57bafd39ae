use Rattle.vx_types.specs.Seen.{typ}
use Rattle.vxcat_blobs.proofs.MakeSteps.{type_read, type_refused}
use Rattle.vxcat_blobs.proofs.make.steps.write_type.Goals as goal

pub returns-in-Ok-clause-read : goal.returns-in-Ok-clause-read
returns-in-Ok-clause-read c = type_read c.args.array.now c.requires (typ c.dtype.result.now) c.in-Ok.message c.dtype.ensures.dtype c.in-Ok.ensures.read_back

pub returns-in-Err-clause-memory : goal.returns-in-Err-clause-memory
returns-in-Err-clause-memory c = type_refused c.args.array.now c.requires (typ c.dtype.result.now) c.dtype.ensures.dtype c.in-Err.error c.in-Err.ensures.cause c.of_type.result c.of_type.ensures
