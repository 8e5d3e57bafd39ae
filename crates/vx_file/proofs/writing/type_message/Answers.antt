-- The limit is the cause.
use Rattle.std.proofs.Common.{subst}
use Rattle.vx_flat.specs.Building.{nothing_built}
use Rattle.vx_types.specs.Seen.{typ}
use Rattle.vx_type_wire.specs.Written.{RefusesWritingTypeTable}
use Rattle.vx_type_wire.specs.declared.error.TypeWireError.{TypeWireError}
use Rattle.vx_file.proofs.writing.type_message.Goals as goal

pub returns-in-Err-WireLimit-clause-cause : goal.returns-in-Err-WireLimit-clause-cause
returns-in-Err-WireLimit-clause-cause c =
    let P : TypeWireError → Type 0 = λ e. RefusesWritingTypeTable (typ c.args.dtype.now) nothing_built e in
    subst P c.in-Err-WireLimit.field-0-is c.in-Err-WireLimit.ensures.cause
