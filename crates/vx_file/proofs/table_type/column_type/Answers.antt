-- By the fields of the type.
use Rattle.std.proofs.Common.{ap}
use Rattle.vx_types.specs.Seen.{typ}
use Rattle.vx_file.proofs.TableTypes.{never_missing, field_found}
use Rattle.vx_file.proofs.table_type.column_type.Goals as goal

pub unreachable-requires : goal.unreachable-requires
unreachable-requires c =
    never_missing c.args.columns c.args.column c.in-Struct.fields.names c.in-Struct.field-1 c.in-Struct.fields.types c.fields.result.now (typ c.args.dtype.now)
    (ap (λ z. typ z) c.in-Struct.is) c.requires.table c.requires.within c.fields.ensures c.in-None.ensures

pub returns : goal.returns
returns c =
    field_found c.args.columns c.args.column c.in-Struct.fields.names c.in-Struct.field-1 c.in-Struct.fields.types c.fields.result.now (typ c.args.dtype.now) (typ c.in-Some.found.now)
    (ap (λ z. typ z) c.in-Struct.is) c.requires.table c.fields.ensures c.in-Some.ensures
