-- By the number of its fields.
use Rattle.std.proofs.Common.{◌∙◌, ap, length}
use Rattle.vx_file.proofs.TableTypes.{table_by_kind}
use Rattle.vx_file.proofs.table_type.is_table_of.Goals as goal

pub returns-in-NonNullable : goal.returns-in-NonNullable
returns-in-NonNullable c =
    table_by_kind c.args.fields.now.names c.args.nullability c.args.fields.now.types c.len.result c.args.columns
    c.in-NonNullable.is (c.len.ensures.len ∙ ap length c.fields.ensures)
