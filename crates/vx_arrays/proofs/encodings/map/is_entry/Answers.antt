-- A struct of the right names is an entry's where its types are right.
use Rattle.std.proofs.Common.{◌∙◌}
use Rattle.vx_types.specs.Seen.{typs}
use Rattle.vx_arrays.proofs.Entries.{entry_decides}
use Rattle.vx_arrays.proofs.encodings.map.is_entry.Goals as goal

pub returns-then-are_names : goal.returns-then-are_names
returns-then-are_names c =
    entry_decides c.args.dtype.now c.in-Struct.fields c.in-Struct.nullability c.args.map.now c.as_slice.result.now (typs c.as_slice-then-are_names.result.now) c.are_types.result
    c.in-Struct.is c.in-NonNullable.is (c.as_slice.ensures ∙ c.names.ensures) (c.are_names.ensures.0 c.if-are_names.true) (c.as_slice-then-are_names.ensures ∙ c.fields.ensures) c.are_types.ensures
