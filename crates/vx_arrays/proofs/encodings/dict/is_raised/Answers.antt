-- A type that may be null is raised already.
use Rattle.std.proofs.Common.{sym, ◌∙◌}
use Rattle.vx_types.specs.Seen.{typ}
use Rattle.vx_arrays.proofs.Dictionaries.{already_raised, type_decides}
use Rattle.vx_arrays.proofs.encodings.dict.is_raised.Goals as goal

pub returns-in-Nullable-clause-ok : goal.returns-in-Nullable-clause-ok
returns-in-Nullable-clause-ok c =
    type_decides c.args.nullability (typ c.args.values.now) (typ c.args.dtype.now) (typ c.args.values.now) c.eq.result c.eq.ensures
    (sym (already_raised c.args.nullability (typ c.args.values.now) (sym c.nullability.ensures ∙ c.in-Nullable.is)))

pub returns-in_ok-raised-in-NonNullable-clause-ok : goal.returns-in_ok-raised-in-NonNullable-clause-ok
returns-in_ok-raised-in-NonNullable-clause-ok c =
    type_decides c.args.nullability (typ c.args.values.now) (typ c.args.dtype.now) (typ c.in_ok-raised-in-NonNullable.raised) c.eq-in-NonNullable.result c.eq-in-NonNullable.ensures
    c.in_ok-raised-in-NonNullable.ensures.ok
