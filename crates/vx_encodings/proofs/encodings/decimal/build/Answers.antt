use Rattle.std.proofs.Common.{ℕ, List, ap, subst, ◌∙◌}
use Rattle.vx_proto.specs.Reads.{Reads}
use Rattle.vx_arrays.specs.Decimals.{decimal_tree}
use Rattle.vx_encodings.proofs.DecimalSteps.{decimals_built, few_children}
use Rattle.vx_encodings.specs.DecimalMessage.{decimal_schema, decimal_value}
use Rattle.vx_encodings.proofs.encodings.decimal.build.Goals as goal

pub only_validity-validity-requires : goal.only_validity-validity-requires
only_validity-validity-requires c = few_children c.args.head c.args.children _ c.in-Decimal.digits c.in-Decimal.nullability c.requires c.in-Decimal.is c.into_vec.ensures.items

pub returns-in-Ok-clause-parts : goal.returns-in-Ok-clause-parts
returns-in-Ok-clause-parts c =
    let w = c.in_ok-metadata.metadata.values_type in
    let shown = subst (λ (bytes : List ℕ). Reads decimal_schema 0 bytes (decimal_value w)) c.as_slice.ensures c.in_ok-metadata.ensures.read in
    let made = c.in-Ok.ensures.ok ∙ ap (λ digits. decimal_tree c.in-Some.values w digits c.in-Decimal.nullability c.args.head.len c.only_validity-validity.result) c.same_digits.ensures in
    λ x. decimals_built x c.args.head c.args.buffers c.args.children w c.in-Decimal.digits c.in-Decimal.nullability c.in-Some.values c.only_validity-validity.result c.in-Ok.array shown c.in-Decimal.is c.in-Some.ensures.one (c.only_validity-validity.ensures ∙ c.into_vec.ensures.items) made
