use Rattle.std.proofs.Common.{rules, ℕ, List, subst, None, ◌≡◌}
use Rattle.vx_types.specs.Seen.{typ}
use Rattle.vx_proto.specs.Reads.{Reads}
use Rattle.vx_array_tree.specs.Encodings.Decimals as Decimals
use Rattle.vx_encodings.proofs.DecimalSteps.{decimals_unplanned}
use Rattle.vx_encodings.specs.DecimalMessage.{decimal_schema, decimal_value}
use Rattle.vx_encodings.proofs.encodings.decimal.plan.Goals as goal

pub returns-in_default : goal.returns-in_default
returns-in_default c =
    let w = c.in_ok-_metadata._metadata.values_type in
    let shown = subst (λ (bytes : List ℕ). Reads decimal_schema 0 bytes (decimal_value w)) c.as_slice.ensures c.in_ok-_metadata.ensures.read in
    let none : Decimals.plan (typ c.args.head.now.dtype) c.args.head.now.len c.args.head.now.nchildren ≡ None = search rules in
    record { plan = λ x. tt; err = λ x. decimals_unplanned x c.args.head.now w shown none }
