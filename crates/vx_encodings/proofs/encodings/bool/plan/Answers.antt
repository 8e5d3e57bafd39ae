use Rattle.std.proofs.Common.{rules, ℕ, List, arith, subst, None, ◌≡◌}
use Rattle.vx_types.specs.Seen.{typ}
use Rattle.vx_proto.specs.Reads.{Reads}
use Rattle.vx_array_tree.specs.Encodings.Bools as Bools
use Rattle.vx_encodings.proofs.BoolSteps.{flags_past, flags_unplanned}
use Rattle.vx_encodings.specs.BoolMessage.{bool_schema, bool_value}
use Rattle.vx_encodings.proofs.encodings.bool.plan.Goals as goal

pub returns-then-metadata-ge8-clause-err : goal.returns-then-metadata-ge8-clause-err
returns-then-metadata-ge8-clause-err c =
    let o = c.in_ok-metadata.metadata.offset in
    let shown = subst (λ (bytes : List ℕ). Reads bool_schema 0 bytes (bool_value o)) c.as_slice.ensures c.in_ok-metadata.ensures.read in
    λ x. flags_past x c.args.head.now o shown (omega arith)

pub returns-in_default : goal.returns-in_default
returns-in_default c =
    let o = c.in_ok-metadata.metadata.offset in
    let shown = subst (λ (bytes : List ℕ). Reads bool_schema 0 bytes (bool_value o)) c.as_slice.ensures c.in_ok-metadata.ensures.read in
    let none : Bools.plan (typ c.args.head.now.dtype) c.args.head.now.len c.args.head.now.nchildren ≡ None = search rules in
    record { plan = λ x. tt; err = λ x. flags_unplanned x c.args.head.now o shown (omega arith) none }
