use Rattle.std.proofs.Common.{sym, ◌∙◌}
use Rattle.vx_encodings.proofs.StructSteps.{structures_planned}
use Rattle.vx_encodings.proofs.encodings.structs.plan.Goals as goal

pub returns-in-Struct-clause-plan : goal.returns-in-Struct-clause-plan
returns-in-Struct-clause-plan c =
    λ x. structures_planned x c.args.head.now c.plan_fields.result _ _ _ (sym c.as_slice.ensures ∙ c.in_ok-read_empty.ensures.ok) c.in-Struct.is (c.as_slice-in-Struct.ensures ∙ c.fields.ensures) c.plan_fields.ensures.plan
