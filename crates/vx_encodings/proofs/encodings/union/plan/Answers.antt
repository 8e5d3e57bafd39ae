use Rattle.std.proofs.Common.{sym, ◌∙◌}
use Rattle.vx_encodings.proofs.UnionSteps.{unions_planned}
use Rattle.vx_encodings.proofs.encodings.union.plan.Goals as goal

pub returns-in-Union-clause-plan : goal.returns-in-Union-clause-plan
returns-in-Union-clause-plan c =
    λ x. unions_planned x c.args.head.now c.plan_members.result _ _ _ (sym c.as_slice.ensures ∙ c.in_ok-read_empty.ensures.ok) c.in-Union.is (c.as_slice-types.ensures ∙ c.variants.ensures) c.plan_members.ensures.plan
