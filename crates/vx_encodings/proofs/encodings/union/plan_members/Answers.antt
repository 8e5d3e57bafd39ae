-- There is a child for each member after the tags.
use Rattle.vx_encodings.proofs.UnionSteps.{members_planned}
use Rattle.vx_encodings.proofs.encodings.union.plan_members.Goals as goal

pub returns-clause-plan : goal.returns-clause-plan
returns-clause-plan c =
    members_planned c.with_fields.result _ _ _ c.args.types.now c.args.nullability c.args.len c.args.count c.new-plans.ensures c.tags_of.ensures c.in_ok-push.ensures.ok c.if-count-types.false c.with_fields.ensures.plans
