use Rattle.std.proofs.Common.{arith}
use Rattle.vx_encodings.proofs.StructSteps.{without_front_planned, with_front_planned}
use Rattle.vx_encodings.proofs.encodings.structs.plan_fields.Goals as goal

pub returns-in-Some-eq0-clause-plan : goal.returns-in-Some-eq0-clause-plan
returns-in-Some-eq0-clause-plan c =
    without_front_planned c.with_fields.result _ c.args.types.now c.args.len c.args.count c.new-plans.ensures
    (omega (arith, c.in-Some-eq0.ensures.0, c.in-Some-eq0.ensures.1, c.in-Some-eq0.field-0-is)) c.with_fields.ensures.plans

pub returns-in_ok-push-in-Some-eq1-clause-plan : goal.returns-in_ok-push-in-Some-eq1-clause-plan
returns-in_ok-push-in-Some-eq1-clause-plan c =
    with_front_planned c.with_fields-in-Some-eq1.result _ _ _ c.args.types.now c.args.len c.args.count c.new-plans.ensures c.validity_of.ensures c.in_ok-push-in-Some-eq1.ensures.ok
    (omega (arith, c.in-Some-eq1.ensures.0, c.in-Some-eq1.ensures.1, c.in-Some-eq1.field-0-is)) c.with_fields-in-Some-eq1.ensures.plans
