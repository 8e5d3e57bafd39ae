-- Only the step of variants asks the readers.
use Rattle.vx_encodings.proofs.VariantSteps.{planned_at, unplanned_at}
use Rattle.vx_encodings.proofs.steps.planning.plan_by.Goals as goal

pub returns-in-Variant-clause-plan : goal.returns-in-Variant-clause-plan
returns-in-Variant-clause-plan g c = planned_at _ c.args.encoding c.args.head.now c.plan-in-Variant.result c.in-Variant.is c.plan-in-Variant.ensures.plan

pub returns-in-Variant-clause-err : goal.returns-in-Variant-clause-err
returns-in-Variant-clause-err g c = unplanned_at _ c.args.encoding c.args.head.now c.plan-in-Variant.result c.in-Variant.is c.plan-in-Variant.ensures.err
