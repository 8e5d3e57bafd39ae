use Rattle.vx_encodings.proofs.Refusing.{plan_complete}
use Rattle.vx_encodings.proofs.steps.plan.Goals as goal

pub returns-clause-complete : goal.returns-clause-complete
returns-clause-complete g c = plan_complete _ c.args.encoding c.args.head.now c.plan_by.result c.plan_by.ensures.err
