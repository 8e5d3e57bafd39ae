use Rattle.vx_serialized.proofs.EntrySteps.{unbuilt}
use Rattle.vx_serialized.proofs.steps.build_of.Goals as goal

pub returns-in-Err-clause-cause : goal.returns-in-Err-clause-cause
returns-in-Err-clause-cause g c = λ r by. rw c.from.ensures (unbuilt _ r c.args.encoding by c.args.head c.in-Err.e c.args.buffers c.args.children c.in-Err.ensures.err)
