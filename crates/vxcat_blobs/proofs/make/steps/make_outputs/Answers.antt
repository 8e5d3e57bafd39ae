use Rattle.std.proofs.Common.{IfOk, subst}
use Rattle.vx_array_tree.specs.Tree.{Tree}
use Rattle.vxcat_blobs.specs.MakeViews.{AreOutputsOf}
use Rattle.vxcat_blobs.proofs.make.steps.make_outputs.Goals as goal

pub outputs_of-requires-clause-table : goal.outputs_of-requires-clause-table
outputs_of-requires-clause-table c = record { seed = c.args.seed; rows = c.args.rows; few = c.requires; array_is = c.in-Ok.ensures.array }

pub returns-in-Ok-clause-made : goal.returns-in-Ok-clause-made
returns-in-Ok-clause-made c = subst (λ (t : Tree). IfOk c.outputs_of.result (AreOutputsOf t)) c.in-Ok.ensures.array c.outputs_of.ensures.made
