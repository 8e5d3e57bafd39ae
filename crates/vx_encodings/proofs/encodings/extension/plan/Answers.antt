use Rattle.std.proofs.Common.{sym, ◌∙◌}
use Rattle.vx_encodings.proofs.ExtensionSteps.{extensions_planned}
use Rattle.vx_encodings.proofs.encodings.extension.plan.Goals as goal

pub returns-in-Extension-clause-plan : goal.returns-in-Extension-clause-plan
returns-in-Extension-clause-plan c = λ x. extensions_planned x c.args.head.now c.plan_storage.result _ _ (sym c.as_slice.ensures ∙ c.in_ok-read_empty.ensures.ok) c.in-Extension.is c.storage_dtype.ensures c.plan_storage.ensures.plan
