use Rattle.std.proofs.Common.{sym, ◌∙◌}
use Rattle.vx_encodings.proofs.FixedSizeListSteps.{lists_planned}
use Rattle.vx_encodings.proofs.encodings.fixed_size_list.plan.Goals as goal

pub returns-in-FixedSizeList-clause-plan : goal.returns-in-FixedSizeList-clause-plan
returns-in-FixedSizeList-clause-plan c = λ x. lists_planned x c.args.head.now c.plan_elements.result _ _ _ _ (sym c.as_slice.ensures ∙ c.in_ok-read_empty.ensures.ok) c.in-FixedSizeList.is c.get.ensures.same c.plan_elements.ensures.plan
