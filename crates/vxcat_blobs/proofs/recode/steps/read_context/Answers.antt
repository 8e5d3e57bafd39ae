use Rattle.std.proofs.Common.{Some, sym, subst, ◌∙◌}
use Rattle.vxcat_store.specs.IdFile.{ReadsIds}
use Rattle.vxcat_blobs.specs.Recode.{ReadsAllowed}
use Rattle.vxcat_blobs.proofs.recode.steps.read_context.Goals as goal

pub returns-in-Ok-with_allowed_ids-clause-read : goal.returns-in-Ok-with_allowed_ids-clause-read
returns-in-Ok-with_allowed_ids-clause-read c = (
  Some c.in-Ok.ids,
  subst (λ o. ReadsAllowed o (Some c.in-Ok.ids)) (sym c.in-Some.is) (subst (λ l. ReadsIds l c.in-Ok.ids) c.as_slice.ensures c.in-Ok.ensures.read),
  λ k. record { ids = (c.in-Ok-with_allowed_ids.ensures.ids ∙ c.empty-context.ensures.ids) k; allowed = c.in-Ok-with_allowed_ids.ensures.allowed k },
)
