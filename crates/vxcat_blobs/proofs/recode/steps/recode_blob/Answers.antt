use Rattle.std.proofs.Common.{IfOk, IfErr, ◌≡◌, ◌∙◌}
use Rattle.vx_wire_tree.specs.Session.{IsShipped}
use Rattle.vx_serde.specs.Request.{CanRecode, Request}
use Rattle.vxcat_store.specs.declared.status.Status.TheVariants.{OutOfMemory}
use Rattle.vxcat_blobs.specs.RecodeViews.{AreMade, RefusesBlob}
use Rattle.vxcat_blobs.proofs.Recodings.{asked_alike}
use Rattle.vxcat_blobs.proofs.recode.steps.recode_blob.Goals as goal

pub returns-in-Ok-clause-made : goal.returns-in-Ok-clause-made
returns-in-Ok-clause-made g c =
    asked_alike (λ (r : Request). IsShipped r.session → IfOk c.recode_buffer.result (AreMade r)) _ _ _ _ _ _ _ _ (c.in-Ok.ensures.bytes ∙ c.into_vec.ensures) c.recode_buffer.ensures.made

pub returns-in-Ok-clause-cause : goal.returns-in-Ok-clause-cause
returns-in-Ok-clause-cause g c =
    asked_alike (λ (r : Request). IfErr c.recode_buffer.result (λ status. RefusesBlob status r)) _ _ _ _ _ _ _ _ (c.in-Ok.ensures.bytes ∙ c.into_vec.ensures) c.recode_buffer.ensures.cause

pub returns-in-Ok-clause-complete : goal.returns-in-Ok-clause-complete
returns-in-Ok-clause-complete g c =
    asked_alike (λ (r : Request). IsShipped r.session → CanRecode r → IfErr c.recode_buffer.result (λ status. status ≡ OutOfMemory)) _ _ _ _ _ _ _ _ (c.in-Ok.ensures.bytes ∙ c.into_vec.ensures) c.recode_buffer.ensures.complete
