use Rattle.vxcat_blobs.proofs.MakeSteps.{once_refused, once_written}
use Rattle.vxcat_blobs.proofs.make.steps.write_once.Goals as goal

pub returns-in-Ok-clause-written : goal.returns-in-Ok-clause-written
returns-in-Ok-clause-written g c =
    once_written c.args.array.now c.requires.table _ c.empty-ids.result _ c.requires.session (λ k. record { ids = c.empty-ids.ensures.ids k; allowed = c.empty-ids.ensures.allowed k }) c.serialize_options.ensures
    c.serialize.new.ctx c.in-Ok.buffers c.in-Ok.ensures.made c.join_written.result c.join_written.ensures.blob c.join_written.ensures.ids

pub returns-clause-memory : goal.returns-clause-memory
returns-clause-memory g c =
    once_refused c.args.array.now c.requires.table _ c.empty-ids.result _ c.requires.session (λ k. record { ids = c.empty-ids.ensures.ids k; allowed = c.empty-ids.ensures.allowed k }) c.serialize_options.ensures
    c.in-Err.error c.in-Err.ensures.cause c.of_blob.result c.of_blob.ensures
