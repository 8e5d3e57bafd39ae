use Rattle.vx_serde.specs.Recoding.{product}
use Rattle.vxcat_blobs.proofs.Recodings.{outputs_made, memory_refused, memory_status, refused}
use Rattle.vxcat_blobs.proofs.recode.steps.recode_buffer.Goals as goal

pub returns-in-Ok-clause-made : goal.returns-in-Ok-clause-made
returns-in-Ok-clause-made g c = λ ok.
    let made = product c.in-Ok.recoded c.recode.new.ctx in
    let faithful = (c.in-Ok.ensures.shipped ok).0 in
    let outputs = c.make_outputs.ensures in
    outputs_made _ made c.make_outputs.result c.in-Ok.ensures.made faithful outputs.array outputs.buffers outputs.ids

pub returns-in-Ok-clause-cause : goal.returns-in-Ok-clause-cause
returns-in-Ok-clause-cause g c = memory_refused _ c.make_outputs.result c.make_outputs.ensures.memory

pub returns-clause-cause : goal.returns-clause-cause
returns-clause-cause g c = rw c.of_blob.ensures (refused c.in-Err.error _ c.in-Err.ensures.cause)

pub returns-clause-complete : goal.returns-clause-complete
returns-clause-complete g c = λ ok can.
    memory_status c.in-Err.error c.of_blob.result c.of_blob.ensures ((c.in-Err.ensures.shipped ok).1 can)
