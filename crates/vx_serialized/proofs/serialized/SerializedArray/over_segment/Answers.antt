use Rattle.vx_serialized.proofs.OverriddenBuffers.{buffers-plain, clean-plain}
use Rattle.vx_serialized.proofs.serialized.SerializedArray.over_segment.Goals as goal

pub returns-clause-buffers : goal.returns-clause-buffers
returns-clause-buffers c =
    buffers-plain c.new-overrides.result c.args.segment.bytes c.over_segment_with.result c.new-overrides.ensures.empty c.over_segment_with.ensures.buffers

pub returns-clause-clean : goal.returns-clause-clean
returns-clause-clean c =
    clean-plain c.new-overrides.result c.args.segment.bytes c.over_segment_with.result c.new-overrides.ensures.empty c.over_segment_with.ensures.clean
