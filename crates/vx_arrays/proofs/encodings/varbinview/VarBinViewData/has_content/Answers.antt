-- One view more is right, where its row is valid.
use Rattle.std.proofs.Common.{below_more}
use Rattle.vx_arrays.proofs.encodings.varbinview.VarBinViewData.has_content.Goals as goal

pub loop-i-preserved : goal.loop-i-preserved
loop-i-preserved c = below_more _ _ c.loop-i.invariant (c.is_right_at.ensures.0 c.if-not-is_right_at.false)
