-- One part more is a text, where its row is valid.
use Rattle.std.proofs.Common.{below_more}
use Rattle.vx_arrays.proofs.texts.are_texts.Goals as goal

pub loop-i-preserved : goal.loop-i-preserved
loop-i-preserved c = below_more _ _ c.loop-i.invariant (c.is_text_at.ensures.0 c.if-not-is_text_at.false)
