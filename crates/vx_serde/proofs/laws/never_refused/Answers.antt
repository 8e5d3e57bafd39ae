use Rattle.vx_serde.proofs.LawsOfReading.{never_refused}
use Rattle.vx_serde.proofs.laws.never_refused.Goals as goal

pub returns : goal.returns
returns c = λ most s blob ids d n t e law x within cause. never_refused most s law blob ids d n t x within e cause
