use Rattle.vx_serde.proofs.LawsOfReading.{written_within_limits}
use Rattle.vx_serde.proofs.laws.written_within_limits.Goals as goal

pub returns : goal.returns
returns c = λ s t context options keeps. written_within_limits s t context options keeps
