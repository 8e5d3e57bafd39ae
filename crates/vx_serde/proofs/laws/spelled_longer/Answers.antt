use Rattle.vx_serde.proofs.LawsOfReading.{spelled_longer}
use Rattle.vx_serde.proofs.laws.spelled_longer.Goals as goal

pub returns : goal.returns
returns c = λ blob ids others d n s t x. spelled_longer blob ids others d n s t x
