use Rattle.vx_serde.proofs.WrittenAgain.{spelled_again}
use Rattle.vx_serde.proofs.laws.written_is_spelled.Goals as goal

pub returns : goal.returns
returns c = λ s blob ids d n t old new options ok law paired x stored grew fit. spelled_again s ok law paired blob ids d n t old new options x stored grew fit
