use Rattle.vx_serde.proofs.OneArray.{spelled_once}
use Rattle.vx_serde.proofs.laws.one_array.Goals as goal

pub returns : goal.returns
returns c = λ blob ids d n s t u law x y. spelled_once blob ids d n s t u law x y
