use Rattle.vx_serialized.proofs.LawsOfRefusals.{carried_longer}
use Rattle.vx_serialized.proofs.laws.carried_longer.Goals as goal

pub returns : goal.returns
returns c = λ blob ids others w whole x. carried_longer blob ids others w whole x
