use Rattle.vx_serde.proofs.Returning as Returning
use Rattle.vx_serde.proofs.laws.serialized_returns.Goals as goal

pub returns : goal.returns
returns c = λ s t options before after bs x r. Returning.serialized_returns s t options before after bs x r
