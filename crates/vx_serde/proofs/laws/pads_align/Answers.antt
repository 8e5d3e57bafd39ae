use Rattle.vx_serde.proofs.PadsAlign.{descriptors-align, gap-least}
use Rattle.vx_serde.proofs.laws.pads_align.Goals as goal

pub returns-clause-aligned : goal.returns-clause-aligned
returns-clause-aligned c = λ options position bs asked. descriptors-align options position bs asked

pub returns-clause-least : goal.returns-clause-least
returns-clause-least c = λ n position m h e. gap-least n position m h e
