use Rattle.vx_proto.proofs.Nests.{too_deep}
use Rattle.vx_proto.proofs.laws.deep_nests_over.Goals as goal

pub returns : goal.returns
returns c = too_deep
