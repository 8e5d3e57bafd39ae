use Rattle.vx_serialized.proofs.LawsOfBlobs.{carried_once}
use Rattle.vx_serde.proofs.laws.one_tree.Goals as goal

pub returns : goal.returns
returns c = λ blob ids w w' a b. (carried_once blob ids w w' a b).tree
