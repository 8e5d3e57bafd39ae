use Rattle.vx_types.proofs.Trees.{typ-injective}
use Rattle.vx_types.proofs.laws.same_tree_is_same_type.Goals as goal

pub returns : goal.returns
returns c = typ-injective
