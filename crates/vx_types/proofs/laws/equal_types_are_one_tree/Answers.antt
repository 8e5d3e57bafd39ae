use Rattle.vx_trees.proofs.Sameness.{same-decides}
use Rattle.vx_types.specs.Typ.{typ_code}
use Rattle.vx_types.proofs.laws.equal_types_are_one_tree.Goals as goal

pub returns : goal.returns
returns c = λ a b. (same-decides typ_code a b)
