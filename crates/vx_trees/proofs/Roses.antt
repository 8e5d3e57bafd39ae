-- The laws that a loop over the trees below a node needs.
use Rattle.vx_trees.proofs.Lists.{roses_of-empty, length-roses_of_end}
use Rattle.vx_trees.proofs.Counting.{nodes-is, nodes-at}
use Rattle.vx_trees.proofs.Gathering.{gathered-is, gathered_below-take}

pub ruleset roses = (nodes-is, gathered-is, nodes-at, gathered_below-take, roses_of-empty, length-roses_of_end)
