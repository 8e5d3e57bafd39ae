use Rattle.std.proofs.Common.{◌≡◌, take}
use Rattle.std.specs.List.{fold}
use Rattle.vx_trees.specs.Rose.{roses_of}
use Rattle.vx_trees.specs.Walks.{gathered_below}
use Rattle.vx_arrays.specs.Compared.{fed_head}
use Rattle.vx_arrays.proofs.array.Array.+array_hash.Given as goal

-- the children so far are fed
abbrev pub invariant-loop-child : goal.invariant-loop-child
invariant-loop-child g l = l.state ≡ fold g.H.Hasher.write l.initial.state (gathered_below fed_head (roses_of (take l.child-index l.child-items)))
