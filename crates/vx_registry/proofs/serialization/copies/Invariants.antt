use Rattle.std.proofs.Common.{◌≡◌, take}
use Rattle.vx_trees.specs.Rose.{roses_list}
use Rattle.vx_registry.proofs.serialization.copies.Given as goal

-- The copies so far are the arrays so far.
abbrev pub invariant-loop-array : goal.invariant-loop-array
invariant-loop-array l = roses_list l.copies ≡ take l.array-index l.arrays
