use Rattle.std.proofs.Common.{take}
use Rattle.vx_trees.specs.Everywhere.{EverywhereBelow}
use Rattle.vx_trees.specs.Rose.{roses_of}
use Rattle.vx_array_tree.specs.Sound.{IsNativeNode}
use Rattle.vx_arrays.proofs.array.Array.+has_no_foreign.Given as goal

-- no child so far holds a foreign node
abbrev pub invariant-loop-child : goal.invariant-loop-child
invariant-loop-child l = EverywhereBelow IsNativeNode (roses_of (take l.child-index l.child-items))
