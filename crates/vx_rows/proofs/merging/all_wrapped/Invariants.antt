use Rattle.std.proofs.Common.{◌≡◌, take}
use Rattle.vx_trees.specs.Rose.{roses_of}
use Rattle.vx_types.specs.Seen.{typ}
use Rattle.vx_scalars.specs.Seen.{all_seen}
use Rattle.vx_array_tree.specs.Merge.{each_wrapped}
use Rattle.vx_rows.proofs.merging.all_wrapped.Given as goal

-- the first elements are wrapped
abbrev pub invariant-loop-value : goal.invariant-loop-value
invariant-loop-value l = roses_of l.all ≡ each_wrapped (typ l.element) (roses_of (all_seen (take l.value-index l.value-items)))
