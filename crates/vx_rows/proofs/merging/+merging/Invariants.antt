use Rattle.std.proofs.Common.{◌+◌, ◌*◌, take}
use Rattle.vx_trees.specs.Rose.{roses_of}
use Rattle.vx_trees.specs.Walks.{nodes, nodes_of}
use Rattle.vx_scalars.specs.Seen.{value_of}
use Rattle.vx_rows.specs.Merging.{AreNamed, given_at, listed, raw_of}
use Rattle.vx_rows.proofs.merging.+merging.Given as goal

-- A struct is merged field by field.
abbrev pub decreases-merged : goal.decreases-merged
decreases-merged l = 3 * nodes (value_of l.value.now)

abbrev pub decreases-joined : goal.decreases-joined
decreases-joined l = 3 * nodes_of (roses_of l.typed.values.now) + 2

abbrev pub decreases-push_given : goal.decreases-push_given
decreases-push_given l = 3 * nodes_of (roses_of l.typed.values.now) + 1

-- the first names are gone over
abbrev pub invariant-push_given-loop-name : goal.invariant-push_given-loop-name
invariant-push_given-loop-name l = AreNamed l.fields (listed (given_at (raw_of l.typed) (raw_of l.raw)) (take l.name-index l.name-items))
