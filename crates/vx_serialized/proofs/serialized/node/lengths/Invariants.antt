use Rattle.std.proofs.Common.{◌≡◌, ◌++◌, length}
use Rattle.vx_serialized.specs.Message.{descriptors_of}
use Rattle.vx_serialized.specs.Serialized.{lengths_of}
use Rattle.vx_serialized.proofs.serialized.node.lengths.Given as goal

abbrev pub invariant-loop-descriptor : goal.invariant-loop-descriptor
invariant-loop-descriptor l = l.lengths ++ lengths_of (descriptors_of l.left) ≡ lengths_of (descriptors_of l.descriptors)

abbrev pub decreases-loop-descriptor : goal.decreases-loop-descriptor
decreases-loop-descriptor l = length l.left
