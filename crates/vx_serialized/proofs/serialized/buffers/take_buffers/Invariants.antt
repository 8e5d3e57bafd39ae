use Rattle.std.proofs.Common.{◌≡◌, ◌+◌, ◌*◌, ◌≤◌, ◌^◌, ◌++◌, length}
use Rattle.vx_serialized.specs.declared.error.WireError.{WireError}
use Rattle.vx_serialized.specs.Message.{descriptors_of}
use Rattle.vx_serialized.specs.Overrides.{overrides_in, buffers_with, AreCleanWith, RefusesOne}
use Rattle.vx_serialized.proofs.serialized.buffers.take_buffers.Given as goal

-- What was taken, and then what is left, is the whole.
abbrev pub invariant-loop-descriptor : goal.invariant-loop-descriptor
invariant-loop-descriptor l =
    let given = overrides_in l.overrides in
    let n = length l.segment.bytes in
    (l.buffers ++ buffers_with given l.segment.bytes l.number l.place (descriptors_of l.left) ≡ buffers_with given l.segment.bytes 0 0 (descriptors_of l.descriptors))
    × (AreCleanWith given n l.number l.place (descriptors_of l.left) → AreCleanWith given n 0 0 (descriptors_of l.descriptors))
    × ((e : WireError) → RefusesOne e given n l.number l.place (descriptors_of l.left) → RefusesOne e given n 0 0 (descriptors_of l.descriptors))
    × (l.number + length l.left ≤ length l.descriptors)
    × (l.place ≤ 2 ^ 33 * l.number)

abbrev pub decreases-loop-descriptor : goal.decreases-loop-descriptor
decreases-loop-descriptor l = length l.left
