use Rattle.std.proofs.Common.{◌≡◌, ◌++◌, drop}
use Rattle.vx_buffer.specs.Joined.{joined}
use Rattle.vx_buffer.proofs.lists.ByteBuffers.join.Given as goal

-- The bytes so far, and after them those of the buffers that are left, are all the bytes.
abbrev pub invariant-loop-buffer : goal.invariant-loop-buffer
invariant-loop-buffer l = l.bytes.items ++ joined (drop l.buffer-index l.buffer-items) ≡ joined l.self
