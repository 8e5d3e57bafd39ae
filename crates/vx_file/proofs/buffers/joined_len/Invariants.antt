-- The number so far, and that of the buffers that are left, are all.
use Rattle.std.proofs.Common.{◌≡◌, ◌+◌, length, drop}
use Rattle.vx_buffer.specs.Joined.{joined}
use Rattle.vx_file.proofs.buffers.joined_len.Given as goal

abbrev pub invariant-loop-buffer : goal.invariant-loop-buffer
invariant-loop-buffer l = l.len + length (joined (drop l.buffer-index l.buffer-items)) ≡ length (joined l.buffers)
