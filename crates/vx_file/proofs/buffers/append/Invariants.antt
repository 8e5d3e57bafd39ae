-- The buffers so far.
use Rattle.std.proofs.Common.{◌≡◌, ◌++◌}
use Rattle.vx_buffer.specs.Joined.{joined}
use Rattle.vx_file.proofs.buffers.append.Given as goal

abbrev pub invariant-loop-buffer : goal.invariant-loop-buffer
invariant-loop-buffer l = joined l.buffers ≡ joined l.fn.buffers ++ joined l.yielded
