-- The bytes so far, before those of the buffers that are left, are the word and all buffers.
use Rattle.std.proofs.Common.{◌≡◌, ◌++◌, drop}
use Rattle.vx_buffer.specs.Joined.{joined}
use Rattle.vx_file.specs.Footer.{file_word}
use Rattle.vx_file.proofs.buffers.join_file.Given as goal

abbrev pub invariant-loop-buffer : goal.invariant-loop-buffer
invariant-loop-buffer l = l.out.items ++ joined (drop l.buffer-index l.buffer-items) ≡ file_word ++ joined l.buffers
