use Rattle.std.proofs.Common.{◌≡◌, take}
use Rattle.vx_arrays.proofs.encodings.varbinview.clones.Given as goal

-- the copies so far are the first buffers
abbrev pub invariant-loop-buffer : goal.invariant-loop-buffer
invariant-loop-buffer l = l.copies.items ≡ take l.buffer-index l.buffers
