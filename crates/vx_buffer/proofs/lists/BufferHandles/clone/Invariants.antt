use Rattle.std.proofs.Common.{◌≡◌, take}
use Rattle.vx_buffer.proofs.lists.BufferHandles.clone.Given as goal

-- The copies so far are the first buffers.
abbrev pub invariant-loop-buffer : goal.invariant-loop-buffer
invariant-loop-buffer l = l.items.items ≡ take l.buffer-index l.buffer-items
