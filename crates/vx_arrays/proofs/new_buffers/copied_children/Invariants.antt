use Rattle.std.proofs.Common.{◌≡◌, take}
use Rattle.vx_arrays.proofs.new_buffers.copied_children.Given as goal

-- the copies so far are the first children
abbrev pub invariant-loop-child : goal.invariant-loop-child
invariant-loop-child l = l.copies.items ≡ take l.child-index l.children
