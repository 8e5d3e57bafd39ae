use Rattle.std.proofs.Common.{◌≡◌, take}
use Rattle.vx_arrays.proofs.array.Array.+clone.Given as goal

-- the copies so far are the first children
abbrev pub invariant-loop-child : goal.invariant-loop-child
invariant-loop-child l = l.children.items ≡ take l.child-index l.child-items
