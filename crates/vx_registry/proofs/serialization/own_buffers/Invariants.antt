use Rattle.std.proofs.Common.{◌≡◌, take}
use Rattle.vx_trees.specs.Rose.{label}
use Rattle.vx_array_tree.specs.Table.{buffers_of}
use Rattle.vx_registry.proofs.serialization.own_buffers.Given as goal

-- The buffers so far.
abbrev pub invariant-loop-i : goal.invariant-loop-i
invariant-loop-i l = l.buffers ≡ take l.i (buffers_of (label l.array).body)
