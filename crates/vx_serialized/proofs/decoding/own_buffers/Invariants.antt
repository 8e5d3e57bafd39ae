use Rattle.std.proofs.Common.{◌≡◌, map, take, Some}
use Rattle.std.specs.Prelude.{slice_get}
use Rattle.vx_trees.specs.Rose.{label}
use Rattle.vx_serialized.proofs.decoding.own_buffers.Given as goal

-- The buffers so far are those that the first numbers stand for.
abbrev pub invariant-loop-i : goal.invariant-loop-i
invariant-loop-i l = take l.i (map (λ k. slice_get l.node.buffers k) (label l.node.root).buffers) ≡ map (λ b. Some b) l.own
