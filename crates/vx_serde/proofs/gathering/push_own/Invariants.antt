use Rattle.std.proofs.Common.{◌≡◌, ◌++◌, take}
use Rattle.vx_trees.specs.Rose.{label}
use Rattle.vx_array_tree.specs.Table.{buffers_of}
use Rattle.vx_serde.proofs.gathering.push_own.Given as goal

abbrev pub invariant-loop-i : goal.invariant-loop-i
invariant-loop-i l = l.found ≡ l.initial.found ++ take l.i (buffers_of (label l.array).body)
