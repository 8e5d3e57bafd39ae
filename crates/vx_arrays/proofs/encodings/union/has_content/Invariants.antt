use Rattle.std.proofs.Common.{ℕ, ◌<◌}
use Rattle.vx_trees.specs.Rose.{roses_of}
use Rattle.vx_array_tree.specs.Tree.{rows_of}
use Rattle.vx_arrays.specs.Unions.{IsTagged}
use Rattle.vx_arrays.proofs.encodings.union.has_content.Given as goal

-- the tags so far are right
abbrev pub invariant-loop-i : goal.invariant-loop-i
invariant-loop-i l = (k : ℕ) → k < l.i → IsTagged l.ids (rows_of l.tags) (roses_of l.members) k
