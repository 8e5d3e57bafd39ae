use Rattle.vx_array_tree.specs.Tree.{rows_of}
use Rattle.vx_arrays.proofs.Rising.{AreRisen}
use Rattle.vx_arrays.proofs.offsets.are_offsets_by_rows.Given as goal

-- the rows so far have risen, and the last of them is kept
abbrev pub invariant-loop-i : goal.invariant-loop-i
invariant-loop-i l = AreRisen (rows_of l.offsets) l.i l.last
