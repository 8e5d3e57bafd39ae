use Rattle.std.proofs.Common.{suc}
use Rattle.vx_arrays.specs.Offsets.{plain_rows}
use Rattle.vx_arrays.proofs.Rising.{AreRisen}
use Rattle.vx_arrays.proofs.plain_offsets.are_rising.Given as goal

-- the numbers so far have risen, and the last of them is kept
abbrev pub invariant-loop-i : goal.invariant-loop-i
invariant-loop-i g l = AreRisen (plain_rows g.T.Unsigned.kind (suc l.parts) l.bytes) l.i l.last
