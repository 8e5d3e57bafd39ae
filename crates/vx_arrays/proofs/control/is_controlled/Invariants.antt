use Rattle.vx_types.specs.Seen.{typ}
use Rattle.vx_array_tree.specs.Table.{encoding_of, is_control}
use Rattle.std.proofs.Common.{length}
use Rattle.vx_arrays.specs.Plain.{plain_body}
use Rattle.vx_arrays.proofs.Controlled.{AreKnown}
use Rattle.vx_arrays.proofs.control.is_controlled.Given as goal

-- the children so far that are control children hold no foreign node
abbrev pub invariant-loop-i : goal.invariant-loop-i
invariant-loop-i l = AreKnown (λ j. is_control (encoding_of (plain_body l.body)) (typ l.dtype) (length l.children) j) l.children l.i
