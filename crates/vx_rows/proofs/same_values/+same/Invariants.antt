use Rattle.std.proofs.Common.{◌≡◌, take}
use Rattle.vx_scalars.specs.Measures.{value_size, slice_size}
use Rattle.vx_rows.specs.Plain.{plain_value, plain_values}
use Rattle.vx_rows.proofs.same_values.+same.Given as goal

abbrev pub decreases-is_same : goal.decreases-is_same
decreases-is_same l = value_size (plain_value l.a.now)

abbrev pub decreases-are_same : goal.decreases-are_same
decreases-are_same l = slice_size (plain_values l.a.now)

abbrev pub invariant-are_same-loop-i : goal.invariant-are_same-loop-i
invariant-are_same-loop-i l = plain_values (take l.i l.a) ≡ plain_values (take l.i l.b)
