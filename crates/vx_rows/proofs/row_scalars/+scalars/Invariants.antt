use Rattle.std.proofs.Common.{◌≡◌, take}
use Rattle.vx_scalars.specs.Measures.{value_size, slice_size}
use Rattle.vx_rows.specs.Plain.{plain_value, plain_values}
use Rattle.vx_rows.proofs.row_scalars.+scalars.Given as goal

abbrev pub decreases-scalar_value : goal.decreases-scalar_value
decreases-scalar_value l = value_size (plain_value l.row.now)

abbrev pub decreases-scalar_values : goal.decreases-scalar_values
decreases-scalar_values l = slice_size (plain_values l.rows.now)

-- the values so far are those of the first rows
abbrev pub invariant-scalar_values-loop-i : goal.invariant-scalar_values-loop-i
invariant-scalar_values-loop-i l = l.values ≡ plain_values (take l.i l.rows)
