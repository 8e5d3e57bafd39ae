use Rattle.std.proofs.Common.{◌≡◌, take, option_copied}
use Rattle.vx_scalars.specs.Measures.{value_size, slice_size}
use Rattle.vx_scalars.specs.Seen.{all_seen, seen}
use Rattle.vx_rows.proofs.row_scalars.+rows_of_scalars.Given as goal

abbrev pub decreases-row_of_value : goal.decreases-row_of_value
decreases-row_of_value l = value_size (seen (option_copied l.value))

abbrev pub decreases-rows_of_values : goal.decreases-rows_of_values
decreases-rows_of_values l = slice_size (all_seen l.values.now)

-- the rows so far are those of the first values
abbrev pub invariant-rows_of_values-loop-value : goal.invariant-rows_of_values-loop-value
invariant-rows_of_values-loop-value l = l.rows ≡ all_seen (take l.value-index l.values)
