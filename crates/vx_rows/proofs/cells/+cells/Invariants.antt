use Rattle.std.proofs.Common.{◌≡◌, ◌+◌, take, option_copied}
use Rattle.vx_trees.specs.Rose.{roses_of}
use Rattle.vx_types.specs.Value.{values_cells}
use Rattle.vx_scalars.specs.Measures.{value_size, slice_size}
use Rattle.vx_scalars.specs.Seen.{all_seen, seen}
use Rattle.vx_rows.proofs.cells.+cells.Given as goal

abbrev pub decreases-spend_value : goal.decreases-spend_value
decreases-spend_value l = value_size (seen (option_copied l.value))

abbrev pub decreases-spend_values : goal.decreases-spend_values
decreases-spend_values l = slice_size (all_seen l.values.now)

-- the cells of the first values are spent
abbrev pub invariant-spend_values-loop-value : goal.invariant-spend_values-loop-value
invariant-spend_values-loop-value l = l.fn.budget ≡ values_cells (roses_of (all_seen (take l.value-index l.values))) + l.budget
