use Rattle.std.proofs.Common.{◌≡◌, false, take}
use Rattle.vx_trees.specs.Rose.{roses_of}
use Rattle.vx_types.specs.Value.{have_opaque}
use Rattle.vx_scalars.specs.Measures.{value_size, slice_size}
use Rattle.vx_rows.specs.Plain.{plain_value, plain_values}
use Rattle.vx_rows.proofs.row_scalars.+opaque.Given as goal

abbrev pub decreases-has_opaque : goal.decreases-has_opaque
decreases-has_opaque l = value_size (plain_value l.row.now)

abbrev pub decreases-have_opaque : goal.decreases-have_opaque
decreases-have_opaque l = slice_size (plain_values l.rows.now)

-- nothing opaque stands in the first rows
abbrev pub invariant-have_opaque-loop-i : goal.invariant-have_opaque-loop-i
invariant-have_opaque-loop-i l = have_opaque (roses_of (plain_values (take l.i l.rows))) ≡ false
