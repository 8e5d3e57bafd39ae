use Rattle.std.proofs.Common.{◌≡◌, ◌+◌, take, option_copied}
use Rattle.vx_scalars.specs.Measures.{value_size, slice_size, typed_size}
use Rattle.vx_scalars.specs.Seen.{all_seen, seen, value_of}
use Rattle.vx_rows.proofs.same_scalars.+same_scalars.Given as goal

abbrev pub decreases-is_same_scalar : goal.decreases-is_same_scalar
decreases-is_same_scalar l = typed_size l.a.now

abbrev pub decreases-is_same_value : goal.decreases-is_same_value
decreases-is_same_value l = value_size (seen (option_copied l.a)) + 1

abbrev pub decreases-is_same_present : goal.decreases-is_same_present
decreases-is_same_present l = value_size (value_of l.a.now)

abbrev pub decreases-are_same_values : goal.decreases-are_same_values
decreases-are_same_values l = slice_size (all_seen l.a.now)

-- the first values are the same
abbrev pub invariant-are_same_values-loop-i : goal.invariant-are_same_values-loop-i
invariant-are_same_values-loop-i l = all_seen (take l.i l.a) ≡ all_seen (take l.i l.b)
