use Rattle.std.proofs.Common.{take, option_copied}
use Rattle.vx_trees.specs.Rose.{roses_of}
use Rattle.vx_types.specs.Fits.{EachFits, FitBy}
use Rattle.vx_types.specs.Seen.{typ, typs}
use Rattle.vx_types.specs.Words.{entries}
use Rattle.vx_scalars.specs.Measures.{value_size, ref_size, values_size, slice_size}
use Rattle.vx_scalars.specs.Seen.{seen, all_seen}
use Rattle.vx_scalars.proofs.fits.+fits.Given as goal

abbrev pub decreases-fits : goal.decreases-fits
decreases-fits l = value_size (seen (option_copied l.value))

abbrev pub decreases-fit_parts : goal.decreases-fit_parts
decreases-fit_parts l = values_size l.values.now

abbrev pub decreases-each_fits : goal.decreases-each_fits
decreases-each_fits l = slice_size (all_seen l.values.now)

abbrev pub decreases-fit_by : goal.decreases-fit_by
decreases-fit_by l = slice_size (all_seen l.values.now)

abbrev pub decreases-each_is_entry : goal.decreases-each_is_entry
decreases-each_is_entry l = slice_size (all_seen l.values.now)

abbrev pub decreases-is_entry : goal.decreases-is_entry
decreases-is_entry l = value_size (seen (option_copied l.value))

abbrev pub decreases-fits_member : goal.decreases-fits_member
decreases-fits_member l = ref_size l.value.now

abbrev pub invariant-each_fits-loop-value : goal.invariant-each_fits-loop-value
invariant-each_fits-loop-value l = EachFits (roses_of (all_seen (take l.value-index l.values))) (typ l.dtype)

abbrev pub invariant-fit_by-loop-i : goal.invariant-fit_by-loop-i
invariant-fit_by-loop-i l = FitBy (roses_of (all_seen (take l.i l.values))) (roses_of (typs (take l.i l.dtypes)))

abbrev pub invariant-each_is_entry-loop-value : goal.invariant-each_is_entry-loop-value
invariant-each_is_entry-loop-value l = EachFits (roses_of (all_seen (take l.value-index l.values))) (entries l.map)
