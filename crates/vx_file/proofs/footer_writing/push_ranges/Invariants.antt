-- The bytes so far, before those of the ranges that are left, are all; and all ranges fit where those that are left do.
use Rattle.std.proofs.Common.{◌≡◌, ◌++◌, drop}
use Rattle.std.specs.List.{flat_map, AllByRecursion}
use Rattle.vx_file.specs.Footer.{range_form, ranges_form}
use Rattle.vx_file.specs.FooterReading.{ranges_of}
use Rattle.vx_file.proofs.FooterPushes.{range_bytes, range_fits}
use Rattle.vx_file.proofs.footer_writing.push_ranges.Given as goal

abbrev pub invariant-loop-range : goal.invariant-loop-range
invariant-loop-range l = record {
  written : l.out.items ++ flat_map range_bytes (drop l.range-index l.ranges) ≡ l.fn.out.items ++ ranges_form.write (ranges_of l.ranges);
  fit : AllByRecursion range_fits (drop l.range-index l.ranges) → AllByRecursion range_form.Fits (ranges_of l.ranges);
}
