-- Those so far lie within, so all do where the others do.
use Rattle.std.proofs.Common.{◌≡◌, drop}
use Rattle.std.specs.List.{list_all}
use Rattle.vx_file.specs.Within.{lies_within}
use Rattle.vx_file.specs.FooterReading.{ranges_of}
use Rattle.vx_file.proofs.footer.are_within.Given as goal

abbrev pub invariant-loop-range : goal.invariant-loop-range
invariant-loop-range l = list_all (lies_within l.offset) (ranges_of l.ranges) ≡ list_all (lies_within l.offset) (ranges_of (drop l.range-index l.ranges))
