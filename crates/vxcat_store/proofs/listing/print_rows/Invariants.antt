use Rattle.std.proofs.Common.{◌≤◌, ◌-◌}
use Rattle.vxcat_store.specs.Listing.{row_lines}
use Rattle.vxcat_store.proofs.KnownText.{AppendsUpTo}
use Rattle.vxcat_store.proofs.listing.print_rows.Given as goal

abbrev pub invariant-loop-i : goal.invariant-loop-i
invariant-loop-i g l = record {
  written : AppendsUpTo (g.O.Sink.state l.fn.out).written (g.O.Sink.state l.out).written (row_lines l.array 0 l.shown) (row_lines l.array l.i (l.shown - l.i));
  never_decreases : (g.O.Sink.state l.fn.out).faults ≤ (g.O.Sink.state l.out).faults;
}
