use Rattle.std.proofs.Common.{◌≤◌, length}
use Rattle.vxcat_store.proofs.KnownText.{AppendsUpTo}
use Rattle.vxcat_store.proofs.print.write_text.Given as goal

abbrev pub invariant-loop-rest : goal.invariant-loop-rest
invariant-loop-rest g l = record {
  written : AppendsUpTo (g.O.Sink.state l.fn.out).written (g.O.Sink.state l.out).written l.fn.text l.rest;
  never_decreases : (g.O.Sink.state l.fn.out).faults ≤ (g.O.Sink.state l.out).faults;
}

abbrev pub decreases-loop-rest : goal.decreases-loop-rest
decreases-loop-rest g l = length l.rest
