use Rattle.std.proofs.Common.{arith}
use Rattle.vxcat_store.proofs.KnownText.{up_to_more}
use Rattle.vxcat_store.proofs.print.write_text.Goals as goal

pub loop-rest-preserved : goal.loop-rest-preserved
loop-rest-preserved g c = record {
  written = rw c.split_at.ensures.back (up_to_more _ _ _ _ _ _ c.loop-rest.invariant.written c.in_ok-taken.ensures.written);
  never_decreases = omega (arith, c.loop-rest.invariant.never_decreases, c.write.ensures.never_decreases);
}
