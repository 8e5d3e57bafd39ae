use Rattle.std.proofs.Common.{take}
use Rattle.vx_scalars.specs.Stats.{IsNowhere}
use Rattle.vx_scalars.proofs.stats_set.place_in.Given as goal

abbrev pub invariant-loop-i : goal.invariant-loop-i
invariant-loop-i l = IsNowhere l.stat (take l.i l.entries)
