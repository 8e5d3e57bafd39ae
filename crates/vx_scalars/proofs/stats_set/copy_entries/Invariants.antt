use Rattle.std.proofs.Common.{◌≡◌, take}
use Rattle.vx_scalars.proofs.stats_set.copy_entries.Given as goal

abbrev pub invariant-loop-i : goal.invariant-loop-i
invariant-loop-i l = l.copies.items ≡ take l.i l.entries
