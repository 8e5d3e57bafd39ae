use Rattle.std.proofs.Common.{◌≡◌}
use Rattle.vx_flat.specs.Seen.{seen}
use Rattle.vx_types.specs.Seen.{typ}
use Rattle.vx_scalars.specs.StatTypes.{all_stats}
use Rattle.vx_scalar_wire.proofs.StatsRead.{ShowsFront}
use Rattle.vx_scalar_wire.proofs.stats.StatsSetStatsSetExt.from_flatbuffer.Given as goal

abbrev pub invariant-loop-stat : goal.invariant-loop-stat
invariant-loop-stat l = record {
  whole : l.stat-items ≡ all_stats;
  so_far : ShowsFront l.stat-index (typ l.dtype) (seen l.view) l.set;
}
