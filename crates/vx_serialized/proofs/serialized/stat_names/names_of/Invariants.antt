use Rattle.std.proofs.Common.{◌≡◌, ◌++◌, drop}
use Rattle.vx_flat.specs.Seen.{seen}
use Rattle.vx_scalars.specs.StatTypes.{all_stats}
use Rattle.vx_serialized.specs.StatNames.{names_standing}
use Rattle.vx_serialized.proofs.serialized.stat_names.names_of.Given as goal

-- The names so far, and then those of the statistics that are left.
abbrev pub invariant-loop-stat : goal.invariant-loop-stat
invariant-loop-stat l = record {
  whole : l.stat-items ≡ all_stats;
  so_far : l.names ++ names_standing (seen l.table) (drop l.stat-index all_stats) ≡ names_standing (seen l.table) all_stats;
}
