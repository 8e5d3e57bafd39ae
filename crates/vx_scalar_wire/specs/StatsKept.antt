-- What is kept of a set of statistics where it is written.
use Rattle.vx_scalars.specs.Stats.{Told, Stats}
use Rattle.vx_scalars.specs.WrittenStats.{canonical_sum}
use Rattle.vx_scalars.specs.declared.precision.Precision.TheVariants.{Exact, Inexact, Absent}

-- A sum that is told, exactly or not, as the NaN of its width where it is no number,
abbrev pub canonical_told : Told → Told
canonical_told (Exact v) = Exact (canonical_sum v)
canonical_told (Inexact v) = Inexact (canonical_sum v)
canonical_told Absent = Absent

-- and a set with its sum so, and all else as it is: nothing is left out.
abbrev pub canonical_stats : Stats → Stats
canonical_stats t = record t { total = canonical_told t.total }
