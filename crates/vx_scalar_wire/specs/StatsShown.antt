-- Which statistics a table shows, of arrays of a type.
use Rattle.std.specs.Prelude.{ℕ, ◌==◌, not, ◌≡◌, ◌⊎◌, Option, Some, None}
use Rattle.vx_flat.specs.Entries.{part_at}
use Rattle.vx_flat.specs.Value.{Field, absent, number, elements, table, Fields}
use Rattle.vx_type_wire.specs.Known.{no_readers}
use Rattle.vx_types.specs.Typ.{Typ}
use Rattle.vx_types.specs.Value as V
use Rattle.vx_types.specs.Value.{lone}
use Rattle.vx_numbers.specs.declared.value.PValue.TheVariants.{U64}
use Rattle.vx_scalars.specs.StatTypes.{stat_type}
use Rattle.vx_scalars.specs.Stats.{Told, Stats, told_at, no_stats, IsOfType}
use Rattle.vx_scalars.specs.declared.precision.Precision.TheVariants.{Exact, Inexact, Absent}
use Rattle.vx_scalars.specs.declared.stat.Stat.{Stat}
use Rattle.vx_scalars.specs.declared.stat.Stat.TheVariants.{Min, Max, Sum, IsSorted, IsStrictSorted, IsConstant, NullCount, UncompressedSizeInBytes, NaNCount}
use Rattle.vx_scalar_wire.specs.Reading.{ShowsValue}
use Rattle.vx_scalar_wire.specs.StatsSchema.{stats_fields}

-- ---- one field

-- A field holds the message of a value that is of the statistic's type, and not null. No type of a statistic has a
-- variant in it, so no reader of extensions is asked.
abbrev pub HoldsStat : Option Typ → Field → V.Value → Type 0
HoldsStat (Some d) (elements bytes) v = ShowsValue no_readers v d bytes × IsOfType (Some d) v
HoldsStat _ _ v = ⊥

-- A field tells nothing: arrays of the type have no such statistic, or it does not stand, or it holds the message of null.
abbrev pub TellsNothing : Option Typ → Field → Type 0
TellsNothing None f = Unit {0}
TellsNothing (Some d) absent = Unit {0}
TellsNothing (Some d) (elements bytes) = ShowsValue no_readers (lone V.null) d bytes
TellsNothing (Some d) _ = ⊥

-- It is told what it holds, or that it tells nothing.
abbrev pub IsToldField : Option Typ → Field → Type 0
IsToldField o f = TellsNothing o f ⊎ ((v : V.Value) × HoldsStat o f v)

-- ---- one statistic

-- A least or greatest value is told as the precision beside it says, where it stands: 1 is exact, and 0 a bound.
abbrev pub ShowsBound : Option Typ → Field → Field → Told → Type 0
ShowsBound o f p (Exact v) = HoldsStat o f v × (p ≡ number 1)
ShowsBound o f p (Inexact v) = HoldsStat o f v × (p ≡ number 0)
ShowsBound o f p Absent = TellsNothing o f

-- A sum that stands is exact.
abbrev pub ShowsSum : Option Typ → Field → Told → Type 0
ShowsSum o f (Exact v) = HoldsStat o f v
ShowsSum o f (Inexact v) = ⊥
ShowsSum o f Absent = TellsNothing o f

-- So is a flag,
abbrev pub ShowsFlag : Field → Told → Type 0
ShowsFlag absent x = x ≡ Absent
ShowsFlag (number n) x = x ≡ Exact (lone (V.bool (not (n == 0))))
ShowsFlag _ x = ⊥

-- and a count.
abbrev pub ShowsCount : Field → Told → Type 0
ShowsCount absent x = x ≡ Absent
ShowsCount (number n) x = x ≡ Exact (lone (V.number (U64 n)))
ShowsCount _ x = ⊥

-- ---- the nine

-- The field of a table that has this entry.
abbrev pub part : Fields → ℕ → Field
part vs i = part_at stats_fields vs i

-- What a table shows of a statistic, of arrays of a type.
abbrev pub ShowsStat : Stat → Typ → Fields → Told → Type 0
ShowsStat Min d vs = ShowsBound (stat_type Min d) (part vs 0) (part vs 1)
ShowsStat Max d vs = ShowsBound (stat_type Max d) (part vs 2) (part vs 3)
ShowsStat Sum d vs = ShowsSum (stat_type Sum d) (part vs 4)
ShowsStat IsSorted d vs = ShowsFlag (part vs 5)
ShowsStat IsStrictSorted d vs = ShowsFlag (part vs 6)
ShowsStat IsConstant d vs = ShowsFlag (part vs 7)
ShowsStat NullCount d vs = ShowsCount (part vs 8)
ShowsStat UncompressedSizeInBytes d vs = ShowsCount (part vs 9)
ShowsStat NaNCount d vs = ShowsCount (part vs 10)

-- A table shows a set of statistics: what is told of each of the nine.
abbrev pub ShowsStats : Typ → Fields → Stats → Type 0
ShowsStats d vs t = (s : Stat) → ShowsStat s d vs (told_at t s)

-- So does a field that may hold such a table: without one nothing is told.
abbrev pub ShowsStatsIn : Typ → Field → Stats → Type 0
ShowsStatsIn d absent t = t ≡ no_stats
ShowsStatsIn d (table vs) t = ShowsStats d vs t
ShowsStatsIn d _ t = ⊥
