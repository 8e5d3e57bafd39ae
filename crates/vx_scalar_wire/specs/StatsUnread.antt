-- Why a table of statistics is refused, of arrays of a type.
use Rattle.std.specs.Prelude.{ℕ, ◌<◌, ◌≡◌, ◌⊎◌, false, List, Option, Some}
use Rattle.vx_flat.specs.Value.{Field, number, elements, Fields}
use Rattle.vx_type_wire.specs.Known.{no_readers}
use Rattle.vx_types.specs.Fits.{Fits}
use Rattle.vx_types.specs.Typ.{Typ}
use Rattle.vx_types.specs.Value as V
use Rattle.vx_types.specs.Value.{is_null}
use Rattle.vx_scalars.specs.StatTypes.{stat_type}
use Rattle.vx_scalars.specs.declared.stat.Stat.{Stat}
use Rattle.vx_scalars.specs.declared.stat.Stat.TheVariants.{Min, Max, Sum}
use Rattle.vx_scalar_wire.specs.Reading.{ShowsValue}
use Rattle.vx_scalar_wire.specs.RefusingCalls.{RefusesReadingValueBytes}
use Rattle.vx_scalar_wire.specs.StatsShown.{HoldsStat, part}
use Rattle.vx_scalar_wire.specs.declared.error.ScalarWireError.{ScalarWireError}
use Rattle.vx_scalar_wire.specs.declared.error.ScalarWireError.TheVariants.{OutOfMemory, BadScalar, BadPrecision}

-- Bytes show a value that is not null and does not fit the type.
abbrev pub ShowsUnfit : Typ → List ℕ → Type 0
ShowsUnfit d bytes = (v : V.Value) × ShowsValue no_readers v d bytes × (is_null v ≡ false) × (Fits v d → ⊥)

-- Bytes are refused as a value's, or what they show does not fit. Allocation failure has no cause.
abbrev pub RefusesStatBytes : ScalarWireError → Typ → List ℕ → Type 0
RefusesStatBytes BadScalar d bytes = RefusesReadingValueBytes BadScalar no_readers d bytes ⊎ ShowsUnfit d bytes
RefusesStatBytes e d bytes = RefusesReadingValueBytes e no_readers d bytes

-- The bytes in a field are refused at the statistic's type. A field without a type is not looked at.
abbrev pub RefusesStatField : ScalarWireError → Option Typ → Field → Type 0
RefusesStatField OutOfMemory o f = Unit {0}
RefusesStatField e (Some d) (elements bytes) = RefusesStatBytes e d bytes
RefusesStatField e _ f = ⊥

-- A value stands, and the precision beside it is over 1.
abbrev pub HasBadPrecision : Option Typ → Field → Field → Type 0
HasBadPrecision o f p = (v : V.Value) × (n : ℕ) × HoldsStat o f v × (p ≡ number n) × (1 < n)

-- A least or greatest value is refused for its bytes or its precision.
abbrev pub RefusesBound : ScalarWireError → Option Typ → Field → Field → Type 0
RefusesBound e o f p = RefusesStatField e o f ⊎ ((e ≡ BadPrecision) × HasBadPrecision o f p)

-- Why a statistic is refused. Flags and counts are not.
abbrev pub RefusesStat : ScalarWireError → Stat → Typ → Fields → Type 0
RefusesStat e Min d vs = RefusesBound e (stat_type Min d) (part vs 0) (part vs 1)
RefusesStat e Max d vs = RefusesBound e (stat_type Max d) (part vs 2) (part vs 3)
RefusesStat e Sum d vs = RefusesStatField e (stat_type Sum d) (part vs 4)
RefusesStat e _ d vs = ⊥

-- A table is refused for one of its statistics.
abbrev pub RefusesReadingStats : ScalarWireError → Typ → Fields → Type 0
RefusesReadingStats OutOfMemory d vs = Unit {0}
RefusesReadingStats e d vs = (s : Stat) × RefusesStat e s d vs
