-- Why a set of statistics is not written.
use Rattle.std.specs.Prelude.{◌≤◌, ◌⊎◌}
use Rattle.vx_flat.specs.Building.{Built, IsTooLong}
use Rattle.vx_proto.specs.Written.{nested}
use Rattle.vx_types.specs.Value as V
use Rattle.vx_scalars.specs.Stats.{Told, Stats}
use Rattle.vx_scalars.specs.declared.precision.Precision.TheVariants.{Exact, Inexact, Absent}
use Rattle.vx_scalar_wire.specs.ScalarMessage.{value_message}
use Rattle.vx_scalar_wire.specs.Shallow.{IsShallow}
use Rattle.vx_scalars.specs.WrittenStats.{written_sum}
use Rattle.vx_scalar_wire.specs.StatsTable.{stats_pieces}
use Rattle.vx_scalar_wire.specs.Writing.{RefusesWritingValueBytes}
use Rattle.vx_scalar_wire.specs.declared.error.ScalarWireError.{ScalarWireError}
use Rattle.vx_scalar_wire.specs.declared.error.ScalarWireError.TheVariants.{OutOfMemory, MessageTooLong}

-- A value may be written as bytes: no type in it is too deep, and at most 100 messages nest.
pub record IsWritable (v : V.Value) : Type 0 where
  pub shallow : IsShallow v
  pub nests : nested (value_message v) ≤ 100

-- So may what is told,
abbrev pub IsWritableTold : Told → Type 0
IsWritableTold (Exact v) = IsWritable v
IsWritableTold (Inexact v) = IsWritable v
IsWritableTold Absent = Unit {0}

-- and the values of a set that are written.
pub record AreWritable (t : Stats) : Type 0 where
  pub least : IsWritableTold t.least
  pub greatest : IsWritableTold t.greatest
  pub total : IsWritableTold (written_sum t.total)

-- The value that is told is not written as bytes.
abbrev pub RefusesWritingTold : ScalarWireError → Told → Type 0
RefusesWritingTold e (Exact v) = RefusesWritingValueBytes e (IsShallow v) (value_message v)
RefusesWritingTold e (Inexact v) = RefusesWritingValueBytes e (IsShallow v) (value_message v)
RefusesWritingTold e Absent = ⊥

-- Why a set is not written after what a builder has: one of its values is not, or with its blocks the message is too
-- long. Allocation failure has no cause.
abbrev pub RefusesWritingStats : ScalarWireError → Stats → Built → Type 0
RefusesWritingStats OutOfMemory t b = Unit {0}
RefusesWritingStats MessageTooLong t b = IsTooLong b (stats_pieces t)
RefusesWritingStats e t b = RefusesWritingTold e t.least ⊎ (RefusesWritingTold e t.greatest ⊎ RefusesWritingTold e (written_sum t.total))
