-- What a writer of messages answers.
use Rattle.std.specs.Prelude.{◌≡◌, ◌<◌, Result, Ok, Err}
use Rattle.vx_flat.specs.declared.error.FlatError.{FlatError}
use Rattle.vx_flat.specs.declared.error.FlatError.TheVariants as flat
use Rattle.vx_proto.specs.Value.{Value}
use Rattle.vx_proto.specs.Written.{nested}
use Rattle.vx_proto.specs.declared.error.ProtoError.{ProtoError}
use Rattle.vx_proto.specs.declared.error.ProtoError.TheVariants as proto
use Rattle.vx_scalar_wire.specs.declared.error.ScalarWireError.{ScalarWireError}
use Rattle.vx_types.specs.declared.error.TypeError.{TypeError}
use Rattle.vx_types.specs.declared.error.TypeError.TheVariants as type_error
use Rattle.vx_scalar_wire.specs.declared.error.ScalarWireError.TheVariants.{OutOfMemory, BadMessage, TooDeep, OutOfRange, BadScalar, BadDType, MessageTooLong}
use Rattle.vx_type_wire.specs.declared.error.TypeWireError.TheVariants.{WireLimit}

-- Why nothing is written: a type has too many levels. Allocation failure has no cause.
abbrev pub RefusesWritingValue : ScalarWireError → Type 0 → Type 0
RefusesWritingValue OutOfMemory Shallow = Unit {0}
RefusesWritingValue (BadDType WireLimit) Shallow = Shallow → ⊥
RefusesWritingValue error Shallow = ⊥

-- A writer gives this, as view sees it, of what is shallow, or it has a cause.
abbrev pub Writes : {X Y : Type 0} → (X → Y) → Result X ScalarWireError → Type 0 → Y → Type 0
Writes view (Ok x) Shallow y = (view x ≡ y) × Shallow
Writes view (Err e) Shallow y = RefusesWritingValue e Shallow

-- A refusal of a message is that of its scalar.
abbrev pub refusal_of_proto : ProtoError → ScalarWireError
refusal_of_proto proto.OutOfMemory = OutOfMemory
refusal_of_proto proto.BadMessage = BadMessage
refusal_of_proto proto.TooDeep = TooDeep
refusal_of_proto proto.OutOfRange = OutOfRange

-- A builder reads no table, so it refuses for allocation failure, or as the message would be too long.
abbrev pub IsOfBuilder : FlatError → Type 0
IsOfBuilder flat.OutOfMemory = Unit {0}
IsOfBuilder flat.MessageTooLong = Unit {0}
IsOfBuilder flat.BadTable = ⊥
IsOfBuilder flat.TableLimit = ⊥

-- A builder's refusal as one of statistics.
abbrev pub builder_error : FlatError → ScalarWireError
builder_error flat.OutOfMemory = OutOfMemory
builder_error flat.MessageTooLong = MessageTooLong
builder_error flat.BadTable = OutOfMemory
builder_error flat.TableLimit = OutOfMemory

-- A refusal of a scalar is that of its message. The calls that make scalars answer
-- allocation failure and BadScalar alone.
abbrev pub refusal_of_scalar : TypeError → ScalarWireError
refusal_of_scalar type_error.OutOfMemory = OutOfMemory
refusal_of_scalar error = BadScalar

-- Why no bytes are written of a message: a type has too many levels, or over 100 messages nest.
abbrev pub RefusesWritingValueBytes : ScalarWireError → Type 0 → Value → Type 0
RefusesWritingValueBytes TooDeep Shallow v = 100 < nested v
RefusesWritingValueBytes error Shallow v = RefusesWritingValue error Shallow
