-- Why bytes are refused at a type, and why a message is where a scalar of a type is asked for.
use Rattle.std.specs.Prelude.{◌≡◌, ◌<◌, ◌⊎◌, ℕ, List}
use Rattle.vx_proto.specs.Reads.{Cause, Reads}
use Rattle.vx_proto.specs.Value.{Value}
use Rattle.vx_proto.specs.Written.{nested}
use Rattle.vx_proto.specs.declared.error.ProtoError.{ProtoError}
use Rattle.vx_type_wire.specs.Known.{ExtMeaning}
use Rattle.vx_types.specs.Fits.{Fits}
use Rattle.vx_types.specs.Typ.{Typ}
use Rattle.vx_types.specs.Value as V
use Rattle.vx_scalar_wire.specs.Reading.{ReadsValue}
use Rattle.vx_scalar_wire.specs.Refusing.{RefusesReadingScalar, RefusesReadingValue}
use Rattle.vx_scalar_wire.specs.ScalarMessage.{scalar_lists}
use Rattle.vx_scalar_wire.specs.Writing.{refusal_of_proto}
use Rattle.vx_scalar_wire.specs.declared.error.ScalarWireError.{ScalarWireError}
use Rattle.vx_scalar_wire.specs.declared.error.ScalarWireError.TheVariants.{OutOfMemory, TooDeep, BadScalar}

-- Bytes are no message of a value, or are read as one that is refused. Allocation failure has no cause.
abbrev pub RefusesReadingValueBytes : ScalarWireError → ExtMeaning → Typ → List ℕ → Type 0
RefusesReadingValueBytes OutOfMemory s d bytes = Unit {0}
RefusesReadingValueBytes e s d bytes =
    ((p : ProtoError) × (refusal_of_proto p ≡ e) × Cause scalar_lists 100 p 15 bytes) ⊎ ((m : Value) × Reads scalar_lists 15 bytes m × RefusesReadingValue e s 100 d m)

-- A scalar's message is refused: over 100 messages nest, or a cause stands in it.
abbrev pub RefusesReadingScalarMessage : ScalarWireError → ExtMeaning → Value → Type 0
RefusesReadingScalarMessage TooDeep s l = 100 < nested l
RefusesReadingScalarMessage e s l = RefusesReadingScalar e s 100 l

-- A value's message is refused where a scalar of a type is asked for: as a value's, or what it is read as does not fit.
abbrev pub RefusesReadingScalarAt : ScalarWireError → ExtMeaning → Typ → Value → Type 0
RefusesReadingScalarAt BadScalar s d m = RefusesReadingValue BadScalar s 100 d m ⊎ ((v : V.Value) × ReadsValue s v d m × (Fits v d → ⊥))
RefusesReadingScalarAt e s d m = RefusesReadingValue e s 100 d m
