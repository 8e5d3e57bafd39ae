-- What the steps of reading a blob give, and why they refuse.
use Rattle.std.specs.Prelude.{ℕ, ◌≡◌, List, Option, Some, None, slice_get}
use Rattle.vx_buffer.specs.Buffer.{Buffer}
use Rattle.vx_flat.specs.declared.error.FlatError.{FlatError}
use Rattle.vx_flat.specs.declared.error.FlatError.TheVariants as tables
use Rattle.vx_flat.specs.declared.limits.Limits.{Limits}
use Rattle.vx_flat.specs.Limits.{KeepsLimits}
use Rattle.vx_flat.specs.Weight.{weight}
use Rattle.vx_flat.specs.Value.{Field}
use Rattle.vx_types.specs.Typ.{Typ}
use Rattle.vx_wire_tree.specs.Causes.{LacksBuffer, LacksId}
use Rattle.vx_wire_tree.specs.Placed.{Anywhere}
use Rattle.vx_wire_tree.specs.Steps.{HasNoStats}
use Rattle.vx_wire_tree.specs.Wire.{Wire}
use Rattle.vx_encodings.specs.Messages.{codec}
use Rattle.vx_plans.specs.declared.error.EncodingError.{EncodingError}
use Rattle.vx_plans.specs.declared.error.EncodingError.TheVariants as encodings
use Rattle.vx_scalar_wire.specs.declared.error.ScalarWireError.{ScalarWireError}
use Rattle.vx_scalar_wire.specs.declared.error.ScalarWireError.TheVariants as scalars
use Rattle.vx_serialized.specs.declared.error.WireError.{WireError}
use Rattle.vx_serialized.specs.declared.error.WireError.TheVariants.{OutOfMemory, BadTable, TableLimit, OutOfBounds, UnknownIndex, BadMetadata, BadShape, BadContent, ForeignControl, BadStats, WireLimit}
use Rattle.vx_serialized.specs.ArraySchema.{array_schema}
use Rattle.vx_serialized.specs.Blob.{Carries, AreClean}
use Rattle.vx_serialized.specs.Message.{Descriptor, message_of}
use Rattle.vx_serialized.specs.Overrides.{RefusesAt}

-- What opening a blob gives: the wire tree that it carries, under clean descriptors, from a message within the limits
-- on reading.
pub record IsOpened (most : Limits) (blob : List ℕ) (ids : List (List ℕ)) (w : Wire) : Type 0 where
  pub carried : Carries blob ids w
  pub clean : AreClean carried.segment (message_of carried.value).descriptors
  pub within_limits : KeepsLimits most (weight array_schema carried.message)

-- Why the buffer of a descriptor is not taken: the descriptor is refused, or allocation failed.
abbrev pub RefusesBuffer : WireError → Option Buffer → ℕ → ℕ → Descriptor → Type 0
RefusesBuffer OutOfMemory given n p d = Unit {0}
RefusesBuffer e given n p d = RefusesAt e given n p d

-- Why a node's buffers are not taken: one is missing, or allocation failed.
abbrev pub RefusesNodeBuffers : WireError → List (Option Buffer) → Type 0
RefusesNodeBuffers OutOfMemory bs = Unit {0}
RefusesNodeBuffers OutOfBounds bs = (i : ℕ) × (slice_get bs i ≡ Some None)
RefusesNodeBuffers _ bs = ⊥

-- Why a wire tree is not kept: an identifier or a buffer is missing somewhere, or allocation failed.
abbrev pub RefusesKept : WireError → Wire → Type 0
RefusesKept OutOfMemory w = Unit {0}
RefusesKept OutOfBounds w = Anywhere LacksBuffer w
RefusesKept UnknownIndex w = Anywhere LacksId w
RefusesKept _ w = ⊥

-- Why a node's statistics are not taken: its field shows none of arrays of the type, or allocation failed.
abbrev pub RefusesStats : WireError → Typ → Field → Type 0
RefusesStats OutOfMemory d f = Unit {0}
RefusesStats BadStats d f = HasNoStats codec d f
RefusesStats _ d f = ⊥

-- Why a table of statistics is not read, as a refusal of a blob: any fault of a value is `BadStats`.
abbrev pub stats_refusal : ScalarWireError → WireError
stats_refusal scalars.OutOfMemory = OutOfMemory
stats_refusal _ = BadStats

-- Why a message is not read, as a refusal of a blob.
abbrev pub message_refusal : FlatError → WireError
message_refusal tables.OutOfMemory = OutOfMemory
message_refusal tables.BadTable = BadTable
message_refusal tables.TableLimit = TableLimit
message_refusal tables.MessageTooLong = WireLimit

-- An encoding's refusal as one of a blob.
abbrev pub encoding_refusal : EncodingError → WireError
encoding_refusal encodings.OutOfMemory = OutOfMemory
encoding_refusal encodings.BadMetadata = BadMetadata
encoding_refusal encodings.BadShape = BadShape
encoding_refusal encodings.BadContent = BadContent
encoding_refusal encodings.ForeignControl = ForeignControl
encoding_refusal encodings.WireLimit = WireLimit
