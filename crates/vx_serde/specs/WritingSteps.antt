-- What the steps of writing an array give, and why they refuse.
use Rattle.std.specs.Prelude.{ℕ, ◌≡◌, ◌<◌, ◌^◌, List, None, length}
use Rattle.vx_flat.specs.Layout.{written_layout}
use Rattle.vx_flat.specs.declared.limits.Limits.{Limits}
use Rattle.vx_flat.specs.Limits.{KeepsLimits}
use Rattle.vx_flat.specs.Value.{table, elements, field, no_fields}
use Rattle.vx_flat.specs.Weight.{weight}
use Rattle.vx_flat.specs.declared.error.FlatError.{FlatError}
use Rattle.vx_flat.specs.declared.error.FlatError.TheVariants as tables
use Rattle.vx_scalar_wire.specs.declared.error.ScalarWireError.{ScalarWireError}
use Rattle.vx_scalar_wire.specs.declared.error.ScalarWireError.TheVariants as scalars
use Rattle.vx_array_tree.specs.Tree.{Tree}
use Rattle.vx_wire_tree.specs.Context.{Context, grown_by}
use Rattle.vx_wire_tree.specs.Session.{SessionMeaning}
use Rattle.vx_serialized.specs.declared.error.WireError.{WireError}
use Rattle.vx_serialized.specs.declared.error.WireError.TheVariants.{OutOfMemory, NotPermitted, WireLimit}
use Rattle.vx_serde.specs.declared.options.SerializeOptions.{SerializeOptions}
use Rattle.vx_wire_tree.specs.Wire.{Wire, ids_in, buffers_in}
use Rattle.vx_wire_tree.specs.Written.{wire}
use Rattle.vx_encodings.specs.Messages.{codec}
use Rattle.vx_serialized.specs.ArraySchema.{array_schema}
use Rattle.vx_serde.specs.Limits.{most_levels}
use Rattle.vx_serialized.specs.declared.message.Descriptor.{Descriptor}
use Rattle.vx_serde.specs.MessageValue.{descriptors_bytes, node_value}
use Rattle.vx_serde.specs.Numbered.{numbered}
use Rattle.vx_serde.specs.Placing.{descriptors_from, data_end}
use Rattle.vx_wire_tree.specs.Limits.{IsWritableTree}

-- The limits that a tree keeps before its message is known: those on the tree, and one on the position where the last
-- of its buffers ends.
pub record KeepsTreeLimits (options : SerializeOptions) (w : Wire) : Type 0 where
  pub tree : IsWritableTree (most_levels options) w
  pub ends : data_end options options.offset (buffers_in w) < 2 ^ 64

-- A tree with such limits, the bytes of its descriptors, and where its last buffer ends.
pub record IsLaidOut (options : SerializeOptions) (w : Wire) (descriptors : List ℕ) (last : ℕ) : Type 0 where
  pub placeable : KeepsTreeLimits options w
  pub descriptors_are : descriptors ≡ descriptors_bytes (descriptors_from options options.offset (buffers_in w))
  pub last_is : last ≡ data_end options options.offset (buffers_in w)

-- Why the bytes of a message are refused: allocation failed, they are too many, or they weigh more than the limits
-- allow.
abbrev pub RefusesBytes : Limits → List ℕ → WireError → Type 0
RefusesBytes most message OutOfMemory = Unit {0}
RefusesBytes most message WireLimit = length message < 2 ^ 31 → KeepsLimits most (weight array_schema message) → ⊥
RefusesBytes most message _ = ⊥

-- Bytes that are descriptors.
abbrev pub AreDescriptors : List ℕ → Type 0
AreDescriptors bytes = (ds : List Descriptor) × (bytes ≡ descriptors_bytes ds)

-- The message of a wire tree and of descriptors' bytes, with these identifiers.
abbrev pub layout_of : List (List ℕ) → Wire → List ℕ → List ℕ
layout_of ids w bytes = written_layout array_schema (field (table (node_value (numbered ids 0 w))) (field (elements bytes) no_fields))

-- The refusal of a set of statistics that fit, as a builder's.
abbrev pub builder_refusal : ScalarWireError → FlatError
builder_refusal scalars.OutOfMemory = tables.OutOfMemory
builder_refusal _ = tables.MessageTooLong

-- ---- nodes

-- Why identifiers are not taken: allocation failed, or the context does not take one of them.
abbrev pub RefusesIds : List (List ℕ) → Context → WireError → Type 0
RefusesIds ids c OutOfMemory = Unit {0}
RefusesIds ids c NotPermitted = grown_by ids c ≡ None
RefusesIds ids c _ = ⊥

-- Why a tree is not laid out: its identifiers are not taken, or it passes one of the limits that are known before its
-- message.
abbrev pub RefusesLayout : SessionMeaning → SerializeOptions → Tree → Context → WireError → Type 0
RefusesLayout s options t c WireLimit = KeepsTreeLimits options (wire codec s t) → ⊥
RefusesLayout s options t c e = RefusesIds (ids_in (wire codec s t)) c e
