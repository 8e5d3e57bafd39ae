-- Why a blob's wire tree is not read.
use Rattle.std.specs.Prelude.{ℕ, ◌≡◌, ◌<◌, ◌⊎◌, List, ◌++◌, Some, length, Any}
use Rattle.std.specs.Int.{w32, from_le_bytes}
use Rattle.vx_flat.specs.Value.{Fields}
use Rattle.vx_flat.specs.Shows.{Shows}
use Rattle.vx_flat.specs.Weight.{weight}
use Rattle.vx_flat.specs.declared.limits.Limits.{Limits}
use Rattle.vx_flat.specs.Limits.{KeepsLimits}
use Rattle.vx_trees.specs.Rose.{Rose}
use Rattle.vx_serialized.specs.declared.error.WireError.{WireError}
use Rattle.vx_serialized.specs.declared.error.WireError.TheVariants.{OutOfMemory, TooShort, BadTable, TableLimit, BadAlignment, Compressed, OutOfBounds}
use Rattle.vx_serialized.specs.ArraySchema.{array_schema}
use Rattle.vx_serialized.specs.Message.{Descriptor, NodeFields, message_of}
use Rattle.vx_serialized.specs.Blob.{IsBlob, end_of}

-- A blob of under four bytes, or one that has fewer bytes before its last four than these say.
abbrev pub IsTooShort : List ℕ → Type 0
IsTooShort blob =
    (length blob < 4)
    ⊎ ((front : List ℕ) × (word : List ℕ) × (blob ≡ front ++ word) × (length word ≡ 4) × (length front < from_le_bytes w32 word))

-- The blob's message shows no array value with a root.
pub record ShowsNoRoot (blob : List ℕ) : Type 0 where
  pub segment : List ℕ
  pub message : List ℕ
  pub blob_is : IsBlob blob segment message
  pub none : (value : Fields) (root : Rose NodeFields) → Shows array_schema message value → (message_of value).root ≡ Some root → ⊥

-- The blob's message weighs more than a reader admits.
pub record IsHeavy (most : Limits) (blob : List ℕ) : Type 0 where
  pub segment : List ℕ
  pub message : List ℕ
  pub blob_is : IsBlob blob segment message
  pub over_limits : KeepsLimits most (weight array_schema message) → ⊥

-- The refusals of descriptors over a segment: an exponent over 16, a compression,
-- or a range that ends past the segment.
abbrev pub RefusesDescriptors : WireError → List ℕ → List Descriptor → Type 0
RefusesDescriptors OutOfMemory segment ds = Unit {0}
RefusesDescriptors BadAlignment segment ds = Any (λ d. 16 < d.exponent) ds
RefusesDescriptors Compressed segment ds = Any (λ d. 0 < d.compression) ds
RefusesDescriptors OutOfBounds segment ds = length segment < end_of 0 ds
RefusesDescriptors _ segment ds = ⊥

-- The blob's message shows an array value whose descriptors are refused.
pub record HasRefusedDescriptors (e : WireError) (blob : List ℕ) : Type 0 where
  pub segment : List ℕ
  pub message : List ℕ
  pub value : Fields
  pub blob_is : IsBlob blob segment message
  pub shows : Shows array_schema message value
  pub refused : RefusesDescriptors e segment (message_of value).descriptors

-- Why a blob's wire tree is not read: by the refusal.
abbrev pub RefusesOpening : Limits → WireError → List ℕ → Type 0
RefusesOpening most OutOfMemory blob = Unit {0}
RefusesOpening most TooShort blob = IsTooShort blob
RefusesOpening most BadTable blob = ShowsNoRoot blob
RefusesOpening most TableLimit blob = IsHeavy most blob
RefusesOpening most BadAlignment blob = HasRefusedDescriptors BadAlignment blob
RefusesOpening most Compressed blob = HasRefusedDescriptors Compressed blob
RefusesOpening most OutOfBounds blob = HasRefusedDescriptors OutOfBounds blob
RefusesOpening most _ blob = ⊥
