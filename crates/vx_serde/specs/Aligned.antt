-- The positions at which the buffers of descriptors begin.
use Rattle.std.specs.Prelude.{ℕ, ◌≡◌, ◌+◌, ◌%◌, ◌^◌, List, [], ◌∷◌}
use Rattle.vx_flat.specs.Value.{Fields}
use Rattle.vx_flat.specs.Shows.{Shows}
use Rattle.vx_serialized.specs.ArraySchema.{array_schema}
use Rattle.vx_serialized.specs.Blob.{IsBlob}
use Rattle.vx_serialized.specs.declared.message.Descriptor.{Descriptor}
use Rattle.vx_serialized.specs.Message.{message_of, place_behind}

-- Each buffer begins at a multiple of two to its exponent, where the padding of the first begins at a position, and
-- that of each other where the buffer before it ends.
abbrev pub AreAligned : ℕ → List Descriptor → Type 0
AreAligned position [] = Unit {0}
AreAligned position (d ∷ ds) = ((position + d.padding) % 2 ^ d.exponent ≡ 0) × AreAligned (place_behind position d) ds

-- The buffers that the blob's own message describes begin at such positions, where the blob stands at a position. A
-- blob has one message, and that shows at most one value.
pub record IsAlignedBlob (position : ℕ) (blob : List ℕ) : Type 0 where
  pub segment : List ℕ
  pub message : List ℕ
  pub value : Fields
  pub blob_is : IsBlob blob segment message
  pub shows : Shows array_schema message value
  pub aligned : AreAligned position (message_of value).descriptors
