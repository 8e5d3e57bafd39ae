-- What is kept of a message, and why it is not.
use Rattle.std.specs.Prelude.{ℕ, ◌≡◌, ◌<◌, List, Option, Some, None, slice_index}
use Rattle.vx_buffer.specs.Buffer.{Buffer}
use Rattle.vx_flat.specs.Limits.{KeepsLimits}
use Rattle.vx_flat.specs.Reading.{table_shown}
use Rattle.vx_flat.specs.declared.viewing.View.{View}
use Rattle.vx_flat.specs.Seen.{fields_or_none, message_seen, IsViewOf}
use Rattle.vx_flat.specs.Shows.{Shows, ShowsAt}
use Rattle.vx_flat.specs.Value.{Fields}
use Rattle.vx_flat.specs.Weight.{weight}
use Rattle.vx_flat.specs.declared.limits.Limits.{Limits}
use Rattle.vx_trees.specs.Rose.{Rose, node, end}
use Rattle.vx_serialized.specs.declared.error.WireError.{WireError}
use Rattle.vx_serialized.specs.declared.error.WireError.TheVariants.{OutOfMemory, BadTable, TableLimit, BadAlignment, Compressed, OutOfBounds}
use Rattle.vx_serialized.specs.ArraySchema.{array_schema}
use Rattle.vx_serialized.specs.Blob.{IsBlob, AreClean, buffers_at}
use Rattle.vx_serialized.specs.Message.{NodeFields, no_node, message_of}
use Rattle.vx_serialized.specs.Overrides.{Overrides, RefusesWith}
use Rattle.vx_serialized.specs.Serialized.{Serialized}

-- The message shows an array value with a root and keeps the limits on reading; the tree is that root's, and the
-- descriptors are the message's.
pub record IsMessageOf (most : Limits) (message : List ℕ) (a : Serialized) : Type 0 where
  pub value : Fields
  pub shows : Shows array_schema message value
  pub within_limits : KeepsLimits most (weight array_schema message)
  pub root : (message_of value).root ≡ Some a.root
  pub descriptors : a.descriptors ≡ (message_of value).descriptors

-- The same of the blob's message; its descriptors are clean, and the buffers are those that they describe in its
-- segment.
pub record IsBlobOf (most : Limits) (blob : List ℕ) (a : Serialized) : Type 0 where
  pub segment : List ℕ
  pub message : List ℕ
  pub blob_is : IsBlob blob segment message
  pub message_is : IsMessageOf most message a
  pub buffers : a.buffers ≡ buffers_at segment 0 a.descriptors
  pub clean : AreClean segment a.descriptors

-- Why a message is not kept: it shows no array value with a root, or weighs more than a reader admits.
abbrev pub RefusesMessage : Limits → WireError → List ℕ → Type 0
RefusesMessage most OutOfMemory message = Unit {0}
RefusesMessage most BadTable message = (value : Fields) (root : Rose NodeFields) → Shows array_schema message value → (message_of value).root ≡ Some root → ⊥
RefusesMessage most TableLimit message = KeepsLimits most (weight array_schema message) → ⊥
RefusesMessage most _ message = ⊥

-- The message shows an array value whose descriptors are refused over a segment.
pub record HasRefused (e : WireError) (given : Overrides) (segment message : List ℕ) : Type 0 where
  pub value : Fields
  pub shows : Shows array_schema message value
  pub refused : RefusesWith e given segment (message_of value).descriptors

-- Why a message is not kept with a segment: by itself, or by its descriptors.
abbrev pub RefusesSegment : Limits → WireError → Overrides → List ℕ → List ℕ → Type 0
RefusesSegment most BadAlignment given segment message = HasRefused BadAlignment given segment message
RefusesSegment most Compressed given segment message = HasRefused Compressed given segment message
RefusesSegment most OutOfBounds given segment message = HasRefused OutOfBounds given segment message
RefusesSegment most e given segment message = RefusesMessage most e message

-- ---- what a stored message shows

-- The value that a message shows at a place, where it shows an array value there.
abbrev pub array_at : List ℕ → ℕ → Fields
array_at message place = fields_or_none (table_shown array_schema message place 0)

-- A root, or, where there is none, a leaf of which nothing is known.
abbrev pub root_or_leaf : Option (Rose NodeFields) → Rose NodeFields
root_or_leaf (Some t) = t
root_or_leaf None = node no_node end

-- What a message shows whose array value stands at a place, over these buffers.
abbrev pub stored : List ℕ → ℕ → List Buffer → Serialized
stored message place buffers = record {
  root = root_or_leaf (message_of (array_at message place)).root;
  descriptors = (message_of (array_at message place)).descriptors;
  buffers = buffers;
}

-- An array value with a root is shown at the place.
pub record IsStored (message : List ℕ) (place : ℕ) : Type 0 where
  pub shows : ShowsAt array_schema message place 0 (array_at message place)
  pub root : Rose NodeFields
  pub root_is : (message_of (array_at message place)).root ≡ Some root

-- A view of a node's table, in a message of bytes.
pub record IsNodeView (v : View) : Type 0 where
  pub of : IsViewOf array_schema 1 v
  pub bytes : (p : ℕ) → slice_index (message_seen v) p < 256
