-- When a blob spells an array, and the blob that is written for one.
use Rattle.std.specs.Prelude.{ℕ, List}
use Rattle.vx_types.specs.Typ.{Typ}
use Rattle.vx_buffer.specs.Buffer.{Buffer}
use Rattle.vx_array_tree.specs.Tree.{Tree}
use Rattle.vx_wire_tree.specs.Context.{Context, with_ids}
use Rattle.vx_wire_tree.specs.Limits.{HasMessages}
use Rattle.vx_wire_tree.specs.Session.{SessionMeaning}
use Rattle.vx_wire_tree.specs.DecodesTo.{DecodesTo}
use Rattle.vx_wire_tree.specs.Wire.{Wire, ids_in}
use Rattle.vx_wire_tree.specs.Written.{wire}
use Rattle.vx_encodings.specs.Messages.{codec}
use Rattle.vx_serde.specs.declared.options.SerializeOptions.{SerializeOptions}
use Rattle.vx_serialized.specs.Message.{message_of}
use Rattle.vx_serialized.specs.Blob.{Carries, AreClean}
use Rattle.vx_serialized.specs.Carried.{IsWithinLimits}
use Rattle.vx_serde.specs.Limits.{message_limits}
use Rattle.vx_serde.specs.Written.{blob_bytes, IsWritable}
use Rattle.vx_serde.specs.WrittenBuffers.{written_buffers}

-- A blob spells an array at a type and a length, with identifiers to read by: it carries a wire tree, under clean
-- descriptors, that decodes to the array at that type and length. So nothing is missing from the tree.
pub record Spells (blob : List ℕ) (ids : List (List ℕ)) (d : Typ) (n : ℕ) (s : SessionMeaning) (t : Tree) : Type 0 where
  pub wire : Wire
  pub carried : Carries blob ids wire
  pub clean : AreClean carried.segment (message_of carried.value).descriptors
  pub told : DecodesTo codec s wire d n t

-- A blob's message keeps the limits on reading, as the options have them.
abbrev pub KeepsReaderLimits : SerializeOptions → List ℕ → Type 0
KeepsReaderLimits options blob = IsWithinLimits (message_limits options) blob

-- The identifiers by which an array is written under a context.
abbrev pub ids_after : SessionMeaning → Tree → Context → List (List ℕ)
ids_after s t ctx = with_ids ctx.ids (ids_in (wire codec s t))

-- The blob of an array under a context: that of its wire tree.
abbrev pub blob_of : SessionMeaning → Tree → Context → SerializeOptions → List ℕ
blob_of s t ctx options = blob_bytes (ids_after s t ctx) options (wire codec s t)

-- The buffers that the blob of an array is written as: those of its wire tree.
abbrev pub blob_buffers : SessionMeaning → Tree → Context → SerializeOptions → List Buffer
blob_buffers s t ctx options = written_buffers (ids_after s t ctx) options (wire codec s t)

-- An array keeps the limits on writing under a context: the metadata of each node fits its message, and its wire tree
-- is written.
pub record KeepsWriterLimits (s : SessionMeaning) (t : Tree) (ctx : Context) (options : SerializeOptions) : Type 0 where
  pub messages : HasMessages t
  pub writable : IsWritable (ids_after s t ctx) options (wire codec s t)
