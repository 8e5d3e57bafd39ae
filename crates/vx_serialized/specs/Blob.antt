-- What a blob carries: its segment, its message, and the wire tree of both.
use Rattle.std.specs.Prelude.{ℕ, ◌≡◌, ◌≤◌, ◌+◌, List, [], ◌∷◌, ◌++◌, Some, map, length, take, drop, slice_get, All}
use Rattle.std.specs.Int.{w32, from_le_bytes}
use Rattle.vx_buffer.specs.Buffer.{Buffer}
use Rattle.vx_flat.specs.Value.{Fields}
use Rattle.vx_flat.specs.Shows.{Shows}
use Rattle.vx_trees.specs.Rose.{Rose, Roses, node, end, more}
use Rattle.vx_serialized.specs.ArraySchema.{array_schema}
use Rattle.vx_serialized.specs.Message.{Descriptor, NodeFields, message_of, place_behind}
use Rattle.vx_wire_tree.specs.Wire.{Wire, Wires}

-- A blob is a segment, a message, and the message's length as a word of four bytes.
pub record IsBlob (blob segment message : List ℕ) : Type 0 where
  pub word : List ℕ
  pub parts : blob ≡ segment ++ message ++ word
  pub word_len : length word ≡ 4
  pub message_len : length message ≡ from_le_bytes w32 word

-- The buffers of descriptors. The padding of the first begins at the place p of the segment, that of each other at the
-- end of the buffer before it.
abbrev pub buffers_at : List ℕ → ℕ → List Descriptor → List Buffer
buffers_at segment p [] = []
buffers_at segment p (d ∷ ds) =
    record { bytes = take d.len (drop (p + d.padding) segment); exponent = d.exponent } ∷ buffers_at segment (place_behind p d) ds

-- The place where the buffer of the last of these descriptors ends.
abbrev pub end_of : ℕ → List Descriptor → ℕ
end_of p [] = p
end_of p (d ∷ ds) = end_of (place_behind p d) ds

abbrev mutual
  -- A message's node with its identifier and its buffers in place of their indices.
  pub wire_of : List (List ℕ) → List Buffer → Rose NodeFields → Wire
  wire_of ids bs (node f ts) =
      node (record { id = slice_get ids f.encoding; metadata = f.metadata; buffers = map (λ i. slice_get bs i) f.buffers; stats = f.stats }) (wires_of ids bs ts)

  -- Several nodes of a message, each with its identifier and its buffers.
  pub wires_of : List (List ℕ) → List Buffer → Roses NodeFields → Wires
  wires_of ids bs end = end
  wires_of ids bs (more t ts) = more (wire_of ids bs t) (wires_of ids bs ts)

-- The blob's message shows an array value with a root, and w is the wire tree of that root.
pub record Carries (blob : List ℕ) (ids : List (List ℕ)) (w : Wire) : Type 0 where
  pub segment : List ℕ
  pub message : List ℕ
  pub value : Fields
  pub root : Rose NodeFields
  pub blob_is : IsBlob blob segment message
  pub shows : Shows array_schema message value
  pub root_is : (message_of value).root ≡ Some root
  pub wire_is : w ≡ wire_of ids (buffers_at segment 0 (message_of value).descriptors) root

-- Each descriptor, used or not, has an exponent of at most 16 and no compression,
-- and its range ends within the segment.
pub record AreClean (segment : List ℕ) (ds : List Descriptor) : Type 0 where
  pub aligned : All (λ d. d.exponent ≤ 16) ds
  pub plain : All (λ d. d.compression ≡ 0) ds
  pub within : end_of 0 ds ≤ length segment
