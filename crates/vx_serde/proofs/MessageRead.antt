-- The table value of a message shows that message, and is a value of the schema.
use Rattle.std.proofs.Common.{ℕ, ◌≡◌, ◌*◌, ◌<◌, ◌^◌, List, [], ◌∷◌, length, Some, refl, arith}
use Rattle.std.specs.Prelude.{All}
use Rattle.std.proofs.lemmas.Nat.{from_le_bytes-to_le_bytes_2, from_le_bytes-to_le_bytes_4}
use Rattle.std.proofs.lemmas.List.Elements.{All-head, All-tail}
use Rattle.vx_flat.specs.IsOf.{IsOf, AreOf, AreRowsOf}
use Rattle.vx_flat.specs.Schema.{struct_size}
use Rattle.vx_trees.specs.Rose.{Rose, Roses, node, end, more}
use Rattle.vx_trees.specs.Everywhere.{EverywhereBelow}
use Rattle.vx_serialized.specs.ArraySchema.{array_schema, node_fields}
use Rattle.vx_serialized.specs.declared.message.Descriptor.{Descriptor}
use Rattle.vx_serialized.specs.Message.{NodeFields, indices_of, descriptors_of, node_of, nodes_of, message_of}
use Rattle.vx_serde.specs.MessageValue.{index_bytes, descriptors_bytes, node_value, rows_value, message_value, IsNumberedNode, IsDescribed, IsNumbered}

-- Indices are read as they were written, two bytes each.
pub indices_of-index_bytes : (is : List ℕ) → All (λ i. i < 2 ^ 16) is → indices_of (index_bytes is) ≡ is
indices_of-index_bytes [] fit = refl
indices_of-index_bytes (i ∷ is) fit =
    let a = from_le_bytes-to_le_bytes_2 i (All-head (λ i. i < 2 ^ 16) i is fit) in
    let b = indices_of-index_bytes is (All-tail (λ i. i < 2 ^ 16) i is fit) in
    λ k. a k ∷ b k

pub length-index_bytes : (is : List ℕ) → length (index_bytes is) ≡ 2 * length is
length-index_bytes [] = refl
length-index_bytes (i ∷ is) = omega (arith, length-index_bytes is)

-- Descriptors are read as they were written, eight bytes each.
pub descriptors_of-descriptors_bytes : (ds : List Descriptor) → All IsDescribed ds → descriptors_of (descriptors_bytes ds) ≡ ds
descriptors_of-descriptors_bytes [] fit = refl
descriptors_of-descriptors_bytes (d ∷ ds) fit =
    let first : IsDescribed d = All-head IsDescribed d ds fit in
    let padding = from_le_bytes-to_le_bytes_2 d.padding first.padding in
    let len = from_le_bytes-to_le_bytes_4 d.len first.len in
    let rest = descriptors_of-descriptors_bytes ds (All-tail IsDescribed d ds fit) in
    λ k. record { padding = padding k; exponent = d.exponent; compression = d.compression; len = len k } ∷ rest k

pub length-descriptors_bytes : (ds : List Descriptor) → length (descriptors_bytes ds) ≡ 8 * length ds
length-descriptors_bytes [] = refl
length-descriptors_bytes (d ∷ ds) = omega (arith, length-descriptors_bytes ds)

mutual
  -- The table of a node shows the node, with all nodes below it.
  pub node_of-node_value : (t : Rose NodeFields) → IsNumbered t → node_of (node_value t) ≡ t
  node_of-node_value (node f ts) fit =
      let buffers = indices_of-index_bytes f.buffers fit.0.buffers in
      let children = nodes_of-rows_value ts fit.1 in
      λ k. node (record { encoding = f.encoding; metadata = f.metadata; buffers = buffers k; stats = f.stats }) (children k)

  pub nodes_of-rows_value : (ts : Roses NodeFields) → EverywhereBelow IsNumberedNode ts → nodes_of (rows_value ts) ≡ ts
  nodes_of-rows_value end fit = refl
  nodes_of-rows_value (more t ts) fit =
      let first = node_of-node_value t fit.0 in
      let rest = nodes_of-rows_value ts fit.1 in
      λ k. more (first k) (rest k)

-- The table of a message shows its root and its descriptors.
pub message_of-message_value : (root : Rose NodeFields) (ds : List Descriptor) → IsNumbered root → All IsDescribed ds
    → message_of (message_value root ds) ≡ record { root = Some root; descriptors = ds }
message_of-message_value root ds numbered described =
    let a = node_of-node_value root numbered in
    let b = descriptors_of-descriptors_bytes ds described in
    λ k. record { root = Some (a k); descriptors = b k }

mutual
  -- The table of a node is of the schema, and so are those of the nodes below it.
  pub node_value_is_of : (t : Rose NodeFields) → IsNumbered t → AreOf array_schema node_fields (node_value t)
  node_value_is_of (node f ts) fit =
      (fit.0.encoding, ((length f.metadata, omega arith), (rows_value_are_of ts fit.1, ((length f.buffers, length-index_bytes f.buffers), (fit.0.stats, tt)))))

  pub rows_value_are_of : (ts : Roses NodeFields) → EverywhereBelow IsNumberedNode ts → AreRowsOf array_schema 1 (rows_value ts)
  rows_value_are_of end fit = tt
  rows_value_are_of (more t ts) fit = (node_value_is_of t fit.0, rows_value_are_of ts fit.1)

-- A descriptor's struct has eight bytes.
struct_size-descriptor : struct_size array_schema 0 ≡ 8
unfolding struct_size
struct_size-descriptor = refl

-- The table of a message is of the schema.
pub message_value_is_of : (root : Rose NodeFields) (ds : List Descriptor) → IsNumbered root → IsOf array_schema (message_value root ds)
message_value_is_of root ds fit =
    let whole : length (descriptors_bytes ds) ≡ struct_size array_schema 0 * length ds = rw struct_size-descriptor (length-descriptors_bytes ds) in
    (node_value_is_of root fit, ((length ds, whole), tt))
