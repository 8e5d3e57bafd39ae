-- A serialized array, or one of its nodes, as contracts see it: a tree of nodes, and what their numbers stand for.
use Rattle.std.specs.Prelude.{ℕ, ◌≡◌, List, Option, Some, map, option_and_then, slice_get, refl}
use Rattle.std.specs.Coded.{Coded, code_by, coded×, coded_ℕ, coded_list}
use Rattle.vx_flat.specs.Value.{Field}
use Rattle.vx_buffer.specs.Buffer.{Buffer, coded_buffer}
use Rattle.vx_trees.specs.Rose.{Rose, label, below, roses_list}
use Rattle.vx_trees.specs.Codes.{coded_rose}
use Rattle.vx_wire_tree.specs.Wire.{Wire}
use Rattle.vx_serialized.specs.Blob.{wire_of}
use Rattle.vx_serialized.specs.Message.{Descriptor, NodeFields, no_node}
use Rattle.vx_serialized.specs.FieldCode.{field_code}

-- A node with all nodes below it, the descriptors of its message, and the buffers that nodes name by number.
pub record Serialized : Type 0 where
  pub root : Rose NodeFields
  pub descriptors : List Descriptor
  pub buffers : List Buffer

-- The wire tree, with the identifiers that nodes name by number.
abbrev pub wire_in : List (List ℕ) → Serialized → Wire
wire_in ids a = wire_of ids a.buffers a.root

-- The buffer that the root names at a place: none past the end, and none where the number has no buffer.
abbrev pub named_buffer : Serialized → ℕ → Option Buffer
named_buffer a i = option_and_then (λ k. slice_get a.buffers k) (slice_get (label a.root).buffers i)

-- The length of each buffer, by its descriptor.
abbrev pub lengths_of : List Descriptor → List ℕ
lengths_of ds = map (λ d. d.len) ds

-- One is the child i of another: the tree at that index below the root, in the same message, over the same buffers.
pub record IsChildOf (a : Serialized) (i : ℕ) (child : Serialized) : Type 0 where
  pub root : slice_get (roses_list (below a.root)) i ≡ Some child.root
  pub descriptors : child.descriptors ≡ a.descriptors
  pub buffers : child.buffers ≡ a.buffers

-- ---- how it is stored, where a struct has it as its model

abbrev node_code : Coded NodeFields
node_code =
    code_by (ℕ × (List ℕ × (List ℕ × Field))) (coded× coded_ℕ (coded× (coded_list coded_ℕ) (coded× (coded_list coded_ℕ) field_code)))
    (λ f. (f.encoding, (f.metadata, (f.buffers, f.stats)))) (λ p. record { encoding = p.0; metadata = p.1.0; buffers = p.1.1.0; stats = p.1.1.1 }) (λ _. refl)

abbrev descriptor_code : Coded Descriptor
descriptor_code =
    code_by (ℕ × (ℕ × (ℕ × ℕ))) (coded× coded_ℕ (coded× coded_ℕ (coded× coded_ℕ coded_ℕ)))
    (λ d. (d.padding, (d.exponent, (d.compression, d.len))))
    (λ p. record { padding = p.0; exponent = p.1.0; compression = p.1.1.0; len = p.1.1.1 }) (λ _. refl)

-- A serialized array is stored as its tree, its descriptors and its buffers.
abbrev pub serialized_code : Coded Serialized
serialized_code =
    code_by (Rose NodeFields × (List Descriptor × List Buffer))
    (coded× (coded_rose no_node node_code) (coded× (coded_list descriptor_code) (coded_list coded_buffer)))
    (λ a. (a.root, (a.descriptors, a.buffers))) (λ p. record { root = p.0; descriptors = p.1.0; buffers = p.1.1 }) (λ _. refl)
