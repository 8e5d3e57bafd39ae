-- An array message as plain data, and what a table value shows of it.
use Rattle.std.specs.Prelude.{ℕ, ◌+◌, List, [], ◌∷◌, Option, Some, None}
use Rattle.std.specs.Int.{w16, w32, from_le_bytes}
use Rattle.vx_flat.specs.Value.{Field, absent, number, elements, table, tables, Fields, field, Rows, no_rows, row}
use Rattle.vx_trees.specs.Rose.{Rose, Roses, node, end, more}
-- A buffer descriptor: the number of bytes to skip before the buffer, the exponent of its alignment, its compression (0
-- is none) and its length.
pub use Rattle.vx_serialized.specs.declared.message.Descriptor.{Descriptor}

-- The place where the buffer of a descriptor ends, by the place at which its padding begins.
abbrev pub place_behind : ℕ → Descriptor → ℕ
place_behind place d = place + d.padding + d.len

-- A node names its encoding by its place in a list of identifiers that comes with the blob, and its buffers by the
-- places of their descriptors. One of its fields may hold a table of statistics.
pub record NodeFields : Type 0 where
  pub encoding : ℕ
  pub metadata : List ℕ
  pub buffers : List ℕ
  pub stats : Field

-- A node without any field.
abbrev pub no_node : NodeFields
no_node = record { encoding = 0; metadata = []; buffers = []; stats = absent }

-- A message: the tree of its nodes, where it has a root, and its descriptors in order.
pub record Message : Type 0 where
  pub root : Option (Rose NodeFields)
  pub descriptors : List Descriptor

-- The number in a field; an absent one counts as 0.
abbrev pub number_of_field : Field → ℕ
number_of_field (number n) = n
number_of_field _ = 0

-- The bytes of a vector; an absent vector reads as an empty one.
abbrev pub bytes_of_field : Field → List ℕ
bytes_of_field (elements bs) = bs
bytes_of_field _ = []

-- Indices are numbers of two bytes.
abbrev pub indices_of : List ℕ → List ℕ
indices_of (a ∷ b ∷ rest) = from_le_bytes w16 (a ∷ b ∷ []) ∷ indices_of rest
indices_of _ = []

-- Descriptors are structs of eight bytes.
abbrev pub descriptors_of : List ℕ → List Descriptor
descriptors_of (a ∷ b ∷ exponent ∷ compression ∷ e ∷ f ∷ g ∷ h ∷ rest) =
    record { padding = from_le_bytes w16 (a ∷ b ∷ []); exponent = exponent; compression = compression; len = from_le_bytes w32 (e ∷ f ∷ g ∷ h ∷ []) } ∷ descriptors_of rest
descriptors_of _ = []

abbrev mutual
  -- The node that a table value shows, with all nodes below it.
  pub node_of : Fields → Rose NodeFields
  node_of (field encoding (field metadata (field children (field buffers (field stats vs))))) =
      node (record { encoding = number_of_field encoding; metadata = bytes_of_field metadata; buffers = indices_of (bytes_of_field buffers); stats = stats })
      (nodes_in children)
  node_of _ = node no_node end

  -- The nodes of a vector of tables; absent children are none.
  pub nodes_in : Field → Roses NodeFields
  nodes_in (tables rows) = nodes_of rows
  nodes_in _ = end

  -- The nodes that table values show, in order.
  pub nodes_of : Rows → Roses NodeFields
  nodes_of no_rows = end
  nodes_of (row vs rows) = more (node_of vs) (nodes_of rows)

-- The root, if there is one.
abbrev pub root_in : Field → Option (Rose NodeFields)
root_in (table vs) = Some (node_of vs)
root_in _ = None

-- The message that a table value shows; absent descriptors are none.
abbrev pub message_of : Fields → Message
message_of (field root (field descriptors vs)) = record { root = root_in root; descriptors = descriptors_of (bytes_of_field descriptors) }
message_of _ = record { root = None; descriptors = [] }
