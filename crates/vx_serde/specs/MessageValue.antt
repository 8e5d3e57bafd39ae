-- The table value that is written for an array message.
use Rattle.std.specs.Prelude.{ℕ, ◌<◌, ◌^◌, List, [], ◌∷◌, ◌++◌, All}
use Rattle.std.specs.Int.{w16, w32, to_le_bytes}
use Rattle.vx_flat.specs.Value.{number, elements, table, tables, Fields, no_fields, field, Rows, no_rows, row}
use Rattle.vx_flat.specs.declared.schema.FieldKind.TheVariants.{Table}
use Rattle.vx_flat.specs.IsOf.{IsOfKind}
use Rattle.vx_trees.specs.Rose.{Rose, Roses, node, end, more}
use Rattle.vx_trees.specs.Everywhere.{Everywhere}
use Rattle.vx_serialized.specs.ArraySchema.{array_schema}
use Rattle.vx_serialized.specs.declared.message.Descriptor.{Descriptor}
use Rattle.vx_serialized.specs.Message.{NodeFields}

-- Indices as numbers of two bytes.
abbrev pub index_bytes : List ℕ → List ℕ
index_bytes [] = []
index_bytes (i ∷ is) = to_le_bytes w16 i ++ index_bytes is

-- A descriptor as a struct of eight bytes.
abbrev pub descriptor_bytes : Descriptor → List ℕ
descriptor_bytes d = to_le_bytes w16 d.padding ++ d.exponent ∷ d.compression ∷ to_le_bytes w32 d.len

-- Descriptors one after the other.
abbrev pub descriptors_bytes : List Descriptor → List ℕ
descriptors_bytes [] = []
descriptors_bytes (d ∷ ds) = descriptor_bytes d ++ descriptors_bytes ds

abbrev mutual
  -- A node as a table: metadata, children and buffers are present, empty or not, and statistics where the node has a
  -- table of them.
  pub node_value : Rose NodeFields → Fields
  node_value (node f ts) =
      field (number f.encoding) (field (elements f.metadata) (field (tables (rows_value ts)) (field (elements (index_bytes f.buffers)) (field f.stats no_fields))))

  -- Nodes as tables, in order.
  pub rows_value : Roses NodeFields → Rows
  rows_value end = no_rows
  rows_value (more t ts) = row (node_value t) (rows_value ts)

-- A message as a table: its root and its descriptors are present.
abbrev pub message_value : Rose NodeFields → List Descriptor → Fields
message_value root descriptors = field (table (node_value root)) (field (elements (descriptors_bytes descriptors)) no_fields)

-- A node whose indices fit two bytes each, and whose statistics are absent or a table of their kind.
pub record IsNumberedNode (f : NodeFields) (ts : Roses NodeFields) : Type 0 where
  pub encoding : f.encoding < 2 ^ 16
  pub buffers : All (λ i. i < 2 ^ 16) f.buffers
  pub stats : IsOfKind array_schema (Table 2) f.stats

-- A descriptor whose parts fit their bytes.
pub record IsDescribed (d : Descriptor) : Type 0 where
  pub padding : d.padding < 2 ^ 16
  pub exponent : d.exponent < 2 ^ 8
  pub compression : d.compression < 2 ^ 8
  pub len : d.len < 2 ^ 32

-- A tree of nodes that a message can hold.
abbrev pub IsNumbered : Rose NodeFields → Type 0
IsNumbered = Everywhere IsNumberedNode
