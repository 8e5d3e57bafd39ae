-- The blocks of nodes.
use Rattle.std.specs.Prelude.{ℕ, ◌+◌, List, [], ◌∷◌, length, get_or}
use Rattle.vx_flat.specs.declared.builder.piece.LinkKind.TheVariants as link
use Rattle.vx_flat.specs.Layout.{written_layout}
use Rattle.vx_flat.specs.Pieces.{Piece, links_piece, rows_pieces, table_pieces}
use Rattle.vx_flat.specs.Value.{Fields, table, elements, field, no_fields, rows_length}
use Rattle.vx_trees.specs.Rose.{Rose, Roses, node, end, more}
use Rattle.vx_trees.specs.Walks.{nodes, gathered, gathered_below}
use Rattle.vx_wire_tree.specs.Wire.{Wire, Wires, present, buffers_at_node}
use Rattle.vx_serialized.specs.ArraySchema.{array_schema, node_fields}
use Rattle.vx_serialized.specs.Message.{NodeFields}
use Rattle.vx_serde.specs.MessageValue.{node_value, rows_value}
use Rattle.vx_serde.specs.Numbered.{encoding_index, numbers_from}

-- ---- nodes whose encodings are numbered

-- The number of each node's encoding in a list of identifiers, in preorder.
abbrev pub encodings_in : List (List ℕ) → Wire → List ℕ
encodings_in ids w = gathered (λ h. encoding_index h.id ids ∷ []) w

-- The same for the nodes below one.
abbrev pub encodings_below : List (List ℕ) → Wires → List ℕ
encodings_below ids ws = gathered_below (λ h. encoding_index h.id ids ∷ []) ws

abbrev mutual
  -- A tree whose encodings have the numbers of a list in preorder, the root's at the place k, and whose buffers are
  -- numbered in preorder from n on.
  pub numbered_by : List ℕ → ℕ → ℕ → Wire → Rose NodeFields
  numbered_by numbers k n (node h ws) =
      node (record { encoding = get_or numbers k 0; metadata = h.metadata; buffers = numbers_from n (length (present h.buffers)); stats = h.stats })
      (numbered_below_by numbers (k + 1) (n + length (present h.buffers)) ws)

  -- The trees below a node, each numbered on from where the one before it ends.
  pub numbered_below_by : List ℕ → ℕ → ℕ → Wires → Roses NodeFields
  numbered_below_by numbers k n end = end
  numbered_below_by numbers k n (more w ws) =
      more (numbered_by numbers k n w) (numbered_below_by numbers (k + nodes w) (n + length (gathered buffers_at_node w)) ws)

-- ---- blocks

-- The blocks of a node with all nodes below it.
abbrev pub node_pieces : List ℕ → ℕ → ℕ → Wire → List Piece
node_pieces numbers k n w = table_pieces array_schema node_fields (node_value (numbered_by numbers k n w))

-- The blocks of the nodes below one, and of the vector that links to them.
abbrev pub children_pieces : List ℕ → ℕ → ℕ → Wires → List Piece
children_pieces numbers k n ws =
    let rows = rows_value (numbered_below_by numbers k n ws) in
    links_piece link.Table (rows_length rows) ∷ rows_pieces array_schema 1 rows

-- The value of a message of a tree and of the bytes of its descriptors.
abbrev pub message_by : List ℕ → Wire → List ℕ → Fields
message_by numbers w bytes = field (table (node_value (numbered_by numbers 0 0 w))) (field (elements bytes) no_fields)

-- The message.
abbrev pub layout_by : List ℕ → Wire → List ℕ → List ℕ
layout_by numbers w bytes = written_layout array_schema (message_by numbers w bytes)
