-- The blocks of a node and of the nodes below it, part by part.
use Rattle.std.proofs.Common.{ℕ, zero, suc, ◌≡◌, ◌+◌, ◌<◌, ◌*◌, ◌%◌, List, [], ◌∷◌, ◌++◌, length, take, drop, get_or, refl, sym, ap, ◌∙◌, arith, append_assoc, append-nil, length-append, add-zero, drop-cons, subst}
use Rattle.std.specs.Int.{w16, to_le_bytes}
use Rattle.std.proofs.lemmas.List.{take_more, take-append-drop}
use Rattle.vx_flat.specs.declared.builder.piece.BlockField.TheVariants as entry
use Rattle.vx_flat.specs.declared.builder.piece.LinkKind.TheVariants as link
use Rattle.vx_flat.specs.Pieces.{Piece, table_piece, elements_piece, default_entry, rows_pieces, table_pieces}
use Rattle.vx_flat.specs.Value.{table, rows_length}
use Rattle.vx_scalars.specs.Stats.{Stats}
use Rattle.vx_scalar_wire.specs.StatsTable.{stats_table, stats_pieces}
use Rattle.vx_scalar_wire.proofs.LawsStats.{pieces_anywhere}
use Rattle.vx_trees.specs.Rose.{node, label, below, roses_of}
use Rattle.vx_trees.specs.Walks.{nodes, nodes_of, gathered, gathered_below}
use Rattle.vx_wire_tree.specs.Wire.{Wire, present, buffers_at_node, buffers_in}
use Rattle.vx_serialized.specs.ArraySchema.{array_schema, stats_fields}
use Rattle.vx_serde.specs.Blocks.{numbered_below_by, node_pieces, children_pieces}
use Rattle.vx_serde.specs.MessageValue.{index_bytes, rows_value}
use Rattle.vx_serde.specs.Numbered.{numbers_from}

-- The block of a node itself.
abbrev pub node_piece : ℕ → Piece
node_piece v = table_piece (default_entry 2 v ∷ entry.Link link.Vector ∷ entry.Link link.Vector ∷ entry.Link link.Vector ∷ entry.Link link.Table ∷ [])

-- The blocks of a set of statistics, at the end of a node's.
stats-blocks : (x : Stats) → table_pieces array_schema stats_fields (stats_table x) ++ [] ≡ stats_pieces x
stats-blocks x = append-nil (table_pieces array_schema stats_fields (stats_table x)) ∙ pieces_anywhere array_schema x

-- A node's blocks: its own, its metadata's, its children's, its buffers' and its statistics'.
pub node-blocks : (es : List ℕ) (k n : ℕ) (w : Wire) (x : Stats) → (label w).stats ≡ table (stats_table x)
    → node_pieces es k n w
    ≡ node_piece (get_or es k 0) ∷ (elements_piece 1 (label w).metadata
    ∷ (children_pieces es (k + 1) (n + length (present (label w).buffers)) (below w)
    ++ (elements_piece 2 (index_bytes (numbers_from n (length (present (label w).buffers)))) ∷ stats_pieces x)))
node-blocks es k n (node h ws) x e =
    (λ i. node_pieces es k n (node (record { id = h.id; metadata = h.metadata; buffers = h.buffers; stats = e i }) ws))
    ∙ (λ i. node_piece (get_or es k 0) ∷ (elements_piece 1 h.metadata
    ∷ (children_pieces es (k + 1) (n + length (present h.buffers)) ws ++ (elements_piece 2 (index_bytes (numbers_from n (length (present h.buffers)))) ∷ stats-blocks x i))))

-- What was written, then the next number, then the rest.
pub number_next : (out all : List ℕ) (n m k k' : ℕ) → k ≡ suc k' → m ≡ suc n → out ++ index_bytes (numbers_from n k) ≡ all → (out ++ to_le_bytes w16 n) ++ index_bytes (numbers_from m k') ≡ all
number_next out all n m k k' e f h =
    append_assoc out (to_le_bytes w16 n) (index_bytes (numbers_from m k'))
    ∙ ap (λ j. out ++ (to_le_bytes w16 n ++ index_bytes (numbers_from j k'))) f
    ∙ subst (λ j. out ++ index_bytes (numbers_from n j) ≡ all) e h

-- The numbers of buffers are two bytes each.
even-bytes : (n k : ℕ) → length (index_bytes (numbers_from n k)) ≡ 2 * k
even-bytes n zero = refl
even-bytes n (suc k) = omega (arith, even-bytes (suc n) k)

pub whole-bytes : (n k : ℕ) (bytes : List ℕ) → bytes ≡ index_bytes (numbers_from n k) → length bytes % 2 ≡ 0
whole-bytes n k bytes e = omega (arith, ap (λ z. length z) e, even-bytes n k)

-- ---- the nodes below

pub rows-count : (es : List ℕ) (k n : ℕ) (ws : List Wire) → rows_length (rows_value (numbered_below_by es k n (roses_of ws))) ≡ length ws
rows-count es k n [] = refl
rows-count es k n (w ∷ ws) = ap suc (rows-count es (k + nodes w) (n + length (gathered (λ h. buffers_at_node h) w)) ws)

-- The blocks of some of them.
abbrev pub rows_of : List ℕ → ℕ → ℕ → List Wire → List Piece
rows_of es k n ws = rows_pieces array_schema 1 (rows_value (numbered_below_by es k n (roses_of ws)))

-- How many buffers some of them have.
abbrev pub buffers_below : List Wire → ℕ
buffers_below ws = length (gathered_below (λ h. buffers_at_node h) (roses_of ws))

rows-append : (es : List ℕ) (k n : ℕ) (ws us : List Wire) → rows_of es k n (ws ++ us) ≡ rows_of es k n ws ++ rows_of es (k + nodes_of (roses_of ws)) (n + buffers_below ws) us
rows-append es k n [] us = λ i. rows_of es (sym (add-zero k) i) (sym (add-zero n) i) us
rows-append es k n (w ∷ ws) us =
    let own = gathered (λ h. buffers_at_node h) w in
    let rest = gathered_below (λ h. buffers_at_node h) (roses_of ws) in
    let places : k + nodes w + nodes_of (roses_of ws) ≡ k + (nodes w + nodes_of (roses_of ws)) = omega arith in
    let counts : n + length own + length rest ≡ n + length (own ++ rest) = omega (arith, length-append own rest) in
    ap (λ ps. node_pieces es k n w ++ ps) (rows-append es (k + nodes w) (n + length own) ws us)
    ∙ (λ i. node_pieces es k n w ++ (rows_of es (k + nodes w) (n + length own) ws ++ rows_of es (places i) (counts i) us))
    ∙ sym (append_assoc (node_pieces es k n w) (rows_of es (k + nodes w) (n + length own) ws) (rows_of es (k + (nodes w + nodes_of (roses_of ws))) (n + length (own ++ rest)) us))

module _ (es : List ℕ) (k n place next : ℕ) (ws : List Wire) (i : ℕ) (w : Wire) (h : i < length ws) (e : w ≡ get_or ws i w)
    (b : place ≡ k + nodes_of (roses_of (take i ws))) (c : next ≡ n + buffers_below (take i ws)) where
  -- One more of them.
  pub rows-next : rows_of es k n (take (i + 1) ws) ≡ rows_of es k n (take i ws) ++ node_pieces es place next w
  rows-next =
      ap (λ us. rows_of es k n us) (take_more ws i w h)
      ∙ rows-append es k n (take i ws) (get_or ws i w ∷ [])
      ∙ (λ j. rows_of es k n (take i ws) ++ (node_pieces es (sym b j) (sym c j) (sym e j) ++ []))
      ∙ ap (λ ps. rows_of es k n (take i ws) ++ ps) (append-nil (node_pieces es place next w))

  -- One of them among the others.
  pub rows-split : rows_of es k n (take i ws) ++ (node_pieces es place next w ++ rows_of es (place + nodes w) (next + length (buffers_in w)) (drop (suc i) ws)) ≡ rows_of es k n ws
  rows-split =
      (λ j. rows_of es k n (take i ws) ++ (node_pieces es (b j) (c j) (e j) ++ rows_of es (b j + nodes (e j)) (c j + length (buffers_in (e j))) (drop (suc i) ws)))
      ∙ sym (rows-append es k n (take i ws) (get_or ws i w ∷ drop (suc i) ws))
      ∙ ap (λ us. rows_of es k n (take i ws ++ us)) (sym (drop-cons ws i w h))
      ∙ ap (λ us. rows_of es k n us) (take-append-drop i ws)
