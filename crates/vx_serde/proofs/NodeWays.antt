-- A node's blocks, written one after the other: how far a builder has come.
use Rattle.std.proofs.Common.{ℕ, ◌≡◌, ◌+◌, Bool, true, false, List, [], ◌∷◌, ◌++◌, length, get_or, refl, sym, ap, ◌∙◌, subst, append_assoc}
use Rattle.std.specs.Prelude.{◌==◌, if◌then◌else◌}
use Rattle.vx_flat.specs.declared.builder.piece.BlockField.{BlockField}
use Rattle.vx_flat.specs.declared.builder.piece.BlockField.TheVariants as entry
use Rattle.vx_flat.specs.declared.builder.piece.LinkKind.TheVariants as link
use Rattle.vx_flat.specs.Building.{Built, Link, with_piece, waiting, links_of, entry_links}
use Rattle.vx_flat.specs.Pieces.{Piece, table_piece, elements_piece, default_entry}
use Rattle.vx_flat.specs.Value.{table}
use Rattle.vx_scalars.specs.Stats.{Stats}
use Rattle.vx_scalar_wire.specs.StatsTable.{stats_table, stats_pieces}
use Rattle.vx_wire_tree.specs.Wire.{Wire, present}
use Rattle.vx_trees.specs.Rose.{label, below}
use Rattle.vx_flat.specs.Building.{AreWritten}
use Rattle.vx_serde.specs.Blocks.{node_pieces, children_pieces}
use Rattle.vx_serde.specs.MessageValue.{index_bytes}
use Rattle.vx_serde.specs.Numbered.{numbers_from}
use Rattle.vx_flat.specs.Building.{IsPartWay}
use Rattle.vx_flat.proofs.LawsOfLinks.{begun, gone_on, ended}
use Rattle.vx_serde.proofs.NodePieces.{node_piece, node-blocks}

-- ---- the links of a node's block

abbrev pub metadata_link : ℕ → Link
metadata_link n = record { block = n; index = 1; kind = link.Vector }

abbrev pub children_link : ℕ → Link
children_link n = record { block = n; index = 2; kind = link.Vector }

abbrev pub buffers_link : ℕ → Link
buffers_link n = record { block = n; index = 3; kind = link.Vector }

abbrev pub stats_link : ℕ → Link
stats_link n = record { block = n; index = 4; kind = link.Table }

abbrev pub node_links : ℕ → List Link
node_links n = metadata_link n ∷ children_link n ∷ buffers_link n ∷ stats_link n ∷ []

links-at : (n : ℕ) (b : Bool) (v : ℕ)
    → entry_links n 0 ((if b then entry.Absent else entry.Number 2 v) ∷ entry.Link link.Vector ∷ entry.Link link.Vector ∷ entry.Link link.Vector ∷ entry.Link link.Table ∷ []) ≡ node_links n
links-at n true v = refl
links-at n false v = refl

pub node-links : (n v : ℕ) → links_of n (node_piece v) ≡ node_links n
node-links n v = links-at n (v == 0) v

-- The entries that are written are those of a node.
pub entry_is : (e : BlockField) (v : ℕ) → e ≡ default_entry 2 v
    → table_piece (e ∷ entry.Link link.Vector ∷ entry.Link link.Vector ∷ entry.Link link.Vector ∷ entry.Link link.Table ∷ []) ≡ node_piece v
entry_is e v s = ap (λ x. table_piece (x ∷ entry.Link link.Vector ∷ entry.Link link.Vector ∷ entry.Link link.Vector ∷ entry.Link link.Table ∷ [])) s

-- ---- step by step

module _ (old : Built) (v : ℕ) where
  pub way0 : (b1 : Built) (e : BlockField) → e ≡ default_entry 2 v
      → b1 ≡ with_piece old (table_piece (e ∷ entry.Link link.Vector ∷ entry.Link link.Vector ∷ entry.Link link.Vector ∷ entry.Link link.Table ∷ []))
      → IsPartWay old (node_piece v) (node_links old.count) [] b1
  way0 b1 e s w =
      begun old b1 (node_piece v) _ (node_links old.count) w (entry_is e v s) (node-links old.count v)

  pub way1 : (b1 l1 b2 : Built) (m : List ℕ) → IsPartWay old (node_piece v) (node_links old.count) [] b1 → (b1.failed ≡ false → l1 ≡ waiting b1)
      → AreWritten l1 (elements_piece 1 m ∷ []) b2
      → IsPartWay old (node_piece v) (children_link old.count ∷ buffers_link old.count ∷ stats_link old.count ∷ []) (elements_piece 1 m ∷ []) b2
  way1 b1 l1 b2 m way go w = gone_on old (node_piece v) _ _ [] b1 l1 b2 (elements_piece 1 m ∷ []) way go w

  pub way2 : (b2 l2 b3 : Built) (m : List ℕ) (kids : List Piece) → IsPartWay old (node_piece v) (children_link old.count ∷ buffers_link old.count ∷ stats_link old.count ∷ []) (elements_piece 1 m ∷ []) b2
      → (b2.failed ≡ false → l2 ≡ waiting b2) → AreWritten l2 kids b3
      → IsPartWay old (node_piece v) (buffers_link old.count ∷ stats_link old.count ∷ []) (elements_piece 1 m ∷ kids) b3
  way2 b2 l2 b3 m kids way go w = gone_on old (node_piece v) _ _ (elements_piece 1 m ∷ []) b2 l2 b3 kids way go w

  pub way3 : (b3 l3 b4 : Built) (m bytes : List ℕ) (kids : List Piece) → IsPartWay old (node_piece v) (buffers_link old.count ∷ stats_link old.count ∷ []) (elements_piece 1 m ∷ kids) b3
      → (b3.failed ≡ false → l3 ≡ waiting b3) → AreWritten l3 (elements_piece 2 bytes ∷ []) b4
      → IsPartWay old (node_piece v) (stats_link old.count ∷ []) (elements_piece 1 m ∷ (kids ++ elements_piece 2 bytes ∷ [])) b4
  way3 b3 l3 b4 m bytes kids way go w = gone_on old (node_piece v) _ _ (elements_piece 1 m ∷ kids) b3 l3 b4 (elements_piece 2 bytes ∷ []) way go w

  pub way4 : (b4 l4 b5 : Built) (m bytes : List ℕ) (kids stats : List Piece) → IsPartWay old (node_piece v) (stats_link old.count ∷ []) (elements_piece 1 m ∷ (kids ++ elements_piece 2 bytes ∷ [])) b4
      → (b4.failed ≡ false → l4 ≡ waiting b4) → AreWritten l4 stats b5
      → AreWritten old (node_piece v ∷ (elements_piece 1 m ∷ (kids ++ (elements_piece 2 bytes ∷ stats)))) b5
  way4 b4 l4 b5 m bytes kids stats way go w =
      let last = gone_on old (node_piece v) _ [] (elements_piece 1 m ∷ (kids ++ elements_piece 2 bytes ∷ [])) b4 l4 b5 stats way go w in
      let P : List Piece → Type 0 = λ z. AreWritten old (node_piece v ∷ (elements_piece 1 m ∷ z)) b5 in
      subst P (append_assoc kids (elements_piece 2 bytes ∷ []) stats) (ended old (node_piece v) _ b5 last w.fits)

-- ---- the whole

-- The blocks of a node, from its parts.
pub node-whole : (es : List ℕ) (k first own : ℕ) (w : Wire) (v : ℕ) (m bytes : List ℕ) (x : Stats) → (label w).stats ≡ table (stats_table x) → v ≡ get_or es k 0 → m ≡ (label w).metadata
    → own ≡ length (present (label w).buffers) → bytes ≡ index_bytes (numbers_from first own)
    → node_piece v ∷ (elements_piece 1 m ∷ (children_pieces es (k + 1) (first + own) (below w) ++ (elements_piece 2 bytes ∷ stats_pieces x))) ≡ node_pieces es k first w
node-whole es k first own w v m bytes x e p q c r =
    (λ i. node_piece (p i) ∷ (elements_piece 1 (q i) ∷ (children_pieces es (k + 1) (first + c i) (below w) ++ (elements_piece 2 ((r ∙ ap (λ z. index_bytes (numbers_from first z)) c) i) ∷ stats_pieces x))))
    ∙ sym (node-blocks es k first w x e)
