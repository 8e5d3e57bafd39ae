-- The steps of writing the nodes of an array as blocks.
use Rattle.std.proofs.Common.{ℕ, zero, suc, ◌≡◌, ◌+◌, ◌<◌, ◌≤◌, List, [], ◌∷◌, ◌++◌, length, take, drop, get_or, refl, sym, ap, ◌∙◌, subst, arith, length-append, drop-cons, add-zero}
use Rattle.std.proofs.lemmas.List.{take-append-drop, take_all, take_more}
use Rattle.vx_buffer.specs.Buffer.{Buffer}
use Rattle.vx_flat.specs.declared.error.FlatError.{FlatError}
use Rattle.vx_flat.specs.declared.error.FlatError.TheVariants as flat
use Rattle.vx_flat.specs.declared.builder.piece.LinkKind.TheVariants as link
use Rattle.vx_flat.specs.Building.{Built, RefusesPieces}
use Rattle.vx_flat.specs.Pieces.{Piece, elements_piece, links_piece}
use Rattle.vx_trees.specs.Everywhere.{EverywhereBelow}
use Rattle.vx_trees.specs.Rose.{Rose, node, label, below, roses_of}
use Rattle.vx_trees.specs.Walks.{nodes, nodes_of, gathered, gathered_below}
use Rattle.vx_trees.proofs.Counting.{nodes-is}
use Rattle.vx_trees.proofs.Gathering.{gathered-is, gathered_below-take}
use Rattle.vx_array_tree.specs.Sound.{metadata_in}
use Rattle.vx_array_tree.specs.Table.{buffers_of}
use Rattle.vx_array_tree.specs.Tree.{Tree, Trees}
use Rattle.vx_scalar_wire.specs.StatsTable.{AreStorable, stats_pieces}
use Rattle.vx_wire_tree.specs.Fields.{told}
use Rattle.vx_wire_tree.specs.ReadBack.{IsStorableNode, HasStorableStats}
use Rattle.vx_wire_tree.specs.Session.{SessionMeaning}
use Rattle.vx_wire_tree.specs.Wire.{WireHead, buffers_in, buffers_at_node}
use Rattle.vx_wire_tree.specs.Written.{wire, wires}
use Rattle.vx_encodings.specs.Messages.{codec, message_bytes}
use Rattle.vx_serde.specs.Blocks.{node_pieces, children_pieces}
use Rattle.vx_serde.specs.MessageValue.{index_bytes}
use Rattle.vx_serde.specs.Numbered.{numbers_from}
use Rattle.vx_serde.proofs.NodePieces.{node_piece, rows_of, rows-count, buffers_below}
use Rattle.vx_serde.proofs.NodeWays.{node-whole}
use Rattle.vx_serde.proofs.WalkedNodes.{gathered_below-append}
use Rattle.vx_serde.proofs.WiredNodes.{wired, wires-list, wired-length, wired-at, wired-below, wired-within, wired-nodes, own-buffers, own-length, own-metadata, own-stats}

-- Where allocation fails before the first block, nothing was written.
pub nothing-written : (ps : List Piece) (old : Built) (e : FlatError) → e ≡ flat.OutOfMemory → RefusesPieces old ps e old
nothing-written ps old e is =
    let P : FlatError → Type 0 = λ z. RefusesPieces old ps z old in
    subst P (sym is) (record { more = []; rest = ps; front = refl; bytes = refl })

-- ---- a node and the nodes below it

module _ (s : SessionMeaning) (t : Tree) (ts : List Tree) (at : roses_of ts ≡ below t) where
  kids_same : wires codec s (roses_of ts) ≡ below (wire codec s t)
  kids_same = wires-list s ts ∙ wired-below s t ts at

  pub buffers-split : length (buffers_in (wire codec s t)) ≡ length (buffers_of (label t).body) + length (gathered_below (λ h. buffers_at_node h) (wires codec s (roses_of ts)))
  buffers-split =
      ap (λ z. length z) (gathered-is (λ h. buffers_at_node h) (wire codec s t))
      ∙ length-append (buffers_at_node (label (wire codec s t))) (gathered_below (λ h. buffers_at_node h) (below (wire codec s t)))
      ∙ (λ k. length (own-buffers s t k) + length (gathered_below (λ h. buffers_at_node h) (sym kids_same k)))

  -- A node's blocks, by its parts.
  pub node-is : (es : List ℕ) (k first place next v : ℕ) (m bytes : List ℕ) → v ≡ get_or es k 0 → m ≡ message_bytes (told (metadata_in (label t) (below t)))
      → bytes ≡ index_bytes (numbers_from first (length (buffers_of (label t).body))) → place ≡ k + 1 → next ≡ first + length (buffers_of (label t).body)
      → node_piece v ∷ (elements_piece 1 m ∷ (children_pieces es place next (wires codec s (roses_of ts)) ++ (elements_piece 2 bytes ∷ stats_pieces (label t).stats))) ≡ node_pieces es k first (wire codec s t)
  node-is es k first place next v m bytes p q r a n =
      let own = length (buffers_of (label t).body) in
      (λ i. node_piece v ∷ (elements_piece 1 m ∷ (children_pieces es (a i) (n i) (kids_same i) ++ (elements_piece 2 bytes ∷ stats_pieces (label t).stats))))
      ∙ node-whole es k first own (wire codec s t) v m bytes (label t).stats (own-stats s t) p (q ∙ sym (own-metadata s t)) (own-length s t) r

-- A node and those below it have statistics that can be stored.
pub stored-node : (t : Tree) (ts : List Tree) → roses_of ts ≡ below t → AreStorable (label t).stats → EverywhereBelow (IsStorableNode codec) (roses_of ts) → HasStorableStats codec t
stored-node (node h us) ts e x b = (x, subst (λ (z : Trees). EverywhereBelow (IsStorableNode codec) z) e b)

pub stored-all : (ts : List Tree) (i : ℕ) → length ts ≤ i → EverywhereBelow (IsStorableNode codec) (roses_of (take i ts)) → EverywhereBelow (IsStorableNode codec) (roses_of ts)
stored-all ts i past b = subst (λ (us : List Tree). EverywhereBelow (IsStorableNode codec) (roses_of us)) (take_all i ts past) b

-- The nodes of a tree are its root and those below it.
pub counted-below : (t : Tree) (ts : List Tree) → roses_of ts ≡ below t → nodes t ≡ nodes_of (roses_of ts) + 1
counted-below t ts at = nodes-is t ∙ ap (λ z. nodes_of z + 1) (sym at)

pub counted-list : (ts : List Tree) → length ts ≤ nodes_of (roses_of ts)
counted-list [] = omega arith
counted-list (t ∷ ts) = omega (arith, counted-list ts, nodes-is t)

-- ---- the nodes below, one by one

module _ {L : Type 0} where
  nodes_of-append : (ts us : List (Rose L)) → nodes_of (roses_of (ts ++ us)) ≡ nodes_of (roses_of ts) + nodes_of (roses_of us)
  nodes_of-append [] us = omega arith
  nodes_of-append (t ∷ ts) us = omega (arith, nodes_of-append ts us)

  -- One of them among the others.
  pub nodes-split : (ts : List (Rose L)) (i : ℕ) (u : Rose L) → i < length ts → u ≡ get_or ts i u
      → nodes_of (roses_of ts) ≡ nodes_of (roses_of (take i ts)) + (nodes u + nodes_of (roses_of (drop (suc i) ts)))
  nodes-split [] i u h e = absurd (omega (arith, h))
  nodes-split (t ∷ ts) zero u h e = omega (arith, ap (λ z. nodes z) e)
  nodes-split (t ∷ ts) (suc i) u h e = omega (arith, nodes-split ts i u (omega (arith, h)) e)

  -- One more of them.
  pub nodes-up_to : (ts : List (Rose L)) (i : ℕ) (u : Rose L) → i < length ts → u ≡ get_or ts i u
      → nodes_of (roses_of (take (i + 1) ts)) ≡ nodes_of (roses_of (take i ts)) + nodes u
  nodes-up_to ts i u h e =
      ap (λ z. nodes_of (roses_of z)) (take_more ts i u h)
      ∙ nodes_of-append (take i ts) (get_or ts i u ∷ [])
      ∙ (λ j. nodes_of (roses_of (take i ts)) + (nodes (sym e j) + 0))
      ∙ ap (λ n. nodes_of (roses_of (take i ts)) + n) (add-zero (nodes u))

  pub nodes-all_of : (ts : List (Rose L)) (i : ℕ) → length ts ≤ i → nodes_of (roses_of (take i ts)) ≡ nodes_of (roses_of ts)
  nodes-all_of ts i h = ap (λ z. nodes_of (roses_of z)) (take_all i ts h)

module _ (s : SessionMeaning) (ts : List Tree) where
  -- Their wire trees have as many nodes.
  pub wired-first : (i : ℕ) → nodes_of (roses_of (take i (wired s ts))) ≡ nodes_of (roses_of (take i ts))
  wired-first i = at ts i where
    at : (us : List Tree) (i : ℕ) → nodes_of (roses_of (take i (wired s us))) ≡ nodes_of (roses_of (take i us))
    at us zero = refl
    at [] (suc i) = refl
    at (u ∷ us) (suc i) = λ j. wired-nodes s u j + at us i j

  module _ (i : ℕ) (u : Tree) (lt : i < length ts) (is : u ≡ get_or ts i u) where
    -- The buffers of all of them: of those before one, its own, and of those after it.
    pub buffers-parts : length (gathered_below (λ h. buffers_at_node h) (wires codec s (roses_of ts)))
        ≡ buffers_below (take i (wired s ts)) + (length (buffers_in (wire codec s u)) + buffers_below (drop (suc i) (wired s ts)))
    buffers-parts =
        let ws = wired s ts in
        let w = wire codec s u in
        let f : WireHead → List Buffer = λ h. buffers_at_node h in
        let behind = gathered_below f (roses_of (drop (suc i) ws)) in
        ap (λ z. length (gathered_below f z)) (wires-list s ts)
        ∙ ap (λ z. length (gathered_below f (roses_of z))) (sym (take-append-drop i ws) ∙ ap (λ z. take i ws ++ z) (drop-cons ws i w (wired-within s ts i lt)))
        ∙ ap (λ z. length z) (gathered_below-append f (take i ws) (get_or ws i w ∷ drop (suc i) ws))
        ∙ length-append (gathered_below f (roses_of (take i ws))) (gathered f (get_or ws i w) ++ behind)
        ∙ ap (λ n. buffers_below (take i ws) + n) (length-append (gathered f (get_or ws i w)) behind)
        ∙ (λ k. buffers_below (take i ws) + (length (gathered f (sym (wired-at s ts i u lt is) k)) + length behind))

    pub buffers-up_to : buffers_below (take (i + 1) (wired s ts)) ≡ buffers_below (take i (wired s ts)) + length (buffers_in (wire codec s u))
    buffers-up_to =
        let ws = wired s ts in
        let w = wire codec s u in
        let f : WireHead → List Buffer = λ h. buffers_at_node h in
        ap (λ z. length z) (gathered_below-take f ws i w (wired-within s ts i lt))
        ∙ length-append (gathered_below f (roses_of (take i ws))) (gathered f (get_or ws i w))
        ∙ (λ k. buffers_below (take i ws) + length (gathered f (sym (wired-at s ts i u lt is) k)))

  pub buffers-all_of : (i : ℕ) → length ts ≤ i → buffers_below (take i (wired s ts)) ≡ length (gathered_below (λ h. buffers_at_node h) (wires codec s (roses_of ts)))
  buffers-all_of i h =
      ap (λ z. buffers_below z) (take_all i (wired s ts) (omega (arith, h, wired-length s ts))) ∙ ap (λ z. length (gathered_below (λ h. buffers_at_node h) z)) (sym (wires-list s ts))

  -- The blocks of all of them.
  pub children-whole : (es : List ℕ) (k first : ℕ) → links_piece link.Table (length ts) ∷ rows_of es k first (wired s ts) ≡ children_pieces es k first (wires codec s (roses_of ts))
  children-whole es k first =
      ap (λ n. links_piece link.Table n ∷ rows_of es k first (wired s ts)) (sym (wired-length s ts) ∙ sym (rows-count es k first (wired s ts)))
      ∙ ap (λ us. children_pieces es k first us) (sym (wires-list s ts))
