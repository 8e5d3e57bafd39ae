-- The wire trees of an array under two sessions differ by identifiers alone: they are numbered alike.
use Rattle.std.proofs.Common.{ℕ, ◌≡◌, ◌+◌, List, ◌++◌, length, get_or, refl, ap, sym, ◌∙◌}
use Rattle.vx_trees.specs.Rose.{node, end, more}
use Rattle.vx_trees.specs.Walks.{nodes, gathered, gathered_below}
use Rattle.vx_array_tree.specs.Table.{buffers_of}
use Rattle.vx_array_tree.specs.Tree.{Tree, Trees}
use Rattle.vx_flat.specs.Value.{table, elements, field, no_fields}
use Rattle.vx_wire_tree.specs.Session.{SessionMeaning}
use Rattle.vx_wire_tree.specs.Wire.{all_present, present, buffers_at_node}
use Rattle.vx_wire_tree.specs.Written.{wire, wires, wire_head}
use Rattle.vx_encodings.specs.Messages.{codec}
use Rattle.vx_serde.specs.Blocks.{message_by, numbered_by, numbered_below_by}
use Rattle.vx_serde.specs.MessageValue.{node_value}
use Rattle.vx_serde.specs.Numbered.{numbers_from}
use Rattle.vx_serde.proofs.WiredNodes.{wired-nodes}

module _ (s r : SessionMeaning) where
  mutual
    buffers_alike : (t : Tree) → gathered buffers_at_node (wire codec s t) ≡ gathered buffers_at_node (wire codec r t)
    buffers_alike (node h ts) = ap (λ z. present (all_present (buffers_of h.body)) ++ z) (buffers_below ts)

    buffers_below : (ts : Trees) → gathered_below buffers_at_node (wires codec s ts) ≡ gathered_below buffers_at_node (wires codec r ts)
    buffers_below end = refl
    buffers_below (more t ts) = let a = buffers_alike t in let b = buffers_below ts in λ i. a i ++ b i

  nodes_alike : (t : Tree) → nodes (wire codec s t) ≡ nodes (wire codec r t)
  nodes_alike t = wired-nodes s t ∙ sym (wired-nodes r t)

  mutual
    numbered_alike : (es : List ℕ) (k n : ℕ) (t : Tree) → numbered_by es k n (wire codec s t) ≡ numbered_by es k n (wire codec r t)
    numbered_alike es k n (node h ts) =
        let b = below_alike es (k + 1) (n + length (present (all_present (buffers_of h.body)))) ts in
        λ i. node (record {
          encoding = get_or es k 0;
          metadata = (wire_head codec s h ts).metadata;
          buffers = numbers_from n (length (present (all_present (buffers_of h.body))));
          stats = (wire_head codec s h ts).stats;
        }) (b i)

    below_alike : (es : List ℕ) (k n : ℕ) (ts : Trees) → numbered_below_by es k n (wires codec s ts) ≡ numbered_below_by es k n (wires codec r ts)
    below_alike es k n end = refl
    below_alike es k n (more t ts) =
        let a = numbered_alike es k n t in
        let j : k + nodes (wire codec s t) ≡ k + nodes (wire codec r t) = ap (λ z. k + z) (nodes_alike t) in
        let m : n + length (gathered buffers_at_node (wire codec s t)) ≡ n + length (gathered buffers_at_node (wire codec r t)) = ap (λ z. n + length z) (buffers_alike t) in
        let b : numbered_below_by es (k + nodes (wire codec s t)) (n + length (gathered buffers_at_node (wire codec s t))) (wires codec s ts)
        ≡ numbered_below_by es (k + nodes (wire codec r t)) (n + length (gathered buffers_at_node (wire codec r t))) (wires codec r ts) =
        below_alike es _ _ ts ∙ (λ i. numbered_below_by es (j i) (m i) (wires codec r ts))
        in
        λ i. more (a i) (b i)

  -- So their messages are equal, where their nodes have these numbers.
  pub message_alike : (es : List ℕ) (t : Tree) (bytes : List ℕ) → message_by es (wire codec s t) bytes ≡ message_by es (wire codec r t) bytes
  message_alike es t bytes = ap (λ z. field (table (node_value z)) (field (elements bytes) no_fields)) (numbered_alike es 0 0 t)
