-- A wire tree as a message's nodes: identifiers and buffers by number.
use Rattle.std.specs.Prelude.{ℕ, zero, suc, ◌+◌, List, [], ◌∷◌, Option, Some, None, length}
use Rattle.vx_trees.specs.Rose.{Rose, Roses, node, end, more}
use Rattle.vx_trees.specs.Walks.{gathered}
use Rattle.vx_wire_tree.specs.Context.{index_of}
use Rattle.vx_serialized.specs.Message.{NodeFields}
use Rattle.vx_wire_tree.specs.Wire.{Wire, Wires, present, buffers_at_node}

-- The place of a node's identifier; 0 where it is missing.
abbrev pub encoding_index : Option (List ℕ) → List (List ℕ) → ℕ
encoding_index None ids = 0
encoding_index (Some id) ids = index_of id ids

-- The k numbers from n on.
abbrev pub numbers_from : ℕ → ℕ → List ℕ
numbers_from n zero = []
numbers_from n (suc k) = n ∷ numbers_from (suc n) k

abbrev mutual
  -- A tree with its identifiers' places in ids, and its buffers numbered in
  -- preorder from n on: a node's own before those of its children.
  pub numbered : List (List ℕ) → ℕ → Wire → Rose NodeFields
  numbered ids n (node h ws) =
      node (record { encoding = encoding_index h.id ids; metadata = h.metadata; buffers = numbers_from n (length (present h.buffers)); stats = h.stats })
      (numbered_below ids (n + length (present h.buffers)) ws)

  -- The trees below a node, each numbered on from where the one before it ends.
  pub numbered_below : List (List ℕ) → ℕ → Wires → Roses NodeFields
  numbered_below ids n end = end
  numbered_below ids n (more w ws) = more (numbered ids n w) (numbered_below ids (n + length (gathered buffers_at_node w)) ws)
