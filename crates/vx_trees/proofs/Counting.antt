-- The nodes and levels of the trees below a node.
use Rattle.std.specs.Prelude.{ℕ, zero, suc, ◌+◌, ◌≤◌, ◌≡◌, ◌<◌, max, List, [], ◌∷◌, length, take}
use Rattle.std.proofs.Common.{sym, arith, get_or, add-one}
use denote.Param.Weighed.{most}
use Rattle.vx_trees.specs.Rose.{Rose, node, below, roses_of}
use Rattle.vx_trees.specs.Walks.{nodes, nodes_of, levels, levels_below}

module _ {L : Type 0} where
  pub nodes-is : (t : Rose L) → nodes t ≡ nodes_of (below t) + 1
  nodes-is (node l ts) = sym (add-one (nodes_of ts))

  pub most_le-nodes : (ts : List (Rose L)) → most (λ t. nodes t + 1) ts ≤ nodes_of (roses_of ts) + 1
  most_le-nodes [] = omega arith
  most_le-nodes (t ∷ ts) = omega (arith, most_le-nodes ts)

  pub nodes-at : (ts : List (Rose L)) (i : ℕ) (d : Rose L) → i < length ts → nodes (get_or ts i d) ≤ nodes_of (roses_of ts)
  nodes-at [] i d h = absurd (omega (arith, h))
  nodes-at (t ∷ ts) zero d h = omega arith
  nodes-at (t ∷ ts) (suc i) d h = let g : i < length ts = omega (arith, h) in omega (arith, nodes-at ts i d g)

  pub levels-is : (t : Rose L) → levels t ≡ levels_below (below t) + 1
  levels-is (node l ts) = sym (add-one (levels_below ts))

  pub levels-positive : (t : Rose L) → 1 ≤ levels t
  levels-positive (node l ts) = omega arith

  pub levels-at : (ts : List (Rose L)) (i : ℕ) (d : Rose L) → i < length ts → levels (get_or ts i d) ≤ levels_below (roses_of ts)
  levels-at [] i d h = absurd (omega (arith, h))
  levels-at (t ∷ ts) zero d h = omega arith
  levels-at (t ∷ ts) (suc i) d h = let g : i < length ts = omega (arith, h) in omega (arith, levels-at ts i d g)

  levels-step : (ts : List (Rose L)) (i : ℕ) (d : Rose L) → i < length ts → levels_below (roses_of (take (suc i) ts)) ≤ max (levels_below (roses_of (take i ts))) (levels (get_or ts i d))
  levels-step [] i d h = absurd (omega (arith, h))
  levels-step (t ∷ ts) zero d h = omega arith
  levels-step (t ∷ ts) (suc i) d h = let g : i < length ts = omega (arith, h) in omega (arith, levels-step ts i d g)

  -- One tree more that has at most n levels.
  pub levels-more : (ts : List (Rose L)) (i n : ℕ) (d : Rose L) → i < length ts → levels_below (roses_of (take i ts)) ≤ n → levels (get_or ts i d) ≤ n → levels_below (roses_of (take (i + 1) ts)) ≤ n
  levels-more ts i n d h p q = rw (add-one i) (omega (arith, levels-step ts i d h))

-- For loops that count levels.
pub ruleset level_facts = (levels-is, levels-positive, levels-at, levels-more)
