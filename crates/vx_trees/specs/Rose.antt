-- Trees with a label at each node.
use Rattle.std.specs.Prelude.{ℕ, suc, List, [], ◌∷◌}

mutual
  -- A tree is a label and the trees below it.
  pub data Rose (L : Type 0) : Type 0 where
    node : L → Roses L → Rose L

  -- The trees below a node stand in an order: there are none, or one and more.
  pub data Roses (L : Type 0) : Type 0 where
    end : Roses L
    more : Rose L → Roses L → Roses L

module _ {L : Type 0} where
  -- The label at a tree's root.
  abbrev pub label : Rose L → L
  label (node l ts) = l

  -- The trees right below the root.
  abbrev pub below : Rose L → Roses L
  below (node l ts) = ts

  -- A list of trees, as what stands below a node.
  abbrev pub roses_of : List (Rose L) → Roses L
  roses_of [] = end
  roses_of (t ∷ ts) = more t (roses_of ts)

  -- What stands below a node, as a list of trees.
  abbrev pub roses_list : Roses L → List (Rose L)
  roses_list end = []
  roses_list (more t ts) = t ∷ roses_list ts

  -- How many trees stand right below a node.
  abbrev pub count : Roses L → ℕ
  count end = 0
  count (more t ts) = suc (count ts)
