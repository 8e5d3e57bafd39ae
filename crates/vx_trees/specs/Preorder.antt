-- A tree as the list of its nodes in preorder, and back.
use Rattle.std.specs.Prelude.{ℕ, zero, suc, List, [], ◌∷◌}
use Rattle.vx_trees.specs.Rose.{Rose, Roses, node, end, more, count}

module _ {L : Type 0} where
  abbrev mutual
    -- Each label with the number of trees right below it, in preorder, before
    -- what comes after the tree.
    pub flat : Rose L → List (L × ℕ) → List (L × ℕ)
    flat (node l ts) rest = (l, count ts) ∷ flats ts rest

    -- The same for trees that stand one after the other.
    pub flats : Roses L → List (L × ℕ) → List (L × ℕ)
    flats end rest = rest
    flats (more t ts) rest = flat t (flats ts rest)

  -- The first n of the trees.
  abbrev pub first : ℕ → Roses L → Roses L
  first zero ts = end
  first (suc n) end = end
  first (suc n) (more t ts) = more t (first n ts)

  -- The trees after the first n.
  abbrev pub after : ℕ → Roses L → Roses L
  after zero ts = ts
  after (suc n) end = end
  after (suc n) (more t ts) = after n ts

  -- The trees of a list of nodes: a node takes as many of the trees that come
  -- after it as its number says.
  abbrev pub unflat : List (L × ℕ) → Roses L
  unflat [] = end
  unflat (x ∷ xs) = more (node x.0 (first x.1 (unflat xs))) (after x.1 (unflat xs))

  -- The first of the trees, or a lone node with the given label.
  abbrev pub first_of : L → Roses L → Rose L
  first_of d end = node d end
  first_of d (more t ts) = t
