-- The list of a tree's nodes gives back the tree: the law that the code of a tree needs.
use Rattle.std.specs.Prelude.{ℕ, ◌≡◌, List, [], refl}
use Rattle.std.proofs.Common.{◌∙◌, ap}
use Rattle.vx_trees.specs.Rose.{Rose, Roses, node, end, more, count}
use Rattle.vx_trees.specs.Preorder.{flat, flats, first, after, unflat, first_of}

module _ {L : Type 0} where
  abbrev join : Roses L → Roses L → Roses L
  join end us = us
  join (more t ts) us = more t (join ts us)

  first-join : (ts us : Roses L) → first (count ts) (join ts us) ≡ ts
  first-join end us = refl
  first-join (more t ts) us = ap (λ r. more t r) (first-join ts us)

  after-join : (ts us : Roses L) → after (count ts) (join ts us) ≡ us
  after-join end us = refl
  after-join (more t ts) us = after-join ts us

  mutual
    unflat-flat : (t : Rose L) (rest : List (L × ℕ)) → unflat (flat t rest) ≡ more t (unflat rest)
    unflat-flat (node l ts) rest =
        ap (λ us. more (node l (first (count ts) us)) (after (count ts) us)) (unflat-flats ts rest)
        ∙ ap (λ p. more (node l p) (after (count ts) (join ts (unflat rest)))) (first-join ts (unflat rest))
        ∙ ap (λ q. more (node l ts) q) (after-join ts (unflat rest))

    unflat-flats : (ts : Roses L) (rest : List (L × ℕ)) → unflat (flats ts rest) ≡ join ts (unflat rest)
    unflat-flats end rest = refl
    unflat-flats (more t ts) rest = unflat-flat t (flats ts rest) ∙ ap (λ r. more t r) (unflat-flats ts rest)

  -- One tree alone.
  pub first_of-unflat : (d : L) (t : Rose L) → first_of d (unflat (flat t [])) ≡ t
  first_of-unflat d t = ap (first_of d) (unflat-flat t [])

  join-end : (ts : Roses L) → join ts end ≡ ts
  join-end end = refl
  join-end (more t ts) = ap (λ r. more t r) (join-end ts)

  -- Trees that stand one after the other.
  pub unflat-flats_end : (ts : Roses L) → unflat (flats ts []) ≡ ts
  unflat-flats_end ts = unflat-flats ts [] ∙ join-end ts
