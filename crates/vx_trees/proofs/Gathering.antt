-- A walk in preorder, step by step.
use Rattle.std.specs.Prelude.{ℕ, zero, suc, ◌+◌, ◌≤◌, ◌≡◌, ◌<◌, List, [], ◌∷◌, ◌++◌, length, take, refl}
use Rattle.std.proofs.Common.{sym, ◌∙◌, ap, arith, get_or, add-one}
use Rattle.std.proofs.lemmas.List.{append_assoc, append-nil, take_all}
use Rattle.vx_trees.specs.Rose.{Rose, node, label, below, roses_of}
use Rattle.vx_trees.specs.Walks.{gathered, gathered_below}

module _ {L : Type 0} where
  pub gathered-is : {A : Type 0} (f : L → List A) (t : Rose L) → gathered f t ≡ f (label t) ++ gathered_below f (below t)
  gathered-is f (node l ts) = refl

  gathered_below-take_suc : {A : Type 0} (f : L → List A) (ts : List (Rose L)) (i : ℕ) (d : Rose L) → i < length ts
      → gathered_below f (roses_of (take (suc i) ts)) ≡ gathered_below f (roses_of (take i ts)) ++ gathered f (get_or ts i d)
  gathered_below-take_suc f [] i d h = absurd (omega (arith, h))
  gathered_below-take_suc f (t ∷ ts) zero d h = append-nil (gathered f t)
  gathered_below-take_suc f (t ∷ ts) (suc i) d h =
      let g : i < length ts = omega (arith, h) in
      ap (λ r. gathered f t ++ r) (gathered_below-take_suc f ts i d g) ∙ sym (append_assoc (gathered f t) (gathered_below f (roses_of (take i ts))) (gathered f (get_or ts i d)))

  pub gathered_below-take : {A : Type 0} (f : L → List A) (ts : List (Rose L)) (i : ℕ) (d : Rose L) → i < length ts
      → gathered_below f (roses_of (take (i + 1) ts)) ≡ gathered_below f (roses_of (take i ts)) ++ gathered f (get_or ts i d)
  gathered_below-take f ts i d h = rw (add-one i) (gathered_below-take_suc f ts i d h)

  -- A walk that has passed i of the trees passes one more.
  pub gathered-step : {A : Type 0} (f : L → List A) (start now next : List A) (ts : List (Rose L)) (i : ℕ) (d : Rose L) → i < length ts
      → now ≡ start ++ gathered_below f (roses_of (take i ts)) → next ≡ now ++ gathered f (get_or ts i d) → next ≡ start ++ gathered_below f (roses_of (take (i + 1) ts))
  gathered-step f start now next ts i d h p q =
      q ∙ ap (λ r. r ++ gathered f (get_or ts i d)) p ∙ append_assoc start (gathered_below f (roses_of (take i ts))) (gathered f (get_or ts i d))
      ∙ ap (λ r. start ++ r) (sym (gathered_below-take f ts i d h))

  -- A walk that has passed all trees below a node has gathered the whole node.
  pub gathered-end : {A : Type 0} (f : L → List A) (before start now : List A) (t : Rose L) (ts : List (Rose L)) (i : ℕ) → length ts ≤ i → roses_of ts ≡ below t
      → start ≡ before ++ f (label t) → now ≡ start ++ gathered_below f (roses_of (take i ts)) → now ≡ before ++ gathered f t
  gathered-end f before start now t ts i h e p q =
      q ∙ ap (λ r. start ++ gathered_below f (roses_of r)) (take_all i ts h) ∙ ap (λ r. start ++ gathered_below f r) e
      ∙ ap (λ r. r ++ gathered_below f (below t)) p ∙ append_assoc before (f (label t)) (gathered_below f (below t))
      ∙ ap (λ r. before ++ r) (sym (gathered-is f t))
