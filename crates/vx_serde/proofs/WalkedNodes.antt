-- What is gathered at a node, before, at and after one of the trees below it.
use Rattle.std.specs.Prelude.{ℕ, suc, ◌≡◌, ◌<◌, ◌≤◌, List, [], ◌∷◌, ◌++◌, length, take, drop, refl}
use Rattle.std.proofs.Common.{sym, ◌∙◌, ap, get_or, append_assoc, drop-cons}
use Rattle.std.proofs.lemmas.List.{take-append-drop, take_all}
use Rattle.vx_trees.specs.Rose.{Rose, label, below, roses_of}
use Rattle.vx_trees.specs.Walks.{gathered, gathered_below}
use Rattle.vx_trees.proofs.Gathering.{gathered-is}

module _ {L A : Type 0} (f : L → List A) where
  pub gathered_below-append : (ts us : List (Rose L)) → gathered_below f (roses_of (ts ++ us)) ≡ gathered_below f (roses_of ts) ++ gathered_below f (roses_of us)
  gathered_below-append [] us = refl
  gathered_below-append (t ∷ ts) us = ap (λ r. gathered f t ++ r) (gathered_below-append ts us) ∙ sym (append_assoc (gathered f t) (gathered_below f (roses_of ts)) (gathered_below f (roses_of us)))

  -- What comes before a tree below a node, and what comes from there on, are the whole.
  pub gathered-front : (t : Rose L) (ts : List (Rose L)) (i : ℕ) → roses_of ts ≡ below t
      → gathered f t ≡ (f (label t) ++ gathered_below f (roses_of (take i ts))) ++ gathered_below f (roses_of (drop i ts))
  gathered-front t ts i e =
      gathered-is f t ∙ ap (λ r. f (label t) ++ gathered_below f r) (sym e) ∙ ap (λ r. f (label t) ++ gathered_below f (roses_of r)) (sym (take-append-drop i ts))
      ∙ ap (λ r. f (label t) ++ r) (gathered_below-append (take i ts) (drop i ts))
      ∙ sym (append_assoc (f (label t)) (gathered_below f (roses_of (take i ts))) (gathered_below f (roses_of (drop i ts))))

  -- The same at a tree that stands there.
  pub gathered-child : (t : Rose L) (ts : List (Rose L)) (i : ℕ) (d : Rose L) → roses_of ts ≡ below t → i < length ts
      → gathered f t ≡ ((f (label t) ++ gathered_below f (roses_of (take i ts))) ++ gathered f (get_or ts i d)) ++ gathered_below f (roses_of (drop (suc i) ts))
  gathered-child t ts i d e h =
      gathered-front t ts i e ∙ ap (λ r. (f (label t) ++ gathered_below f (roses_of (take i ts))) ++ gathered_below f (roses_of r)) (drop-cons ts i d h)
      ∙ sym (append_assoc (f (label t) ++ gathered_below f (roses_of (take i ts))) (gathered f (get_or ts i d)) (gathered_below f (roses_of (drop (suc i) ts))))

  -- After all trees below a node nothing is left.
  pub gathered-whole : (t : Rose L) (ts : List (Rose L)) (i : ℕ) → roses_of ts ≡ below t → length ts ≤ i
      → gathered f t ≡ f (label t) ++ gathered_below f (roses_of (take i ts))
  gathered-whole t ts i e h =
      gathered-is f t ∙ ap (λ r. f (label t) ++ gathered_below f r) (sym e) ∙ ap (λ r. f (label t) ++ gathered_below f (roses_of r)) (sym (take_all i ts h))
