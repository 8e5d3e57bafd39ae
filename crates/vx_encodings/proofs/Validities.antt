-- Children of which a validity is the only one, or stands after another.
use Rattle.std.proofs.Common.{ℕ, zero, suc, ◌≡◌, ◌≤◌, List, [], ◌∷◌, Some, refl, sym, ap, ◌∙◌, arith}
use Rattle.vx_trees.specs.Rose.{end, more, count, label}
use Rattle.vx_trees.proofs.LawsOfLists.{heads, tails}
use Rattle.vx_array_tree.specs.Place.{Place, place, before_validity}
use Rattle.vx_array_tree.specs.Tree.{Tree, Trees, places}
use Rattle.vx_array_tree.proofs.Options.{mapped}

-- Where a validity or nothing is planned, there is at most one child, and a plan has a place for each.
pub validity_few : (n k : ℕ) (us : Trees) → before_validity [] n k ≡ Some (places us) → (count us ≤ 1) × (k ≡ count us)
validity_few n zero end e = (omega arith, refl)
validity_few n zero (more u us) e = absurd (cc)
validity_few n (suc zero) end e = absurd (cc)
validity_few n (suc zero) (more u end) e = (omega arith, refl)
validity_few n (suc zero) (more u (more v us)) e = absurd (cc)
validity_few n (suc (suc k)) us e = absurd (cc)

-- Where a validity may stand after one child, there are at most two.
pub after_few : (p : Place) (n k : ℕ) (us : Trees) → before_validity (p ∷ []) n k ≡ Some (places us) → (1 ≤ count us) × (count us ≤ 2) × (k ≡ count us)
after_few p n zero us e = absurd (cc)
after_few p n (suc k) end e = let m = mapped (λ (qs : List Place). p ∷ qs) (before_validity [] n k) [] e in absurd (no_places p m.0 m.1)
  where
    no_places : (p : Place) (ps : List Place) → [] ≡ p ∷ ps → ⊥
    no_places p ps e = absurd (cc)
after_few p n (suc k) (more u us) e =
    let m = mapped (λ (qs : List Place). p ∷ qs) (before_validity [] n k) (places (more u us)) e in
    let few = validity_few n k us (m.2 ∙ ap (λ (z : List Place). Some z) (sym (tails _ _ _ _ (m.1)))) in
    (omega arith, omega (arith, few.0), ap (λ j. suc j) few.1)

-- The child in front of it is at its place.
pub after_place : (p : Place) (n k : ℕ) (o : Tree) (vs : Trees) → before_validity (p ∷ []) n k ≡ Some (places (more o vs)) → place (label o).dtype (label o).len ≡ p
after_place p n zero o vs e = absurd (cc)
after_place p n (suc k) o vs e = let m = mapped (λ (qs : List Place). p ∷ qs) (before_validity [] n k) (places (more o vs)) e in heads _ _ _ _ (m.1)
