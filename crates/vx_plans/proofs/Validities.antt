-- A validity after any number of children.
use Rattle.std.proofs.Common.{ℕ, zero, suc, ◌≡◌, ◌≤◌, ◌<◌, ◌-◌, ◌++◌, List, [], ◌∷◌, Option, Some, None, length, option_map, refl, sym, ap, ◌∙◌, arith}
use Rattle.vx_array_tree.specs.Place.{Place, before_validity, validity_place}

mapped_some : (p : Place) (o : Option (List Place)) (qs : List Place) → o ≡ Some qs → option_map (λ (rs : List Place). p ∷ rs) o ≡ Some (p ∷ qs)
mapped_some p o qs e = ap (λ (z : Option (List Place)). option_map (λ (rs : List Place). p ∷ rs) z) e

mapped_none : (p : Place) (o : Option (List Place)) → o ≡ None → option_map (λ (rs : List Place). p ∷ rs) o ≡ None
mapped_none p o e = ap (λ (z : Option (List Place)). option_map (λ (rs : List Place). p ∷ rs) z) e

-- Where there are as many children as places, no validity stands after them.
pub as_many : (ps : List Place) (n k : ℕ) → length ps ≤ k → k - length ps ≡ 0 → before_validity ps n k ≡ Some ps
as_many [] n zero h e = refl
as_many [] n (suc k) h e = absurd (omega (arith, e))
as_many (p ∷ ps) n zero h e = absurd (omega (arith, h))
as_many (p ∷ ps) n (suc k) h e = mapped_some p (before_validity ps n k) ps (as_many ps n k (omega (arith, h)) (omega (arith, h, e)))

-- Where there is one child more, it is the validity.
pub one_more : (ps qs : List Place) (n k : ℕ) → length ps ≤ k → k - length ps ≡ 1 → qs ≡ ps ++ validity_place n ∷ [] → before_validity ps n k ≡ Some qs
one_more [] qs n zero h e q = absurd (omega (arith, e))
one_more [] qs n (suc zero) h e q = ap (λ (z : List Place). Some z) (sym q)
one_more [] qs n (suc (suc k)) h e q = absurd (omega (arith, e))
one_more (p ∷ ps) qs n zero h e q = absurd (omega (arith, h))
one_more (p ∷ ps) qs n (suc k) h e q =
    mapped_some p (before_validity ps n k) (ps ++ validity_place n ∷ []) (one_more ps (ps ++ validity_place n ∷ []) n k (omega (arith, h)) (omega (arith, h, e)) refl) ∙ ap (λ (z : List Place). Some z) (sym q)

-- Else nothing is planned.
pub too_few : (ps : List Place) (n k : ℕ) → k < length ps → before_validity ps n k ≡ None
too_few [] n k h = absurd (omega (arith, h))
too_few (p ∷ ps) n zero h = refl
too_few (p ∷ ps) n (suc k) h = mapped_none p (before_validity ps n k) (too_few ps n k (omega (arith, h)))

pub too_many : (ps : List Place) (n k : ℕ) → length ps ≤ k → 2 ≤ k - length ps → before_validity ps n k ≡ None
too_many [] n zero h m = absurd (omega (arith, m))
too_many [] n (suc zero) h m = absurd (omega (arith, m))
too_many [] n (suc (suc k)) h m = refl
too_many (p ∷ ps) n zero h m = absurd (omega (arith, h))
too_many (p ∷ ps) n (suc k) h m = mapped_none p (before_validity ps n k) (too_many ps n k (omega (arith, h)) (omega (arith, h, m)))

pub ruleset after_all = (as_many, one_more, too_few, too_many)
