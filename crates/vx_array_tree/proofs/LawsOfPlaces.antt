-- Places: how many a plan gives, and whether that of a validity stands in front of them.
use Rattle.std.proofs.Common.{ℕ, zero, suc, ◌≡◌, List, [], ◌∷◌, Option, Some, None, option_map, refl, sym, ap, ◌∙◌, inl, inr, length}
use Rattle.std.proofs.lemmas.Option.{same_Some}
use Rattle.std.specs.Prelude.{◌⊎◌}
use Rattle.vx_trees.specs.Rose.{Roses, end, more, count}
use Rattle.vx_types.specs.Kind.{Kind}
use Rattle.vx_array_tree.specs.Place.{Place, exactly, after_validity, validity_place, places_at}
use Rattle.vx_array_tree.specs.Tree.{Trees, places, rows_below}
use Rattle.vx_array_tree.proofs.Options.{mapped}
use Rattle.vx_array_tree.proofs.Plans.{exactly_is}

-- ---- how many there are

-- There are as many places as types, as children, and as children with rows.
pub places_length : (ds : Roses Kind) (n : ℕ) → length (places_at ds n) ≡ count ds
places_length end n = refl
places_length (more d ds) n = ap (λ k. suc k) (places_length ds n)

pub places_count : (ts : Trees) → length (places ts) ≡ count ts
places_count end = refl
places_count (more t ts) = ap (λ k. suc k) (places_count ts)

pub rows_count : (ts : Trees) → length (rows_below ts) ≡ count ts
rows_count end = refl
rows_count (more t ts) = ap (λ k. suc k) (rows_count ts)

-- ---- exactly so many, or one more after a validity

pub after_some : (ps : List Place) (n k : ℕ) (qs : List Place) → exactly ps k ≡ Some qs → after_validity ps n k ≡ Some qs
after_some ps n k qs e = rw (e, after_validity) refl

pub after_none : (ps : List Place) (n k : ℕ) → exactly ps k ≡ None → after_validity ps n k ≡ exactly (validity_place n ∷ ps) k
after_none ps n k e = rw (e, after_validity) refl

pub exactly_count : (ps : List Place) (k : ℕ) (qs : List Place) → exactly ps k ≡ Some qs → k ≡ length ps
exactly_count [] zero qs e = refl
exactly_count [] (suc k) qs e = absurd (cc)
exactly_count (p ∷ ps) zero qs e = absurd (cc)
exactly_count (p ∷ ps) (suc k) qs e =
    let m = mapped (λ (rs : List Place). p ∷ rs) (exactly ps k) qs e in
    ap (λ n. suc n) (exactly_count ps k m.0 m.2)

pub exactly_self : (ps : List Place) → exactly ps (length ps) ≡ Some ps
exactly_self [] = refl
exactly_self (p ∷ ps) = ap (λ (o : Option (List Place)). option_map (λ qs. p ∷ qs) o) (exactly_self ps)

exactly_past : (ps : List Place) → exactly ps (suc (length ps)) ≡ None
exactly_past [] = refl
exactly_past (p ∷ ps) = ap (λ (o : Option (List Place)). option_map (λ qs. p ∷ qs) o) (exactly_past ps)

-- Another number of places is not exact.
pub exactly_none : (ps : List Place) (k : ℕ) → (k ≡ length ps → ⊥) → exactly ps k ≡ None
exactly_none [] zero h = absurd (h refl)
exactly_none [] (suc k) h = refl
exactly_none (p ∷ ps) zero h = refl
exactly_none (p ∷ ps) (suc k) h = ap (λ (o : Option (List Place)). option_map (λ qs. p ∷ qs) o) (exactly_none ps k (λ e. h (ap (λ n. suc n) e)))

-- As many as there are stand as they are, and one more after a validity; there is no other way.
pub after_self : (ps : List Place) (n k : ℕ) → k ≡ length ps → after_validity ps n k ≡ Some ps
after_self ps n k e = ap (λ j. after_validity ps n j) e ∙ after_some ps n (length ps) ps (exactly_self ps)

pub after_one : (ps : List Place) (n k : ℕ) → k ≡ suc (length ps) → after_validity ps n k ≡ Some (validity_place n ∷ ps)
after_one ps n k e = ap (λ j. after_validity ps n j) e ∙ after_none ps n (suc (length ps)) (exactly_past ps) ∙ exactly_self (validity_place n ∷ ps)

pub after_other : (ps : List Place) (n k : ℕ) → (k ≡ length ps → ⊥) → (k ≡ suc (length ps) → ⊥) → after_validity ps n k ≡ None
after_other ps n k h g = after_none ps n k (exactly_none ps k h) ∙ exactly_none (validity_place n ∷ ps) k g

-- Places that stand so are as many as are asked for, and of these at most one more than there are.
pub record IsAfter (ps : List Place) (n k : ℕ) (qs : List Place) : Type 0 where
  pub ways : ((k ≡ length ps) × (qs ≡ ps)) ⊎ ((k ≡ suc (length ps)) × (qs ≡ validity_place n ∷ ps))

after_by : (ps : List Place) (n k : ℕ) (qs : List Place) (o : Option (List Place)) → exactly ps k ≡ o → after_validity ps n k ≡ Some qs → IsAfter ps n k qs
after_by ps n k qs (Some rs) e h = record { ways = inl (exactly_count ps k rs e, sym (same_Some rs qs (sym (after_some ps n k rs e) ∙ h)) ∙ exactly_is ps k rs e) }
after_by ps n k qs None e h =
    let f = sym (after_none ps n k e) ∙ h in
    record { ways = inr (exactly_count (validity_place n ∷ ps) k qs f, exactly_is (validity_place n ∷ ps) k qs f) }

pub after_is : (ps : List Place) (n k : ℕ) (qs : List Place) → after_validity ps n k ≡ Some qs → IsAfter ps n k qs
after_is ps n k qs h = after_by ps n k qs (exactly ps k) refl h
