-- The test of stored forms decides equality.
use Rattle.std.specs.Prelude.{◌≡◌, Bool, true, false, ◌&&◌, Decides, refl}
use Rattle.std.specs.Coded.{Coded}
use Rattle.std.specs.Cmp.{unsigned_Decides, decided, IsEquivalence, IsPartialEquivalence, partial_equiv_from_equiv}
use Rattle.std.proofs.Common.{ap, sym, ◌∙◌, true≢false}
use base.Stored.{Gv, gnil, gnum, gcons}
use Rattle.vx_trees.specs.Same.{stored_same, same}

both : (a b : Bool) → a && b ≡ true → (a ≡ true) × (b ≡ true)
both true b e = (refl, e)
both false b e = absurd (true≢false (sym e))

stored_same-is : (x y : Gv) → stored_same x y ≡ true → x ≡ y
stored_same-is gnil gnil e = refl
stored_same-is gnil (gnum n) e = absurd (true≢false (sym e))
stored_same-is gnil (gcons a b) e = absurd (true≢false (sym e))
stored_same-is (gnum m) gnil e = absurd (true≢false (sym e))
stored_same-is (gnum m) (gnum n) e = ap gnum ((unsigned_Decides m n).0 e)
stored_same-is (gnum m) (gcons a b) e = absurd (true≢false (sym e))
stored_same-is (gcons a b) gnil e = absurd (true≢false (sym e))
stored_same-is (gcons a b) (gnum n) e = absurd (true≢false (sym e))
stored_same-is (gcons a b) (gcons c d) e = λ i. gcons (stored_same-is a c (both _ _ e).0 i) (stored_same-is b d (both _ _ e).1 i)

stored_same-itself : (x : Gv) → stored_same x x ≡ true
stored_same-itself gnil = refl
stored_same-itself (gnum n) = (unsigned_Decides n n).1 refl
stored_same-itself (gcons a b) = rw (stored_same-itself a) (stored_same-itself b)

module _ {A : Type 0} (c : Coded A) where
  pub same-decides : (x y : A) → Decides (same c x y) (x ≡ y)
  unfolding same
  same-decides x y = (λ e. c.inj x y (stored_same-is (c.code x) (c.code y) e), λ e. ap (λ z. stored_same (c.code x) (c.code z)) (sym e) ∙ stored_same-itself (c.code x))

  pub same-equivalence : IsEquivalence (same c)
  same-equivalence = decided (same c) same-decides

  pub same-partial_equivalence : IsPartialEquivalence (same c)
  same-partial_equivalence = partial_equiv_from_equiv same-equivalence

  pub same-is : (x y : A) → same c x y ≡ true → x ≡ y
  same-is x y e = (same-decides x y).0 e

  pub is-same : (x y : A) → x ≡ y → same c x y ≡ true
  is-same x y e = (same-decides x y).1 e

-- From the test to equality, and back.
pub ruleset sameness = (same-is, is-same)
