-- Offsets that never decrease, read from the first to the last.
use Rattle.std.proofs.Common.{ℕ, zero, suc, ◌≡◌, ◌+◌, ◌-◌, ◌≤◌, ◌<◌, ◌⊎◌, inl, inr, List, take, drop, refl, sym, ap, ◌∙◌, add-zero, add-suc, add-one, arith}
use Rattle.std.proofs.Math.Nat.{eq-or-lt_of_le}
use Rattle.vx_array_tree.specs.Encodings.VarBins.{AreOffsets, bytes_at}
use Rattle.vx_array_tree.specs.Rows.{Rows, index_at, IsIndex, IsThere}

-- ---- while they are read

-- The rows up to one are natural numbers, where they are there, none is below the one before, and the last of them is
-- known.
pub record AreRisen (r : Rows) (i last : ℕ) : Type 0 where
  pub naturals : (k : ℕ) → k < i → IsThere r.valid k → IsIndex r k
  pub rising : (k : ℕ) → suc k < i → index_at r k ≤ index_at r (suc k)
  pub last_is : (k : ℕ) → suc k ≡ i → last ≡ index_at r k
  pub first : i ≡ 0 → last ≡ 0

pub risen_none : (r : Rows) → AreRisen r 0 0
risen_none r = record {
  naturals = λ k h. absurd (omega (arith, h));
  rising = λ k h. absurd (omega (arith, h));
  last_is = λ k h. absurd (omega (arith, h));
  first = λ h. refl;
}

same_suc : (j k : ℕ) → suc j ≡ suc k → j ≡ k
same_suc j k e = omega (arith, e)

module _ (r : Rows) (i last offset : ℕ) (a : AreRisen r i last) (e : offset ≡ index_at r i) where
  at_most : last ≤ offset → (k : ℕ) → suc k ≡ i → index_at r k ≤ index_at r (suc k)
  at_most le k h = omega (arith, a.last_is k h, e, le, ap (λ j. index_at r j) h)

  natural_at : (IsThere r.valid i → IsIndex r i) → (k : ℕ) → (k ≡ i) ⊎ (k < i) → IsThere r.valid k → IsIndex r k
  natural_at natural k (inl q) = rw q natural
  natural_at natural k (inr lt) = a.naturals k lt

  rises_at : last ≤ offset → (k : ℕ) → (suc k ≡ i) ⊎ (suc k < i) → index_at r k ≤ index_at r (suc k)
  rises_at le k (inl q) = at_most le k q
  rises_at le k (inr lt) = a.rising k lt

pub risen_more : (r : Rows) (i j last offset : ℕ) → AreRisen r i last → offset ≡ index_at r i → (IsThere r.valid i → IsIndex r i) → last ≤ offset → j ≡ suc i → AreRisen r j offset
risen_more r i j last offset a e natural le s = record {
  naturals = λ k h. natural_at r i last offset a e natural k (eq-or-lt_of_le (omega (arith, h, s)));
  rising = λ k h. rises_at r i last offset a e le k (eq-or-lt_of_le (omega (arith, h, s)));
  last_is = λ k h. e ∙ ap (λ j. index_at r j) (sym (same_suc k i (h ∙ s)));
  first = λ h. absurd (omega (arith, h, s));
}

-- Where all are read, they are offsets up to the last.
pub risen_all : (r : Rows) (n m total last : ℕ) → AreRisen r m last → m ≡ suc n → last ≤ total → AreOffsets r n total
risen_all r n m total last a s le = record {
  naturals = λ k h. a.naturals k (omega (arith, h, s));
  rising = λ k h. a.rising k (omega (arith, h, s));
  within = omega (arith, a.last_is n (sym s), le);
}

pub last_within : (r : Rows) (n m total last : ℕ) → AreRisen r m last → m ≡ suc n → AreOffsets r n total → last ≤ total
last_within r n m total last a s o = omega (arith, a.last_is n (sym s), o.within)

-- Rows of which one falls are no offsets.
pub none_decreases : (r : Rows) (n total i last offset : ℕ) → AreRisen r i last → offset ≡ index_at r i → i < suc n → offset < last → AreOffsets r n total → ⊥
none_decreases r n total zero last offset a e h lt o = omega (arith, a.first refl, lt)
none_decreases r n total (suc k) last offset a e h lt o = omega (arith, a.last_is k refl, e, lt, o.rising k (omega (arith, h)))

-- Nor are rows of which one is there and no natural number.
pub none_unnatural : (r : Rows) (n total i : ℕ) → ((IsThere r.valid i → IsIndex r i) → ⊥) → i < suc n → AreOffsets r n total → ⊥
none_unnatural r n total i never h o = never (o.naturals i (omega (arith, h)))

pub ruleset rising = (risen_none, risen_more, risen_all, last_within, none_decreases, none_unnatural)

-- ---- once they are read

later : (r : Rows) (n : ℕ) → ((i : ℕ) → i < n → index_at r i ≤ index_at r (suc i)) → (i d : ℕ) → i + d ≤ n → index_at r i ≤ index_at r (i + d)
later r n up i zero h = rw (add-zero i) (omega arith)
later r n up i (suc d) h = omega (arith, later r n up i d (omega (arith, h)), up (i + d) (omega (arith, h)), ap (λ k. index_at r k) (add-suc i d))

-- An offset is at most the total.
pub offset_within : (r : Rows) (n total i : ℕ) → AreOffsets r n total → i ≤ n → index_at r i ≤ total
offset_within r n total i a h =
    let up = later r n a.rising i (n - i) (omega (arith, h)) in
    let e : i + (n - i) ≡ n = omega (arith, h) in
    omega (arith, up, ap (λ k. index_at r k) e, a.within)

-- Of a row that is one of the offsets it is not said that it is none.
pub is_natural : (r : Rows) (n total i : ℕ) → AreOffsets r n total → i ≤ n → ((IsThere r.valid i → IsIndex r i) → ⊥) → ⊥
is_natural r n total i a h never = never (a.naturals i h)

-- A part begins where it ends, or before.
pub part_in_order : (r : Rows) (n total i start end : ℕ) → AreOffsets r n total → i < n → start ≡ index_at r i → end ≡ index_at r (i + 1) → start ≤ end
part_in_order r n total i start end a h s e = omega (arith, a.rising i h, s, e, ap (λ k. index_at r k) (add-one i))

-- It ends within the whole.
pub part_within : (r : Rows) (n total i end : ℕ) → AreOffsets r n total → i < n → end ≡ index_at r (i + 1) → end ≤ total
part_within r n total i end a h e = omega (arith, offset_within r n total (i + 1) a (omega (arith, h)), e)

-- It is the bytes of the row.
pub part_is : (bytes : List ℕ) (r : Rows) (i start end : ℕ) → start ≡ index_at r i → end ≡ index_at r (i + 1) → take (end - start) (drop start bytes) ≡ bytes_at bytes r i
part_is bytes r i start end s e = rw (s, e ∙ ap (λ k. index_at r k) (add-one i)) refl

pub ruleset parts = (is_natural, part_in_order, part_within, part_is)
