-- Offsets as plain numbers in a buffer, without a validity.
use Rattle.std.proofs.Common.{ℕ, zero, suc, min, ◌≡◌, ◌-◌, ◌^◌, ◌≤◌, ◌<◌, ◌⊎◌, inl, inr, List, Bool, Some, None, refl, sym, ap, ◌∙◌, arith}
use Rattle.std.proofs.lemmas.Bool.{false≢true, le-ltb}
use Rattle.std.proofs.lemmas.Int.{to_z_pos}
use Rattle.std.specs.Prelude.{◌↔◌, IsTrue, is_some, unwrap_or, pos, negsuc}
use Rattle.std.specs.Int.{Width, w8, w16, w32, w64, cast_signed}
use mir.Val.{bits, hbits, sel}
use Rattle.vx_types.specs.Value.{natural, natural_int, natural_number}
use Rattle.vx_numbers.specs.declared.ptype.PType.{PType}
use Rattle.vx_numbers.specs.declared.ptype.PType.TheVariants.{U8, U16, U32, U64, I8, I16, I32, I64}
use Rattle.vx_array_tree.specs.Bytes.{primitive_at}
use Rattle.vx_array_tree.specs.Encodings.VarBins.{AreOffsets}
use Rattle.vx_array_tree.specs.Rows.{Rows, index_at, IsIndex, IsThere}
use Rattle.vx_arrays.specs.Offsets.{plain_rows}
use Rattle.vx_arrays.proofs.Rising.{AreRisen, risen_none, risen_more, risen_all, last_within, none_decreases, offset_within}

-- ---- while they are read

-- A natural number is the one of its row.
module _ (p : PType) (n : ℕ) (bytes : List ℕ) (i offset : ℕ) (e : natural_number (primitive_at p bytes i) ≡ Some offset) where
  plain_index : offset ≡ index_at (plain_rows p n bytes) i
  plain_index = sym (ap (λ o. unwrap_or o 0) e)

  plain_is_index : IsIndex (plain_rows p n bytes) i
  plain_is_index = ap is_some e

  -- One more has risen, where it is not below the last.
  pub plain_risen : (j last : ℕ) → AreRisen (plain_rows p n bytes) i last → last ≤ offset → j ≡ suc i → AreRisen (plain_rows p n bytes) j offset
  plain_risen j last a le s = risen_more (plain_rows p n bytes) i j last offset a plain_index (λ _. plain_is_index) le s

  -- Where one falls, they are no offsets.
  pub plain_decreases : (parts total last : ℕ) → AreRisen (plain_rows p n bytes) i last → i < suc parts → offset < last → AreOffsets (plain_rows p n bytes) parts total → ⊥
  plain_decreases parts total last a h lt o = none_decreases (plain_rows p n bytes) parts total i last offset a plain_index h lt o

pub ruleset plain = (risen_none, risen_all, last_within, plain_risen)

-- ---- numbers with a sign, read without it

-- Rows of the same bits: below a half both are the same natural numbers, and from there on those with a sign are none.
record IsSigned (r s : Rows) (half : ℕ) : Type 0 where
  pub there : (i : ℕ) → IsThere s.valid i
  pub naturals : (i : ℕ) → IsIndex r i
  pub small : (i : ℕ) → index_at r i < half → natural (s.row i) ≡ Some (index_at r i)
  pub large : (i : ℕ) → half ≤ index_at r i → natural (s.row i) ≡ None

low_or_high : (a b : ℕ) → (a < b) ⊎ (b ≤ a)
low_or_high zero zero = inr (omega arith)
low_or_high zero (suc b) = inl (omega arith)
low_or_high (suc a) zero = inr (omega arith)
low_or_high (suc a) (suc b) = elim (low_or_high a b) [ inl h ↦ inl (omega (arith, h)) | inr h ↦ inr (omega (arith, h)) ]

module _ (r s : Rows) (top : ℕ) (g : IsSigned r s (suc top)) where
  same_index : (i : ℕ) → index_at r i ≤ top → index_at s i ≡ index_at r i
  same_index i h = ap (λ o. unwrap_or o 0) (g.small i (omega (arith, h)))

  low_by : (i : ℕ) → IsIndex s i → (index_at r i < suc top) ⊎ (suc top ≤ index_at r i) → index_at r i ≤ top
  low_by i x (inl h) = omega (arith, h)
  low_by i x (inr h) = absurd (false≢true (sym (ap is_some (g.large i h)) ∙ x))

  low : (n total : ℕ) → AreOffsets s n total → (i : ℕ) → i ≤ n → index_at r i ≤ top
  low n total o i h = low_by i (o.naturals i h (g.there i)) (low_or_high (index_at r i) (suc top))

  with_sign : (n total least : ℕ) → least ≡ min total top → AreOffsets r n least → AreOffsets s n total
  with_sign n total least e o =
      let under : (i : ℕ) → i ≤ n → index_at r i ≤ top = λ i h. omega (arith, offset_within r n least i o h, e) in
      record {
        naturals = λ i h t. ap is_some (g.small i (omega (arith, under i h)));
        rising = λ i h. omega (arith, same_index i (under i (omega (arith, h))), same_index (suc i) (under (suc i) h), o.rising i h);
        within = omega (arith, same_index n (under n (omega arith)), o.within, e);
      }

  without_sign : (n total least : ℕ) → least ≡ min total top → AreOffsets s n total → AreOffsets r n least
  without_sign n total least e o = record {
    naturals = λ i h t. g.naturals i;
    rising = λ i h. omega (arith, same_index i (low n total o i (omega (arith, h))), same_index (suc i) (low n total o (suc i) h), o.rising i h);
    within = omega (arith, same_index n (low n total o n (omega arith)), low n total o n (omega arith), o.within, e);
  }

  -- So they are offsets up to a total where those without a sign are, up to the total or the greatest number.
  signed_decide : (n total least : ℕ) (result : Bool) → least ≡ min total top → (IsTrue result ↔ AreOffsets r n least) → (IsTrue result ↔ AreOffsets s n total)
  signed_decide n total least result e f = (λ t. with_sign n total least e (f.0 t), λ o. f.1 (without_sign n total least e o))

-- ---- the bits of a number

natural_small : (w : Width) (n : ℕ) → n < 2 ^ hbits w → natural_int (cast_signed w n) ≡ Some n
natural_small w n h = ap natural_int (to_z_pos w n h)

natural_large : (w : Width) (n : ℕ) → 2 ^ hbits w ≤ n → natural_int (cast_signed w n) ≡ None
natural_large w n h = ap (λ b. natural_int (sel b (pos n) (negsuc (2 ^ bits w - suc n)))) (le-ltb n (2 ^ hbits w) h)

module _ (p : PType) (n : ℕ) (bytes : List ℕ) (parts total least : ℕ) (result : Bool) where
  pub decide_8 : p ≡ I8 → least ≡ min total 127 → (IsTrue result ↔ AreOffsets (plain_rows U8 n bytes) parts least) → (IsTrue result ↔ AreOffsets (plain_rows p n bytes) parts total)
  decide_8 q e f =
      let signed : IsSigned (plain_rows U8 n bytes) (plain_rows I8 n bytes) 128 = record { there = λ i. refl; naturals = λ i. refl; small = λ i h. natural_small w8 _ h; large = λ i h. natural_large w8 _ h } in
      rw q (signed_decide (plain_rows U8 n bytes) (plain_rows I8 n bytes) 127 signed parts total least result e f)

  pub decide_16 : p ≡ I16 → least ≡ min total 32767 → (IsTrue result ↔ AreOffsets (plain_rows U16 n bytes) parts least) → (IsTrue result ↔ AreOffsets (plain_rows p n bytes) parts total)
  decide_16 q e f =
      let signed : IsSigned (plain_rows U16 n bytes) (plain_rows I16 n bytes) 32768 = record { there = λ i. refl; naturals = λ i. refl; small = λ i h. natural_small w16 _ h; large = λ i h. natural_large w16 _ h } in
      rw q (signed_decide (plain_rows U16 n bytes) (plain_rows I16 n bytes) 32767 signed parts total least result e f)

  pub decide_32 : p ≡ I32 → least ≡ min total 2147483647 → (IsTrue result ↔ AreOffsets (plain_rows U32 n bytes) parts least) → (IsTrue result ↔ AreOffsets (plain_rows p n bytes) parts total)
  decide_32 q e f =
      let signed : IsSigned (plain_rows U32 n bytes) (plain_rows I32 n bytes) 2147483648 = record { there = λ i. refl; naturals = λ i. refl; small = λ i h. natural_small w32 _ h; large = λ i h. natural_large w32 _ h } in
      rw q (signed_decide (plain_rows U32 n bytes) (plain_rows I32 n bytes) 2147483647 signed parts total least result e f)

  pub decide_64 : p ≡ I64 → least ≡ min total 9223372036854775807 → (IsTrue result ↔ AreOffsets (plain_rows U64 n bytes) parts least) → (IsTrue result ↔ AreOffsets (plain_rows p n bytes) parts total)
  decide_64 q e f =
      let signed : IsSigned (plain_rows U64 n bytes) (plain_rows I64 n bytes) 9223372036854775808 = record { there = λ i. refl; naturals = λ i. refl; small = λ i h. natural_small w64 _ h; large = λ i h. natural_large w64 _ h } in
      rw q (signed_decide (plain_rows U64 n bytes) (plain_rows I64 n bytes) 9223372036854775807 signed parts total least result e f)
