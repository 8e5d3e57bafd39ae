-- Numbers in one, four and eight bytes are lawful forms, and canonical.
use Rattle.std.proofs.Common.{ℕ, zero, suc, ◌≡◌, ◌≤◌, ◌<◌, ◌^◌, Bool, true, false, cond, List, [], ◌∷◌, ◌++◌, length, take, drop, get_or, refl, sym, ap, ◌∙◌, subst, arith, length-append}
use Rattle.std.specs.Prelude.{nat_lt}
use Rattle.std.specs.Int.{Width, w32, w64, from_le_bytes}
use Rattle.std.proofs.lemmas.Bool.{ltb-false, le-ltb}
use Rattle.std.proofs.lemmas.List.{take-append-drop, length-take-le, take_at, drop_at}
use Rattle.std.proofs.lemmas.Nat.{le_bytes_4, le_bytes_8, from_le_bytes-to_le_bytes_4, from_le_bytes-to_le_bytes_8}
use Rattle.vx_trees.specs.Bytes.{AreBytes}
use Rattle.vx_forms.specs.Form.{whole, short, wrong, answer_map, IsLawful, IsCanonical, BeginsWith}
use Rattle.vx_forms.specs.Numbers.{front_bytes, front_byte, ShowsNumber, uint8, uint32, uint64}
use Rattle.vx_forms.proofs.Readers.{IsReader, restated, viewed, ShowsView}
use Rattle.vx_forms.proofs.LawsOfForms.{lawful_of}

-- ---- n bytes

-- n bytes show themselves.
pub record ShowsFront (n : ℕ) (xs bytes : List ℕ) : Type 0 where
  pub is : bytes ≡ xs
  pub len : length xs ≡ n

-- What a test of the length lets through.
if_long : {A : Type 0} (b : Bool) (x y : A) (rest after : List ℕ) → cond b short (whole x rest) ≡ whole y after
    → (b ≡ false) × (x ≡ y) × (rest ≡ after)
if_long true x y rest after e = absurd cc
if_long false x y rest after e = (refl, cc, cc)

never_wrong : {A : Type 0} (b : Bool) (x : A) (rest : List ℕ) → cond b short (whole x rest) ≡ wrong → ⊥
never_wrong true x rest e = cc
never_wrong false x rest e = cc

front_back : (n : ℕ) (xs bytes rest : List ℕ) → ShowsFront n xs bytes → front_bytes n (bytes ++ rest) ≡ whole xs rest
front_back n xs bytes rest s =
    ap (λ (z : List ℕ). front_bytes n (z ++ rest)) s.is
    ∙ rw (
      le-ltb (length (xs ++ rest)) n (omega (arith, length-append xs rest, s.len)),
      take_at xs rest n s.len,
      drop_at
          xs rest n s.len,
    ) refl

front_only : (n : ℕ) (bytes xs rest : List ℕ) → front_bytes n bytes ≡ whole xs rest
    → BeginsWith (ShowsFront n xs) bytes rest
front_only n bytes xs rest e =
    let u = if_long (nat_lt (length bytes) n) (take n bytes) xs (drop n bytes) rest e in
    let long : n ≤ length bytes = ltb-false (length bytes) n u.0 in
    record {
      front = xs;
      parts = sym (take-append-drop n bytes) ∙ ap (λ (z : List ℕ). z ++ drop n bytes) u.1
          ∙ ap (λ (z : List ℕ). xs ++ z) u.2;
      shown = record { is = refl; len = ap length (sym u.1) ∙ length-take-le n bytes long };
    }

pub front_reader : (n : ℕ) → IsReader (ShowsFront n) (front_bytes n)
front_reader n = record {
  back = λ xs bytes rest s. front_back n xs bytes rest s;
  only = λ bytes xs rest e. front_only n bytes xs rest e;
  refused = λ bytes more e. absurd (never_wrong (nat_lt (length bytes) n) (take n bytes) (drop n bytes) e);
}

-- ---- one byte

byte_back : (n : ℕ) (bytes rest : List ℕ) → bytes ≡ n ∷ [] → front_byte (bytes ++ rest) ≡ whole n rest
byte_back n bytes rest s = ap (λ (z : List ℕ). front_byte (z ++ rest)) s

byte_only : (bytes : List ℕ) (n : ℕ) (rest : List ℕ) → front_byte bytes ≡ whole n rest
    → BeginsWith (λ front. front ≡ n ∷ []) bytes rest
byte_only [] n rest e = absurd cc
byte_only (b ∷ bs) n rest e =
    let value : b ≡ n = cc in
    let after : bs ≡ rest = cc in
    record { front = n ∷ []; parts = ap (λ (z : ℕ). z ∷ bs) value ∙ ap (λ (z : List ℕ). n ∷ z) after; shown = refl }

byte_refused : (bytes more : List ℕ) → front_byte bytes ≡ wrong → front_byte (bytes ++ more) ≡ wrong
byte_refused [] more e = absurd cc
byte_refused (b ∷ bs) more e = absurd cc

pub uint8_lawful : IsLawful uint8
uint8_lawful = record { back = byte_back; only = byte_only; refused = byte_refused; written = λ n h. refl }

-- ---- four and eight bytes

as_view : (w : Width) (size n : ℕ) (bytes : List ℕ) → ShowsNumber w size n bytes
    → ShowsView (ShowsFront size) (from_le_bytes w) n bytes
as_view w size n bytes s = record { value = bytes; is = s.value; shown = record { is = refl; len = s.len } }

as_number : (w : Width) (size n : ℕ) (bytes : List ℕ) → ShowsView (ShowsFront size) (from_le_bytes w) n bytes
    → ShowsNumber w size n bytes
as_number w size n bytes s =
    record { len = ap length s.shown.is ∙ s.shown.len; value = ap (from_le_bytes w) s.shown.is ∙ s.is }

number_reader : (w : Width) (size : ℕ) → IsReader (ShowsNumber w size)
    (λ bytes. answer_map (from_le_bytes w) (front_bytes size bytes))
number_reader w size =
    restated (ShowsView (ShowsFront size) (from_le_bytes w)) (ShowsNumber w size)
    (λ bytes. answer_map (from_le_bytes w) (front_bytes size bytes))
    (viewed (ShowsFront size) (front_bytes size) (from_le_bytes w) (front_reader size)) (as_view w size)
    (as_number w size)

pub uint32_lawful : IsLawful uint32
uint32_lawful = lawful_of uint32 (number_reader w32 4)
    (λ n h. record { len = refl; value = from_le_bytes-to_le_bytes_4 n h })

pub uint64_lawful : IsLawful uint64
uint64_lawful = lawful_of uint64 (number_reader w64 8)
    (λ n h. record { len = refl; value = from_le_bytes-to_le_bytes_8 n h })

-- ---- one encoding

at_index : (bytes : List ℕ) → AreBytes bytes → (i : ℕ) → get_or bytes i 0 < 256
at_index [] h i = omega arith
at_index (b ∷ bs) h zero = h.0
at_index (b ∷ bs) h (suc i) = at_index bs h.1 i

below_32 : (bytes : List ℕ) → AreBytes bytes → from_le_bytes w32 bytes < 2 ^ 32
below_32 bytes h = let f = at_index bytes h in omega (arith, f 0, f 1, f 2, f 3)

below_64 : (bytes : List ℕ) → AreBytes bytes → from_le_bytes w64 bytes < 2 ^ 64
below_64 bytes h = let f = at_index bytes h in omega (arith, f 0, f 1, f 2, f 3, f 4, f 5, f 6, f 7)

pub uint8_canonical : IsCanonical uint8
uint8_canonical = record {
  fits = λ n bytes h s. let are : AreBytes (n ∷ []) = subst AreBytes s h in are.0;
  same = λ n bytes h s. s;
}

pub uint32_canonical : IsCanonical uint32
uint32_canonical = record {
  fits = λ n bytes h s. subst (λ z. z < 2 ^ 32) s.value (below_32 bytes h);
  same = λ n bytes h s. sym (le_bytes_4 bytes n s.len (at_index bytes h) (sym s.value));
}

pub uint64_canonical : IsCanonical uint64
uint64_canonical = record {
  fits = λ n bytes h s. subst (λ z. z < 2 ^ 64) s.value (below_64 bytes h);
  same = λ n bytes h s. sym (le_bytes_8 bytes n s.len (at_index bytes h) (sym s.value));
}
