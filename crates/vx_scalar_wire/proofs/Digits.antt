-- A decimal's bytes are of one integer.
use Rattle.std.specs.Int.{w8, w16, w32, w64, w128, Width, byte_at, byte_worth, sum_through, bytes_low_first, cast_unsigned, cast_signed, to_le_bytes}
use Rattle.std.specs.Prelude.{FitsSigned}
use mir.Val.{bits}
use Rattle.std.proofs.Common.{◌≡◌, ◌∙◌, ◌<◌, ◌^◌, ◌+◌, ◌*◌, ◌/◌, ◌%◌, ℕ, zero, suc, ℤ, pos, negsuc, List, [], ◌∷◌, length, get_or, take, slice_index, refl, sym, ap, arith}
use Rattle.std.proofs.Math.Arith.{mod-mul}
use Rattle.std.proofs.Math.Nat.{div-div-eq-div-mul, mod-eq_of_lt}
use Rattle.std.proofs.lemmas.Int.{ints, of_z-to_z, to_z-of_z}
use Rattle.vx_trees.proofs.LawsOfLists.{heads, tails}
use Rattle.vx_types.specs.Value as V
use Rattle.vx_types.specs.Value.{DecimalValue}
use Rattle.vx_trees.specs.Bytes.{AreBytes}
use Rattle.vx_types.specs.Well.{IsDecimalInRange}
use Rattle.vx_scalar_wire.specs.ScalarMessage.{decimal_bytes}

-- ---- digits

byte_is : (i n : ℕ) → byte_at i n ≡ n / 256 ^ i % 256
byte_is zero n = omega arith
byte_is (suc i) n = refl

power : (i : ℕ) → 256 ^ suc i ≡ 256 ^ i * 256
power i = grind arith

some_power : (i : ℕ) → 0 < 256 ^ i
some_power zero = omega arith
some_power (suc i) = omega (arith, power i, some_power i)

no_digit : (x y : ℕ) → x % 1 ≡ y % 1
no_digit x y = omega arith

split : (k x : ℕ) → x % 256 ^ suc k ≡ x / 256 % 256 ^ k * 256 + x % 256
split k x = ap (λ p. x % p) (power k) ∙ mod-mul x {m = 256 ^ k} {c = 256} (some_power k) (omega arith)

next_digits : (i n : ℕ) → n / 256 ^ suc i ≡ n / 256 ^ i / 256
next_digits i n = ap (λ p. n / p) (power i) ∙ sym (div-div-eq-div-mul n (256 ^ i) 256)

digits : (k i n m : ℕ) → bytes_low_first i k n ≡ bytes_low_first i k m → n / 256 ^ i % 256 ^ k ≡ m / 256 ^ i % 256 ^ k
digits zero i n m e = no_digit (n / 256 ^ i) (m / 256 ^ i)
digits (suc k) i n m e =
    let low : n / 256 ^ i % 256 ≡ m / 256 ^ i % 256 = sym (byte_is i n) ∙ heads _ _ _ _ e ∙ byte_is i m in
    let high : n / 256 ^ suc i % 256 ^ k ≡ m / 256 ^ suc i % 256 ^ k = digits k (suc i) n m (tails _ _ _ _ e) in
    let next : n / 256 ^ i / 256 % 256 ^ k ≡ m / 256 ^ i / 256 % 256 ^ k =
    ap (λ q. q % 256 ^ k) (sym (next_digits i n)) ∙ high ∙ ap (λ q. q % 256 ^ k) (next_digits i m) in
    split k (n / 256 ^ i) ∙ (λ j. next j * 256 + low j) ∙ sym (split k (m / 256 ^ i))

whole : (k n : ℕ) → n < 256 ^ k → n / 256 ^ 0 % 256 ^ k ≡ n
whole k n h = let one : n / 256 ^ 0 ≡ n = omega arith in ap (λ q. q % 256 ^ k) one ∙ mod-eq_of_lt h

one_number : (k n m : ℕ) → n < 256 ^ k → m < 256 ^ k → bytes_low_first 0 k n ≡ bytes_low_first 0 k m → n ≡ m
one_number k n m h g e = sym (whole k n h) ∙ digits k 0 n m e ∙ whole k m g

-- ---- the number that has these digits

-- The number of the bytes, the lowest first.
abbrev number_of : List ℕ → ℕ
number_of [] = 0
number_of (b ∷ bs) = number_of bs * 256 + b

times : (b p : ℕ) → b * (p * 256) ≡ b * p * 256
times b p = grind arith

one_more : (bs : List ℕ) (j : ℕ) → number_of (take (suc j) bs) ≡ number_of (take j bs) + get_or bs j 0 * 256 ^ j
one_more [] zero = omega arith
one_more [] (suc j) = omega arith
one_more (b ∷ bs) zero = omega arith
one_more (b ∷ bs) (suc j) =
    let e : number_of (take (suc j) bs) ≡ number_of (take j bs) + get_or bs j 0 * 256 ^ j = one_more bs j in
    let p : get_or bs j 0 * 256 ^ suc j ≡ get_or bs j 0 * 256 ^ j * 256 = ap (λ q. get_or bs j 0 * q) (power j) ∙ times (get_or bs j 0) (256 ^ j) in
    omega (arith, e, p)

worth : (j b : ℕ) → byte_worth j b ≡ b * 256 ^ j
worth zero b = omega arith
worth (suc j) b = refl

summed : (bs : List ℕ) (k : ℕ) → sum_through (λ i. byte_worth i (slice_index bs i)) k ≡ number_of (take (suc k) bs)
summed bs zero = omega (arith, one_more bs 0)
summed bs (suc k) = omega (arith, summed bs k, worth (suc k) (slice_index bs (suc k)), one_more bs (suc k))

all_taken : (bs : List ℕ) (k : ℕ) → length bs ≡ k → take k bs ≡ bs
all_taken [] zero e = refl
all_taken [] (suc k) e = refl
all_taken (b ∷ bs) zero e = absurd (omega arith)
all_taken (b ∷ bs) (suc k) e = ap (λ t. b ∷ t) (all_taken bs k (omega arith))

spelled : (bs : List ℕ) (i k n : ℕ) → length bs ≡ k → AreBytes bs → n / 256 ^ i ≡ number_of bs → bytes_low_first i k n ≡ bs
spelled [] i zero n l h e = refl
spelled [] i (suc k) n l h e = absurd (omega arith)
spelled (b ∷ bs) i zero n l h e = absurd (omega arith)
spelled (b ∷ bs) i (suc k) n l h e =
    let first : byte_at i n ≡ b = byte_is i n ∙ omega (arith, e, h.0) in
    let next : n / 256 ^ suc i ≡ number_of bs = next_digits i n ∙ omega (arith, e, h.0) in
    ap (λ x. x ∷ bytes_low_first (suc i) k n) first ∙ ap (λ t. b ∷ t) (spelled bs (suc i) k n (omega arith) h.1 next)

-- What is read of bytes, the lowest first, is written as them.
pub spelled_again : (bs : List ℕ) (k n : ℕ) → length bs ≡ suc k → AreBytes bs → n ≡ sum_through (λ i. byte_worth i (slice_index bs i)) k → bytes_low_first 0 (suc k) n ≡ bs
spelled_again bs k n l h e =
    let one : n / 256 ^ 0 ≡ n = omega arith in
    spelled bs 0 (suc k) n l h (one ∙ e ∙ summed bs k ∙ ap number_of (all_taken bs (suc k) l))

below_power : (bs : List ℕ) → AreBytes bs → number_of bs < 256 ^ length bs
below_power [] h = omega arith
below_power (b ∷ bs) h = omega (arith, below_power bs h.1, h.0, power (length bs))

-- An integer with sign, too.
pub signed_again : (w : Width) (bs : List ℕ) (k : ℕ) → length bs ≡ suc k → 256 ^ suc k ≡ 2 ^ bits w → AreBytes bs
    → bytes_low_first 0 (suc k) (cast_unsigned w (cast_signed w (sum_through (λ i. byte_worth i (slice_index bs i)) k))) ≡ bs
signed_again w bs k l e h =
    let n : ℕ = sum_through (λ i. byte_worth i (slice_index bs i)) k in
    let is : n ≡ number_of bs = summed bs k ∙ ap number_of (all_taken bs (suc k) l) in
    let same : 256 ^ length bs ≡ 2 ^ bits w = ap (λ j. 256 ^ j) l ∙ e in
    let small : n < 2 ^ bits w = omega (arith, is, same, below_power bs h) in
    ap (λ m. bytes_low_first 0 (suc k) m) (of_z-to_z w n small) ∙ spelled_again bs k n l h refl

pub taken_whole : (bs : List ℕ) (k : ℕ) → length bs ≡ k → take k bs ≡ bs
taken_whole bs k e = all_taken bs k e

-- ---- integers

one_cast : (w : Width) (y z : ℤ) → FitsSigned w y → FitsSigned w z → cast_unsigned w y ≡ cast_unsigned w z → y ≡ z
one_cast w y z h g e = sym (to_z-of_z w y h) ∙ ap (cast_signed w) e ∙ to_z-of_z w z g

fits_16 : (z : ℤ) → FitsSigned w16 z → cast_unsigned w16 z < 256 ^ 2
fits_16 (pos n) h = grind (arith, ints)
fits_16 (negsuc n) h = grind (arith, ints)

fits_32 : (z : ℤ) → FitsSigned w32 z → cast_unsigned w32 z < 256 ^ 4
fits_32 (pos n) h = grind (arith, ints)
fits_32 (negsuc n) h = grind (arith, ints)

fits_64 : (z : ℤ) → FitsSigned w64 z → cast_unsigned w64 z < 256 ^ 8
fits_64 (pos n) h = grind (arith, ints)
fits_64 (negsuc n) h = grind (arith, ints)

fits_128 : (z : ℤ) → FitsSigned w128 z → cast_unsigned w128 z < 256 ^ 16
fits_128 (pos n) h = grind (arith, ints)
fits_128 (negsuc n) h = grind (arith, ints)

one_16 : (y z : ℤ) → FitsSigned w16 y → FitsSigned w16 z → to_le_bytes w16 (cast_unsigned w16 y) ≡ to_le_bytes w16 (cast_unsigned w16 z) → y ≡ z
one_16 y z h g e = one_cast w16 y z h g (one_number 2 (cast_unsigned w16 y) (cast_unsigned w16 z) (fits_16 y h) (fits_16 z g) e)

one_32 : (y z : ℤ) → FitsSigned w32 y → FitsSigned w32 z → to_le_bytes w32 (cast_unsigned w32 y) ≡ to_le_bytes w32 (cast_unsigned w32 z) → y ≡ z
one_32 y z h g e = one_cast w32 y z h g (one_number 4 (cast_unsigned w32 y) (cast_unsigned w32 z) (fits_32 y h) (fits_32 z g) e)

one_64 : (y z : ℤ) → FitsSigned w64 y → FitsSigned w64 z → to_le_bytes w64 (cast_unsigned w64 y) ≡ to_le_bytes w64 (cast_unsigned w64 z) → y ≡ z
one_64 y z h g e = one_cast w64 y z h g (one_number 8 (cast_unsigned w64 y) (cast_unsigned w64 z) (fits_64 y h) (fits_64 z g) e)

one_128 : (y z : ℤ) → FitsSigned w128 y → FitsSigned w128 z → to_le_bytes w128 (cast_unsigned w128 y) ≡ to_le_bytes w128 (cast_unsigned w128 z) → y ≡ z
one_128 y z h g e = one_cast w128 y z h g (one_number 16 (cast_unsigned w128 y) (cast_unsigned w128 z) (fits_128 y h) (fits_128 z g) e)

-- How many bytes a decimal has.
abbrev pub size : DecimalValue → ℕ
size (V.i8 z) = 1
size (V.i16 z) = 2
size (V.i32 z) = 4
size (V.i64 z) = 8
size (V.i128 z) = 16
size (V.i256 bytes) = 32

pub sized : (x : DecimalValue) → IsDecimalInRange x → length (decimal_bytes x) ≡ size x
sized (V.i8 z) h = refl
sized (V.i16 z) h = refl
sized (V.i32 z) h = refl
sized (V.i64 z) h = refl
sized (V.i128 z) h = refl
sized (V.i256 bytes) h = h.0

same_size : (x y : DecimalValue) → IsDecimalInRange x → IsDecimalInRange y → decimal_bytes x ≡ decimal_bytes y → size x ≡ size y
same_size x y h g e = sym (sized x h) ∙ ap length e ∙ sized y g

one_of_size : (x y : DecimalValue) → IsDecimalInRange x → IsDecimalInRange y → decimal_bytes x ≡ decimal_bytes y → size x ≡ size y → x ≡ y
one_of_size (V.i8 y) (V.i8 z) h g e s = ap V.i8 (one_cast w8 y z h g (heads _ _ _ _ e))
one_of_size (V.i16 y) (V.i16 z) h g e s = ap V.i16 (one_16 y z h g e)
one_of_size (V.i32 y) (V.i32 z) h g e s = ap V.i32 (one_32 y z h g e)
one_of_size (V.i64 y) (V.i64 z) h g e s = ap V.i64 (one_64 y z h g e)
one_of_size (V.i128 y) (V.i128 z) h g e s = ap V.i128 (one_128 y z h g e)
one_of_size (V.i256 y) (V.i256 z) h g e s = ap V.i256 e
one_of_size _ _ h g e s = absurd (omega (arith, s))

-- Bytes are those of one decimal.
pub one_decimal : (x y : DecimalValue) → IsDecimalInRange x → IsDecimalInRange y → decimal_bytes x ≡ decimal_bytes y → x ≡ y
one_decimal x y h g e = one_of_size x y h g e (same_size x y h g e)
