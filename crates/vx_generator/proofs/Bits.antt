-- Which bits are set in the bits of rows.
use Rattle.std.proofs.Common.{ℕ, zero, suc, ◌≡◌, ◌+◌, ◌/◌, ◌%◌, ◌^◌, ◌<◌, ◌≤◌, Bool, true, false, cond, List, length, get_or, max, bit_or, replicate, refl, sym, ap, ◌∙◌, subst, ⊎_elim, arith}
use Rattle.std.proofs.Math.Nat.{max-zero, max-eq_right}
use Rattle.std.proofs.lemmas.Bool.{cases_eq, cases_lt}
use Rattle.std.proofs.lemmas.Grind.{get_or-set_at}
use Rattle.std.proofs.lemmas.List.{get_or-set_other}
use Rattle.std.proofs.lemmas.Nat.Bits.{bit_at-lt, bit_at-pow_other, bit_at-pow_same, bit_at-zero, bit_at_or}
use Rattle.std.specs.Int.{bit_at}
use Rattle.vx_generator.specs.Columns.{before, columns, is_null, with_bit}
use Rattle.vx_generator.specs.Draws.{drawn}
use Rattle.vx_generator.proofs.Grown.{validity_len}

-- The bit of a row, the lowest of a byte first.
abbrev pub bit_of : List ℕ → ℕ → ℕ
bit_of bits i = bit_at (get_or bits (i / 8) 0) (i % 8)

set_byte : (bits : List ℕ) (k i : ℕ) → k / 8 < length bits → i / 8 ≡ k / 8 → bit_of (with_bit bits k) i ≡ max (bit_of bits i) (bit_at (2 ^ (k % 8)) (i % 8))
set_byte bits k i l e =
    ap (λ b. bit_at b (i % 8)) (get_or-set_at bits (k / 8) (i / 8) (bit_or (get_or bits (k / 8) 0) (2 ^ (k % 8))) 0 e l)
    ∙ bit_at_or (get_or bits (k / 8) 0) (2 ^ (k % 8)) (i % 8)
    ∙ ap (λ j. max (bit_at (get_or bits j 0) (i % 8)) (bit_at (2 ^ (k % 8)) (i % 8))) (sym e)

set_same : (bits : List ℕ) (k : ℕ) → k / 8 < length bits → bit_of (with_bit bits k) k ≡ 1
set_same bits k l =
    set_byte bits k k l refl ∙ ap (λ b. max (bit_of bits k) b) (bit_at-pow_same (k % 8)) ∙ max-eq_right (omega (arith, bit_at-lt (get_or bits (k / 8) 0) (k % 8)))

set_other : (bits : List ℕ) (k i : ℕ) → k / 8 < length bits → (i ≡ k → ⊥) → bit_of (with_bit bits k) i ≡ bit_of bits i
set_other bits k i l ne =
    ⊎_elim
    (λ e. set_byte bits k i l e ∙ ap (λ b. max (bit_of bits i) b) (bit_at-pow_other (k % 8) (i % 8) (λ q. ne (omega arith))) ∙ max-zero (bit_of bits i))
    (λ d. ap (λ b. bit_at b (i % 8)) (get_or-set_other bits (k / 8) (i / 8) (bit_or (get_or bits (k / 8) 0) (2 ^ (k % 8))) 0 d))
    (cases_eq (i / 8) (k / 8))

row_other : (b : Bool) (bits : List ℕ) (k i : ℕ) → k / 8 < length bits → (i ≡ k → ⊥) → bit_of (cond b bits (with_bit bits k)) i ≡ bit_of bits i
row_other true bits k i l ne = refl
row_other false bits k i l ne = set_other bits k i l ne

row_same : (b : Bool) (bits : List ℕ) (k : ℕ) → k / 8 < length bits → bit_of bits k ≡ 0 → bit_of (cond b bits (with_bit bits k)) k ≡ cond b 0 1
row_same true bits k l z = z
row_same false bits k l z = set_same bits k l

zeros : (m j : ℕ) → get_or {A = ℕ} (replicate m 0) j 0 ≡ 0
zeros zero j = refl
zeros (suc m) zero = refl
zeros (suc m) (suc j) = zeros m j

in_bytes : (seed rows n : ℕ) → suc n ≤ rows → n / 8 < length (columns seed rows n).validity
in_bytes seed rows n h = omega (arith, validity_len seed rows n)

-- The bits of rows that are still to come are not set.
unset : (seed rows n i : ℕ) → n ≤ rows → n ≤ i → bit_of (columns seed rows n).validity i ≡ 0
unset seed rows zero i m h = ap (λ b. bit_at b (i % 8)) (zeros ((rows + 7) / 8) (i / 8)) ∙ bit_at-zero (i % 8)
unset seed rows (suc n) i m h =
    row_other (is_null (drawn (before seed n) 0)) (columns seed rows n).validity n i (in_bytes seed rows n m) (λ e. absurd (omega arith))
    ∙ unset seed rows n i (omega arith) (omega arith)

-- The bit of a row is set exactly where its number is there.
pub bits_are : (seed rows n i : ℕ) → n ≤ rows → i < n → bit_of (columns seed rows n).validity i ≡ cond (is_null (drawn (before seed i) 0)) 0 1
bits_are seed rows zero i m h = absurd (omega arith)
bits_are seed rows (suc n) i m h =
    ⊎_elim
    (λ l.
    row_other (is_null (drawn (before seed n) 0)) (columns seed rows n).validity n i (in_bytes seed rows n m) (λ e. absurd (omega arith))
    ∙ bits_are seed rows n i (omega arith) l)
    (λ l.
    let e : n ≡ i = omega arith in
    subst (λ k. bit_of (columns seed rows (suc n)).validity k ≡ cond (is_null (drawn (before seed k) 0)) 0 1) e
    (row_same (is_null (drawn (before seed n) 0)) (columns seed rows n).validity n (in_bytes seed rows n m) (unset seed rows n n (omega arith) (omega arith))))
    (cases_lt i n)
