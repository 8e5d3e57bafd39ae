-- Columns that are drawn fit their rows.
use Rattle.std.proofs.Common.{ℕ, zero, suc, ◌≡◌, ◌+◌, ◌*◌, ◌%◌, ◌^◌, ◌<◌, ◌≤◌, List, [], ◌∷◌, ◌++◌, length, take, drop, get_or, refl, sym, ap, ◌∙◌, ⊎_elim, arith}
use Rattle.std.proofs.Math.Seq.{drop-append_seam}
use Rattle.std.proofs.lemmas.Bool.{cases_lt}
use Rattle.std.proofs.lemmas.List.{drop-append-le, get_or-drop, length-append, length-drop, take-append-le}
use Rattle.std.proofs.lemmas.Nat.{from_le_bytes-to_le_bytes_4}
use Rattle.std.specs.Int.{w32, from_le_bytes, to_le_bytes}
use Rattle.vx_generator.specs.Columns.{before, columns, count_of, element_bytes}
use Rattle.vx_generator.specs.Draws.{after, drawn}
use Rattle.vx_generator.proofs.Grown.{few, validity_len}
use Rattle.vx_generator.proofs.Sound.{Fit, offset_at}

-- ---- each column has the length that its rows need

pub numbers_len : (seed rows n : ℕ) → length (columns seed rows n).numbers ≡ 8 * n
numbers_len seed rows zero = refl
numbers_len seed rows (suc n) = simp length-append (omega (arith, numbers_len seed rows n))

pub codes_len : (seed rows n : ℕ) → length (columns seed rows n).codes ≡ n
codes_len seed rows zero = refl
codes_len seed rows (suc n) = simp length-append (omega (arith, codes_len seed rows n))

pub element_len : (x n : ℕ) → length (element_bytes x n) ≡ 2 * n
element_len x zero = refl
element_len x (suc n) = simp length-append (omega (arith, element_len x n))

pub elements_len : (seed rows n : ℕ) → length (columns seed rows n).elements ≡ 2 * (columns seed rows n).count
elements_len seed rows zero = refl
elements_len seed rows (suc n) =
    simp length-append (omega (arith, elements_len seed rows n, element_len (after (before seed n) 3) (count_of (before seed n))))

offsets_len : (seed rows n : ℕ) → length (columns seed rows n).offsets ≡ 4 * suc n
offsets_len seed rows zero = refl
offsets_len seed rows (suc n) = simp length-append (omega (arith, offsets_len seed rows n))

-- ---- each code is that of one of the five texts

named_more : (xs : List ℕ) (v : ℕ) → v < 5 → ((i : ℕ) → get_or xs i 0 < 5) → (i : ℕ) → get_or (xs ++ v ∷ []) i 0 < 5
named_more [] v h f zero = h
named_more [] v h f (suc i) = omega arith
named_more (x ∷ xs) v h f zero = f 0
named_more (x ∷ xs) v h f (suc i) = named_more xs v h (λ j. f (suc j)) i

named : (seed rows n i : ℕ) → get_or (columns seed rows n).codes i 0 < 5
named seed rows zero i = omega arith
named seed rows (suc n) i = named_more (columns seed rows n).codes (drawn (before seed n) 1 % 5) (omega arith) (named seed rows n) i

-- ---- offsets

-- An offset stays where more bytes are appended.
offset_kept : (bytes more : List ℕ) (i : ℕ) → 4 * i + 4 ≤ length bytes → offset_at (bytes ++ more) i ≡ offset_at bytes i
offset_kept bytes more i h =
    let e : drop (4 * i) (bytes ++ more) ≡ drop (4 * i) bytes ++ more = drop-append-le (4 * i) bytes more (omega arith) in
    let t : take 4 (drop (4 * i) bytes ++ more) ≡ take 4 (drop (4 * i) bytes) = take-append-le 4 (drop (4 * i) bytes) more (simp length-drop (omega arith)) in
    ap (λ xs. from_le_bytes w32 xs) (ap (λ xs. take 4 xs) e ∙ t)

-- The offset after others is the one that is written.
offset_new : (bytes : List ℕ) (i n : ℕ) → length bytes ≡ 4 * i → n < 2 ^ 32 → offset_at (bytes ++ to_le_bytes w32 n) i ≡ n
offset_new bytes i n h l =
    let e : drop (4 * i) (bytes ++ to_le_bytes w32 n) ≡ to_le_bytes w32 n = ap (λ k. drop k (bytes ++ to_le_bytes w32 n)) (sym h) ∙ drop-append_seam bytes (to_le_bytes w32 n) in
    ap (λ xs. from_le_bytes w32 (take 4 xs)) e ∙ from_le_bytes-to_le_bytes_4 n l

-- The offset at an index is the number of elements in the rows before it.
pub offset_is : (seed rows n i : ℕ) → n ≤ 1000000 → i ≤ n → offset_at (columns seed rows n).offsets i ≡ (columns seed rows i).count
offset_is seed rows zero zero m h = refl
offset_is seed rows zero (suc i) m h = absurd (omega arith)
offset_is seed rows (suc n) i m h =
    ⊎_elim
    (λ l. offset_kept (columns seed rows n).offsets _ i (omega (arith, offsets_len seed rows n)) ∙ offset_is seed rows n i (omega arith) (omega arith))
    (λ l.
    let e : suc n ≡ i = omega arith in
    ap (λ k. offset_at (columns seed rows (suc n)).offsets k) (sym e)
    ∙ offset_new (columns seed rows n).offsets (suc n) (columns seed rows (suc n)).count (offsets_len seed rows n) (omega (arith, few seed rows (suc n)))
    ∙ ap (λ k. (columns seed rows k).count) e)
    (cases_lt i (suc n))

-- The columns of n rows fit n rows.
pub fit : (seed rows : ℕ) → rows ≤ 1000000 → Fit (columns seed rows rows) rows
fit seed rows h = record {
  few = omega arith;
  numbers = numbers_len seed rows rows;
  validity = omega (arith, validity_len seed rows rows);
  codes = codes_len seed rows rows;
  named = λ i. rw (get_or-drop (1 * i) (columns seed rows rows).codes 0 0) (named seed rows rows (1 * i + 0));
  elements = elements_len seed rows rows;
  offsets = offsets_len seed rows rows;
  rising = λ i l. rw (offset_is seed rows rows i h (omega arith), offset_is seed rows rows (suc i) h l) (omega arith);
  within = rw (offset_is seed rows rows rows h (omega arith)) (omega arith);
}

-- Their lengths are small enough to be counted.
pub small : (seed rows : ℕ) → rows ≤ 1000000
    → length (columns seed rows rows).numbers + length (columns seed rows rows).validity + length (columns seed rows rows).codes + length (columns seed rows rows).elements + length (columns seed rows rows).offsets < 2 ^ 32
small seed rows h =
    omega (
      arith,
      numbers_len seed rows rows,
      validity_len seed rows rows,
      codes_len seed rows rows,
      elements_len seed rows rows,
      offsets_len seed rows rows,
      few seed rows rows,
    )
