-- What stands at a row's place in each column.
use Rattle.std.proofs.Common.{ℕ, zero, suc, ◌≡◌, ◌+◌, ◌*◌, ◌%◌, ◌<◌, ◌≤◌, List, ◌++◌, length, take, drop, get_or, refl, sym, ap, ◌∙◌, subst, ⊎_elim, arith}
use Rattle.std.proofs.Math.Seq.{drop-append_seam, drop-append-add}
use Rattle.std.proofs.Math.ListN.{get_or-append}
use Rattle.std.proofs.lemmas.Bool.{cases_lt}
use Rattle.std.proofs.lemmas.List.{drop-append-le, get_or_push, length-drop, take-append-le, take_all}
use Rattle.std.specs.Int.{w16, to_le_bytes}
use Rattle.vx_generator.specs.Columns.{before, columns, count_of, element_bytes, stored_bytes}
use Rattle.vx_generator.specs.Draws.{after, drawn}
use Rattle.vx_generator.proofs.Fitting.{codes_len, element_len, elements_len, numbers_len}

-- The bytes of n bytes each, at an index.
abbrev pub piece : ℕ → List ℕ → ℕ → List ℕ
piece w bytes i = take w (drop (w * i) bytes)

kept : (w : ℕ) (bytes more : List ℕ) (i : ℕ) → w * i + w ≤ length bytes → piece w (bytes ++ more) i ≡ piece w bytes i
kept w bytes more i h =
    ap (λ xs. take w xs) (drop-append-le (w * i) bytes more (omega arith)) ∙ take-append-le w (drop (w * i) bytes) more (simp length-drop (omega arith))

new : (w : ℕ) (bytes more : List ℕ) (i : ℕ) → length bytes ≡ w * i → length more ≡ w → piece w (bytes ++ more) i ≡ more
new w bytes more i h l =
    ap (λ k. take w (drop k (bytes ++ more))) (sym h) ∙ ap (λ xs. take w xs) (drop-append_seam bytes more) ∙ take_all w more (omega arith)

pub numbers_are : (seed rows n i : ℕ) → i < n → piece 8 (columns seed rows n).numbers i ≡ stored_bytes (drawn (before seed i) 0)
numbers_are seed rows zero i h = absurd (omega arith)
numbers_are seed rows (suc n) i h =
    ⊎_elim
    (λ l. kept 8 (columns seed rows n).numbers _ i (omega (arith, numbers_len seed rows n)) ∙ numbers_are seed rows n i l)
    (λ l.
    let e : n ≡ i = omega arith in
    subst (λ k. piece 8 (columns seed rows (suc n)).numbers k ≡ stored_bytes (drawn (before seed k) 0)) e
    (new 8 (columns seed rows n).numbers (stored_bytes (drawn (before seed n) 0)) n (numbers_len seed rows n) refl))
    (cases_lt i n)

pub codes_are : (seed rows n i : ℕ) → i < n → get_or (columns seed rows n).codes i 0 ≡ drawn (before seed i) 1 % 5
codes_are seed rows zero i h = absurd (omega arith)
codes_are seed rows (suc n) i h =
    ⊎_elim
    (λ l. get_or-append (columns seed rows n).codes _ 0 i (omega (arith, codes_len seed rows n)) ∙ codes_are seed rows n i l)
    (λ l.
    let e : n ≡ i = omega arith in
    subst (λ k. get_or (columns seed rows (suc n)).codes k 0 ≡ drawn (before seed k) 1 % 5) e
    (get_or_push (columns seed rows n).codes (drawn (before seed n) 1 % 5) 0 n (codes_len seed rows n)))
    (cases_lt i n)

-- ---- elements

element_is : (x n j : ℕ) → j < n → piece 2 (element_bytes x n) j ≡ to_le_bytes w16 (drawn x j % 65536)
element_is x zero j h = absurd (omega arith)
element_is x (suc n) j h =
    ⊎_elim
    (λ l. kept 2 (element_bytes x n) _ j (omega (arith, element_len x n)) ∙ element_is x n j l)
    (λ l.
    let e : n ≡ j = omega arith in
    subst (λ k. piece 2 (element_bytes x (suc n)) k ≡ to_le_bytes w16 (drawn x k % 65536)) e
    (new 2 (element_bytes x n) (to_le_bytes w16 (drawn x n % 65536)) n (element_len x n) refl))
    (cases_lt j n)

-- The elements of a row lie before those of a later one.
grown : (seed rows n i : ℕ) → i < n → (columns seed rows i).count + count_of (before seed i) ≤ (columns seed rows n).count
grown seed rows zero i h = absurd (omega arith)
grown seed rows (suc n) i h =
    ⊎_elim
    (λ l. omega (arith, grown seed rows n i l))
    (λ l. let e : n ≡ i = omega arith in subst (λ k. (columns seed rows k).count + count_of (before seed k) ≤ (columns seed rows (suc n)).count) e (omega arith))
    (cases_lt i n)

further : (bytes more : List ℕ) (c j : ℕ) → length bytes ≡ 2 * c → piece 2 (bytes ++ more) (c + j) ≡ piece 2 more j
further bytes more c j h =
    let e : 2 * (c + j) ≡ length bytes + 2 * j = omega arith in
    ap (λ k. take 2 (drop k (bytes ++ more))) e ∙ ap (λ xs. take 2 xs) (drop-append-add bytes more (2 * j))

pub elements_are : (seed rows n i j : ℕ) → i < n → j < count_of (before seed i)
    → piece 2 (columns seed rows n).elements ((columns seed rows i).count + j) ≡ to_le_bytes w16 (drawn (after (before seed i) 3) j % 65536)
elements_are seed rows zero i j h m = absurd (omega arith)
elements_are seed rows (suc n) i j h m =
    ⊎_elim
    (λ l.
    kept 2 (columns seed rows n).elements _ ((columns seed rows i).count + j) (omega (arith, elements_len seed rows n, grown seed rows n i l))
    ∙ elements_are seed rows n i j l m)
    (λ l.
    let e : n ≡ i = omega arith in
    subst
    (λ k. j < count_of (before seed k) → piece 2 (columns seed rows (suc n)).elements ((columns seed rows k).count + j) ≡ to_le_bytes w16 (drawn (after (before seed k) 3) j % 65536))
    e
    (λ b.
    further (columns seed rows n).elements (element_bytes (after (before seed n) 3) (count_of (before seed n))) (columns seed rows n).count j (elements_len seed rows n)
    ∙ element_is (after (before seed n) 3) (count_of (before seed n)) j b)
    m)
    (cases_lt i n)
