-- The rows of the table are those of the draws.
use Rattle.std.proofs.Common.{ℕ, zero, suc, ◌≡◌, ◌+◌, ◌-◌, ◌*◌, ◌%◌, ◌^◌, ◌<◌, ◌≤◌, Bool, true, false, cond, eqb, Some, get_or, drop, refl, ap, ◌∙◌, arith, zero-add}
use Rattle.std.proofs.Math.Facts.{Fits-of_z}
use Rattle.std.proofs.lemmas.Int.{ints, to_z-of_z}
use Rattle.std.proofs.lemmas.List.{get_or-drop}
use Rattle.std.proofs.lemmas.Nat.{from_le_bytes-to_le_bytes_2, from_le_bytes-to_le_bytes_8}
use Rattle.std.specs.Int.{w16, w64, cast_signed, cast_unsigned, from_le_bytes}
use mir.Val.{SFits}
use Rattle.vx_trees.specs.Rose.{node, end, more}
use Rattle.vx_types.specs.Value.{Value, lone, null, number, tuple, utf8}
use Rattle.vx_numbers.specs.declared.value.PValue.TheVariants.{I64, U16}
use Rattle.vx_numbers.specs.declared.ptype.PType.TheVariants.{I64 as PI64}
use Rattle.vx_array_tree.specs.Bytes.{primitive_at}
use Rattle.vx_array_tree.specs.Encodings.Bools as Bools
use Rattle.vx_array_tree.specs.Rows.{Rows, values_from, where_valid}
use Rattle.vx_array_tree.specs.Tree.{row_at, rows_of}
use Rattle.vx_generator.specs.Columns.{before, columns, count_of, is_null, stored, stored_bytes}
use Rattle.vx_generator.specs.Draws.{after, drawn, next, number_of}
use Rattle.vx_generator.specs.Made.{elements_tree, lists_tree, long_text, made, names_tree, numbers_tree, texts_tree, views}
use Rattle.vx_generator.specs.Rows.{element_values, number_value, row_value, text_of}
use Rattle.vx_generator.proofs.Bits.{bits_are}
use Rattle.vx_generator.proofs.Fitting.{offset_is}
use Rattle.vx_generator.proofs.Pieces.{codes_are, elements_are, numbers_are}
use Rattle.vx_generator.proofs.Sound.{offset_at}

-- ---- numbers

-- A draw has 31 bits.
drawn_small : (x n : ℕ) → drawn x n < 2 ^ 31
unfolding next number_of
drawn_small x n = omega arith

stored_fits : (d : ℕ) → d < 2 ^ 31 → SFits w64 (stored d)
unfolding stored
stored_fits d h = grind (arith, ints)

-- What is stored is read as the number that was stored.
stored_again : (d : ℕ) → d < 2 ^ 31 → cast_signed w64 (from_le_bytes w64 (stored_bytes d)) ≡ stored d
stored_again d h =
    ap (λ n. cast_signed w64 n) (from_le_bytes-to_le_bytes_8 (cast_unsigned w64 (stored d)) (omega (arith, Fits-of_z {w = w64} {z = stored d} (stored_fits d h))))
    ∙ to_z-of_z w64 (stored d) (stored_fits d h)

one_of : (b : Bool) → eqb (cond b 0 1) 1 ≡ cond b false true
one_of true = refl
one_of false = refl

flag_is : (seed rows i : ℕ) → i < rows → Bools.bit_at (columns seed rows rows).validity (0 + i) ≡ cond (is_null (drawn (before seed i) 0)) false true
flag_is seed rows i h =
    ap (λ k. Bools.bit_at (columns seed rows rows).validity k) (zero-add i)
    ∙ ap (λ b. eqb b 1) (bits_are seed rows rows i (omega arith) h)
    ∙ one_of (is_null (drawn (before seed i) 0))

stored_is : (seed rows i : ℕ) → i < rows → primitive_at PI64 (columns seed rows rows).numbers i ≡ I64 (stored (drawn (before seed i) 0))
stored_is seed rows i h =
    ap (λ bs. I64 (cast_signed w64 (from_le_bytes w64 bs))) (numbers_are seed rows rows i h)
    ∙ ap (λ z. I64 z) (stored_again (drawn (before seed i) 0) (drawn_small (before seed i) 0))

shown : (b : Bool) (v : ℕ → Value) (i : ℕ) (w : Value) → v i ≡ w → where_valid (Some (cond b false true)) v i ≡ cond b (lone null) w
shown true v i w e = refl
shown false v i w e = e

number_is : (seed rows i : ℕ) → i < rows → row_at (numbers_tree (columns seed rows rows).numbers (columns seed rows rows).validity rows) i ≡ number_value (before seed i)
number_is seed rows i h =
    ap (λ b. where_valid (Some b) (λ j. lone (number (primitive_at PI64 (columns seed rows rows).numbers j))) i) (flag_is seed rows i h)
    ∙ shown (is_null (drawn (before seed i) 0)) (λ j. lone (number (primitive_at PI64 (columns seed rows rows).numbers j))) i (lone (number (I64 (stored (drawn (before seed i) 0)))))
    (ap (λ n. lone (number n)) (stored_is seed rows i h))

-- ---- texts

text_at : (k : ℕ) → k < 5 → row_at texts_tree k ≡ lone (utf8 (text_of k))
unfolding long_text views
text_at zero h = refl
text_at (suc zero) h = refl
text_at (suc (suc zero)) h = refl
text_at (suc (suc (suc zero))) h = refl
text_at (suc (suc (suc (suc zero)))) h = refl
text_at (suc (suc (suc (suc (suc k))))) h = absurd (omega arith)

code_is : (seed rows i : ℕ) → i < rows → get_or (drop (1 * i) (columns seed rows rows).codes) 0 0 ≡ drawn (before seed i) 1 % 5
code_is seed rows i h =
    let e : 1 * i + 0 ≡ i = omega arith in
    get_or-drop (1 * i) (columns seed rows rows).codes 0 0 ∙ ap (λ k. get_or (columns seed rows rows).codes k 0) e ∙ codes_are seed rows rows i h

text_is : (seed rows i : ℕ) → i < rows → row_at (names_tree (columns seed rows rows).codes rows) i ≡ lone (utf8 (text_of (drawn (before seed i) 1 % 5)))
text_is seed rows i h =
    ap (λ k. row_at texts_tree k) (code_is seed rows i h) ∙ text_at (drawn (before seed i) 1 % 5) (omega arith)

-- ---- lists

runs : (r : Rows) (s x m j : ℕ) → ((k : ℕ) → k < j + m → r.row (s + k) ≡ lone (number (U16 (drawn x k % 65536)))) → values_from r (s + j) m ≡ element_values x j m
runs r s x zero j f = refl
runs r s x (suc m) j f =
    let a : r.row (s + j) ≡ lone (number (U16 (drawn x j % 65536))) = f j (omega arith) in
    let e : suc (s + j) ≡ s + suc j = omega arith in
    let b : values_from r (suc (s + j)) m ≡ element_values x (suc j) m = ap (λ k. values_from r k m) e ∙ runs r s x m (suc j) (λ k q. f k (omega arith)) in
    cc

element_row : (seed rows i k : ℕ) → i < rows → k < count_of (before seed i)
    → row_at (elements_tree (columns seed rows rows).elements (columns seed rows rows).count) ((columns seed rows i).count + k) ≡ lone (number (U16 (drawn (after (before seed i) 3) k % 65536)))
element_row seed rows i k h l =
    ap (λ bs. lone (number (U16 (from_le_bytes w16 bs)))) (elements_are seed rows rows i k h l)
    ∙ ap (λ n. lone (number (U16 n))) (from_le_bytes-to_le_bytes_2 (drawn (after (before seed i) 3) k % 65536) (omega arith))

list_is : (seed rows i : ℕ) → rows ≤ 1000000 → i < rows
    → row_at (lists_tree (columns seed rows rows).elements (columns seed rows rows).count (columns seed rows rows).offsets rows) i
    ≡ node tuple (element_values (after (before seed i) 3) 0 (count_of (before seed i)))
list_is seed rows i m h =
    let r : Rows = rows_of (elements_tree (columns seed rows rows).elements (columns seed rows rows).count) in
    let a = offset_is seed rows rows i m (omega arith) in
    let b = offset_is seed rows rows (suc i) m h in
    let s : offset_at (columns seed rows rows).offsets (suc i) - offset_at (columns seed rows rows).offsets i ≡ count_of (before seed i) = omega arith in
    let z : offset_at (columns seed rows rows).offsets i ≡ (columns seed rows i).count + 0 = omega arith in
    ap (λ k. node tuple (values_from r k (offset_at (columns seed rows rows).offsets (suc i) - offset_at (columns seed rows rows).offsets i))) z
    ∙ ap (λ k. node tuple (values_from r ((columns seed rows i).count + 0) k)) s
    ∙ ap (λ vs. node tuple vs) (runs r (columns seed rows i).count (after (before seed i) 3) (count_of (before seed i)) 0 (λ k q. element_row seed rows i k h (omega arith)))

-- ---- rows

joined : (a b c x y z : Value) → a ≡ x → b ≡ y → c ≡ z → node tuple (more a (more b (more c end))) ≡ node tuple (more x (more y (more z end)))
joined a b c x y z p q r = cc

-- Each row of the table is that of the state before it.
pub rows_are : (seed rows i : ℕ) → rows ≤ 1000000 → i < rows → row_at (made seed rows) i ≡ row_value (before seed i)
unfolding made
rows_are seed rows i m h = joined _ _ _ _ _ _ (number_is seed rows i h) (text_is seed rows i h) (list_is seed rows i m h)
