-- How columns grow.
use Rattle.std.proofs.Common.{ℕ, zero, suc, ◌≡◌, ◌+◌, ◌*◌, ◌/◌, ◌≤◌, Bool, true, false, cond, List, length, refl, arith, ◌∙◌}
use Rattle.std.proofs.lemmas.List.{length-set, length-replicate}
use Rattle.vx_generator.specs.Columns.{is_null, before, columns, with_bit}
use Rattle.vx_generator.specs.Draws.{drawn}

-- Setting a bit keeps the number of bytes.
kept : (b : Bool) (bits : List ℕ) (i : ℕ) → length (cond b bits (with_bit bits i)) ≡ length bits
kept true bits i = refl
kept false bits i = simp length-set

-- The validity has the bytes that the rows need, and a row has at most three elements.
pub validity_len : (seed rows n : ℕ) → length (columns seed rows n).validity ≡ (rows + 7) / 8
validity_len seed rows zero = simp length-replicate
validity_len seed rows (suc n) = kept (is_null (drawn (before seed n) 0)) (columns seed rows n).validity n ∙ validity_len seed rows n

pub few : (seed rows n : ℕ) → (columns seed rows n).count ≤ 3 * n
few seed rows zero = omega arith
few seed rows (suc n) = omega (arith, few seed rows n)
