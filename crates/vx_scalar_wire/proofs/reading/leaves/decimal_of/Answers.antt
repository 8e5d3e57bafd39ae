use Rattle.std.specs.Int.{w64, w128, cast_signed, cast_unsigned, from_le_bytes, to_le_bytes}
use Rattle.std.proofs.Common.{rules, ◌≡◌, ◌∙◌, ℕ, ℤ, List, length, refl, sym, ap, subst, arith}
use Rattle.std.proofs.lemmas.Int.{to_z-of_z}
use Rattle.vx_trees.specs.Bytes.{AreBytes}
use Rattle.vx_trees.proofs.LawsOfBytes.{bytes_from_index}
use Rattle.vx_scalar_wire.proofs.Digits.{signed_again, taken_whole}
use Rattle.vx_scalar_wire.proofs.reading.leaves.decimal_of.Goals as goal

pub returns-in-8-clause-same : goal.returns-in-8-clause-same
returns-in-8-clause-same c =
    let bs : List ℕ = c.args.bytes.now in
    let eight : length bs ≡ 8 = omega arith in
    let whole : c.first-in-8.result ≡ bs = c.first-in-8.ensures ∙ taken_whole bs 8 eight in
    let back : cast_signed w64 (cast_unsigned w64 c.from_le_bytes-in-8.result) ≡ c.from_le_bytes-in-8.result = to_z-of_z w64 c.from_le_bytes-in-8.result (search rules) in
    let is = back ∙ c.from_le_bytes-in-8.ensures ∙ ap (λ (x : List ℕ). cast_signed w64 (from_le_bytes w64 x)) whole in
    ap (λ (z : ℤ). to_le_bytes w64 (cast_unsigned w64 z)) is ∙ signed_again w64 bs 7 eight refl (bytes_from_index bs (λ i. omega (arith, c.type_inv.bytes i)))

pub returns-in-16-clause-same : goal.returns-in-16-clause-same
returns-in-16-clause-same c =
    let bs : List ℕ = c.args.bytes.now in
    let sixteen : length bs ≡ 16 = omega arith in
    let whole : c.first-in-16.result ≡ bs = c.first-in-16.ensures ∙ taken_whole bs 16 sixteen in
    let back : cast_signed w128 (cast_unsigned w128 c.from_le_bytes-in-16.result) ≡ c.from_le_bytes-in-16.result = to_z-of_z w128 c.from_le_bytes-in-16.result (search rules) in
    let is = back ∙ c.from_le_bytes-in-16.ensures ∙ ap (λ (x : List ℕ). cast_signed w128 (from_le_bytes w128 x)) whole in
    ap (λ (z : ℤ). to_le_bytes w128 (cast_unsigned w128 z)) is ∙ signed_again w128 bs 15 sixteen refl (bytes_from_index bs (λ i. omega (arith, c.type_inv.bytes i)))

pub returns-in-32-clause-same : goal.returns-in-32-clause-same
returns-in-32-clause-same c =
    let bs : List ℕ = c.args.bytes.now in
    let all : length bs ≡ 32 = omega arith in
    c.first-in-32.ensures ∙ taken_whole bs 32 all

pub returns-in-32-clause-fits : goal.returns-in-32-clause-fits
returns-in-32-clause-fits c =
    let bs : List ℕ = c.args.bytes.now in
    let all : length bs ≡ 32 = omega arith in
    let whole : c.first-in-32.result ≡ bs = c.first-in-32.ensures ∙ taken_whole bs 32 all in
    subst (λ (x : List ℕ). (length x ≡ 32) × AreBytes x) (sym whole) (all, bytes_from_index bs (λ i. omega (arith, c.type_inv.bytes i)))
