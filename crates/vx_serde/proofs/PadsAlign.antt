-- Pads bring buffers to positions of their alignment.
use Rattle.std.proofs.Common.{ℕ, ◌≡◌, ◌+◌, ◌-◌, ◌<◌, ◌≤◌, ◌%◌, ◌^◌, Bool, true, List, [], ◌∷◌, length, sym, ap, ◌∙◌, subst, arith, inl, inr}
use Rattle.std.specs.Prelude.{if◌then◌else◌}
use Rattle.std.proofs.Math.Nat.{mod_self, add-mod-mod, mod-add-mod, mod-lt, mod-le, mod-eq_of_lt}
use Rattle.std.proofs.lemmas.Nat.{pow_pos}
use Rattle.std.proofs.lemmas.Bool.Decides.{leb_tells}
use Rattle.vx_buffer.specs.Buffer.{Buffer}
use Rattle.vx_serde.specs.declared.options.SerializeOptions.{SerializeOptions}
use Rattle.vx_serde.specs.Placing.{gap_to, pad, descriptors_from}
use Rattle.vx_serde.specs.Aligned.{AreAligned}

gap-aligns : (n p : ℕ) → 0 < n → (p + gap_to n p) % n ≡ 0
gap-aligns n p h =
    let below : p % n < n = mod-lt p h in
    let whole : p % n + (n - p % n) ≡ n = omega (arith, below) in
    add-mod-mod p (n - p % n) n ∙ sym (mod-add-mod p n (n - p % n)) ∙ ap (λ z. z % n) whole ∙ mod_self n

-- No smaller number does so.
pub gap-least : (n p m : ℕ) → 0 < n → (p + m) % n ≡ 0 → gap_to n p ≤ m
gap-least n p m h e =
    let below : p % n < n = mod-lt p h in
    let wrapped : (p % n + m) % n ≡ 0 = mod-add-mod p n m ∙ e in
    elim (leb_tells (n - p % n) m) [
      | inl large ↦ omega (arith, large.1, mod-le (n - p % n) n)
      | inr small ↦
          let within : p % n + m < n = omega (arith, below, small.1) in
          let kept : (p % n + m) % n ≡ p % n + m = mod-eq_of_lt within in
          let sum : p % n + m ≡ 0 = sym kept ∙ wrapped in
          let none : n - p % n ≡ n = omega (arith, sum) in
          let empty : gap_to n p ≡ 0 = ap (λ z. z % n) none ∙ mod_self n in
          omega (arith, empty)
    ]

pub pad-aligns : (options : SerializeOptions) (exponent position : ℕ) → options.include_padding ≡ true → (position + pad options exponent position) % 2 ^ exponent ≡ 0
pad-aligns options exponent position asked =
    let P : Bool → Type 0 = λ b. (position + (if b then gap_to (2 ^ exponent) position else 0)) % 2 ^ exponent ≡ 0 in
    subst P (sym asked) (gap-aligns (2 ^ exponent) position (pow_pos exponent))

pub descriptors-align : (options : SerializeOptions) (position : ℕ) (bs : List Buffer) → options.include_padding ≡ true → AreAligned position (descriptors_from options position bs)
descriptors-align options position [] asked = tt
descriptors-align options position (b ∷ bs) asked =
    (pad-aligns options b.exponent position asked, descriptors-align options (position + pad options b.exponent position + length b.bytes) bs asked)
