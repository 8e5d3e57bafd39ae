-- Powers of two that fit 64 bits.
use Rattle.std.proofs.Common.{◌≡◌, ℕ, ◌^◌, ◌<◌, ◌≤◌, arith, inl, inr}
use Rattle.std.specs.Int.{IsPowerOfTwo}
use Rattle.std.proofs.Math.Pow.{pow_mono}
use Rattle.std.proofs.lemmas.Bool.{cases_lt}

-- A number below 2^64 that is none of the first 64 powers of two is no power of two.
pub no_power : (n : ℕ) → n < 2 ^ 64 → ((k : ℕ) → k < 64 → n ≡ 2 ^ k → ⊥) → IsPowerOfTwo n → ⊥
no_power n small none power =
    elim (cases_lt power.0 64) [
      | inl below ↦ none power.0 below power.1
      | inr above ↦ let large : 2 ^ 64 ≤ 2 ^ power.0 = pow_mono above in absurd (omega (arith, power.1))
    ]
