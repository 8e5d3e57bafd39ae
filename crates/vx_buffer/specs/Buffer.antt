-- What a buffer is.
use Rattle.std.specs.Prelude.{ℕ, List, ◌≡◌, ◌%◌, ◌^◌, refl}
use Rattle.std.specs.Coded.{Coded, code_by, coded×, coded_ℕ, coded_list}

-- A buffer: its bytes, and the exponent of its alignment, a power of two.
pub record Buffer : Type 0 where
  pub bytes : List ℕ
  pub exponent : ℕ

-- A buffer is stored as the pair of the two.
abbrev pub coded_buffer : Coded Buffer
coded_buffer = code_by (List ℕ × ℕ) (coded× (coded_list coded_ℕ) coded_ℕ) (λ b. (b.bytes, b.exponent)) (λ p. record { bytes = p.0; exponent = p.1 }) (λ _. refl)

-- An offset into a buffer at which a slice keeps the alignment: a multiple of two to the exponent.
abbrev pub IsAligned : ℕ → ℕ → Type 0
IsAligned place exponent = place % 2 ^ exponent ≡ 0
