-- Descriptors are read eight bytes at a time.
use Rattle.std.proofs.Common.{ℕ, ◌≡◌, ◌≤◌, List, [], ◌∷◌, length, get_or, drop, refl, arith}
use Rattle.std.specs.Int.{w16, w32, from_le_bytes}
use Rattle.vx_serialized.specs.Message.{Descriptor, descriptors_of}

-- The descriptor in the first eight bytes.
abbrev pub first_descriptor : List ℕ → Descriptor
first_descriptor s = record {
  padding = from_le_bytes w16 (get_or s 0 0 ∷ get_or s 1 0 ∷ []);
  exponent = get_or s 2 0;
  compression = get_or s 3 0;
  len = from_le_bytes w32 (get_or s 4 0 ∷ get_or s 5 0 ∷ get_or s 6 0 ∷ get_or s 7 0 ∷ []);
}

pub descriptors_of-eight : (s : List ℕ) → 8 ≤ length s → descriptors_of s ≡ first_descriptor s ∷ descriptors_of (drop 8 s)
descriptors_of-eight [] h = absurd (omega (arith, h))
descriptors_of-eight (a ∷ []) h = absurd (omega (arith, h))
descriptors_of-eight (a ∷ b ∷ []) h = absurd (omega (arith, h))
descriptors_of-eight (a ∷ b ∷ c ∷ []) h = absurd (omega (arith, h))
descriptors_of-eight (a ∷ b ∷ c ∷ d ∷ []) h = absurd (omega (arith, h))
descriptors_of-eight (a ∷ b ∷ c ∷ d ∷ e ∷ []) h = absurd (omega (arith, h))
descriptors_of-eight (a ∷ b ∷ c ∷ d ∷ e ∷ f ∷ []) h = absurd (omega (arith, h))
descriptors_of-eight (a ∷ b ∷ c ∷ d ∷ e ∷ f ∷ g ∷ []) h = absurd (omega (arith, h))
descriptors_of-eight (a ∷ b ∷ c ∷ d ∷ e ∷ f ∷ g ∷ i ∷ rest) h = refl
