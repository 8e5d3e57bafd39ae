-- A list of six texts by its elements.
use Rattle.std.proofs.Common.{◌≡◌, ℕ, List, [], ◌∷◌, length, get_or, arith}

pub six : (ws : List (List ℕ)) (a b c d e f : List ℕ) → length ws ≡ 6 → a ≡ get_or ws 0 a → b ≡ get_or ws 1 b → c ≡ get_or ws 2 c → d ≡ get_or ws 3 d → e ≡ get_or ws 4 e → f ≡ get_or ws 5 f → ws ≡ a ∷ b ∷ c ∷ d ∷ e ∷ f ∷ []
six (x0 ∷ x1 ∷ x2 ∷ x3 ∷ x4 ∷ x5 ∷ []) a b c d e f long p0 p1 p2 p3 p4 p5 = cc
six [] a b c d e f long p0 p1 p2 p3 p4 p5 = absurd (omega (arith, long))
six (x0 ∷ []) a b c d e f long p0 p1 p2 p3 p4 p5 = absurd (omega (arith, long))
six (x0 ∷ x1 ∷ []) a b c d e f long p0 p1 p2 p3 p4 p5 = absurd (omega (arith, long))
six (x0 ∷ x1 ∷ x2 ∷ []) a b c d e f long p0 p1 p2 p3 p4 p5 = absurd (omega (arith, long))
six (x0 ∷ x1 ∷ x2 ∷ x3 ∷ []) a b c d e f long p0 p1 p2 p3 p4 p5 = absurd (omega (arith, long))
six (x0 ∷ x1 ∷ x2 ∷ x3 ∷ x4 ∷ []) a b c d e f long p0 p1 p2 p3 p4 p5 = absurd (omega (arith, long))
six (x0 ∷ x1 ∷ x2 ∷ x3 ∷ x4 ∷ x5 ∷ x6 ∷ xs) a b c d e f long p0 p1 p2 p3 p4 p5 = absurd (omega (arith, long))
