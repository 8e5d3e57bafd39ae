-- The conditions on the plain parts of a type: names, tags and digits.
use Rattle.std.specs.Prelude.{ℕ, ℤ, pos, negsuc, ◌≤ℤ◌, ◌≡◌, ◌≤◌, List, [], ◌∷◌, IsTrue, AllPairs}
use Rattle.std.specs.Str.{is_utf8}

-- The bytes are UTF-8.
abbrev pub IsText : List ℕ → Type 0
IsText bs = IsTrue (is_utf8 bs)

-- Each name of the list is UTF-8.
abbrev pub AreTexts : List (List ℕ) → Type 0
AreTexts [] = Unit {0}
AreTexts (s ∷ ss) = IsText s × AreTexts ss

-- The numbers are distinct.
abbrev pub AreDistinct : List ℕ → Type 0
AreDistinct ns = AllPairs (λ m n. m ≡ n → ⊥) ns

-- A decimal has 1 to 76 digits; its scale is a signed byte.
pub record IsDecimal (precision : ℕ) (scale : ℤ) : Type 0 where
  pub some_digits : 1 ≤ precision
  pub few_digits : precision ≤ 76
  pub low : negsuc 127 ≤ℤ scale
  pub high : scale ≤ℤ pos 127
