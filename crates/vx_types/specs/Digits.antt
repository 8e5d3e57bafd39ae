-- What contracts see of a decimal.
use Rattle.std.specs.Prelude.{ℕ, ℤ}

-- The number of digits, and the number of those after the point.
pub record Digits : Type 0 where
  pub precision : ℕ
  pub scale : ℤ
