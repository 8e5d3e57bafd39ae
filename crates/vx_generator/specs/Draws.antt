-- Numbers that are drawn from a seed, one after the other.
use Rattle.std.specs.Prelude.{ℕ, zero, suc, ◌+◌, ◌*◌, ◌/◌, ◌%◌, ◌^◌}

-- Each draw has a state of 64 bits. The first state is the seed, and a draw changes it like this.
unfoldable pub next : ℕ → ℕ
next x = (x * 6364136223846793005 + 1442695040888963407) % 2 ^ 64

-- The number that a draw gives: the upper 31 bits of the state after it.
unfoldable pub number_of : ℕ → ℕ
number_of x = x / 2 ^ 33

-- The state after n draws.
abbrev pub after : ℕ → ℕ → ℕ
after x zero = x
after x (suc n) = next (after x n)

-- The number that the draw of this index gives, counted from 0.
abbrev pub drawn : ℕ → ℕ → ℕ
drawn x n = number_of (after x (suc n))
