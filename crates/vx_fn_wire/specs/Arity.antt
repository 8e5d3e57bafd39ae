-- How many children a call may have.
use Rattle.std.specs.Prelude.{◌≡◌, ◌≤◌, ℕ, Option, Some, None}
use Rattle.vx_fn_wire.specs.declared.arity.Arity.{Arity}
use Rattle.vx_fn_wire.specs.declared.arity.Arity.TheVariants.{Exact, Variadic}

-- The number n is not too large: there is no upper end, or n is at most that.
abbrev pub IsAtMost : Option ℕ → ℕ → Type 0
IsAtMost None children = Unit {0}
IsAtMost (Some max) children = children ≤ max

-- The number n of children is inside the arity: the exact number, or one from the lower to the upper end.
abbrev pub Admits : Arity → ℕ → Type 0
Admits (Exact n) children = children ≡ n
Admits (Variadic min max) children = (min ≤ children) × IsAtMost max children
