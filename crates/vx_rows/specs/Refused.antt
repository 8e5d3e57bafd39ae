-- When a row's value is refused for its cells.
use Rattle.std.specs.Prelude.{ℕ, ◌<◌}
use Rattle.vx_rows.specs.declared.error.ArrayError.{ArrayError}
use Rattle.vx_rows.specs.declared.error.ArrayError.TheVariants.{OutOfMemory, BadShape, BadContent, ForeignControl, ValueTooLarge, BadCast}

-- A value of n cells is refused for allocation failure, or where they are more than there are to spend.
abbrev pub RefusesCells : ArrayError → ℕ → ℕ → Type 0
RefusesCells OutOfMemory cells budget = Unit {0}
RefusesCells BadShape cells budget = ⊥
RefusesCells BadContent cells budget = ⊥
RefusesCells ForeignControl cells budget = ⊥
RefusesCells ValueTooLarge cells budget = budget < cells
RefusesCells BadCast cells budget = ⊥
