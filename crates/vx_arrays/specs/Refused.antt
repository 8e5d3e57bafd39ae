-- When a call on arrays is refused.
use Rattle.std.specs.Prelude.{ℕ, Result, Ok, Err}
use Rattle.vx_trees.specs.Rose.{label, below}
use Rattle.vx_array_tree.specs.Refused.{IsMisshaped, IsForeignControlled, HasBrokenContent}
use Rattle.vx_array_tree.specs.Rows.{Rows}
use Rattle.vx_array_tree.specs.Tree.{Tree}
use Rattle.vx_rows.specs.Refused.{RefusesCells}
use Rattle.vx_rows.specs.declared.error.ArrayError.{ArrayError}
use Rattle.vx_rows.specs.declared.error.ArrayError.TheVariants.{OutOfMemory, BadShape, BadContent, ForeignControl, ValueTooLarge, BadCast}

-- A constructor refuses the tree of its parts for allocation failure, where its root is of another shape than its
-- encoding requires, where its root is of that shape and a foreign node stands in a control child, or where neither
-- is so and its content is broken.
abbrev pub RefusesMaking : ArrayError → Tree → Type 0
RefusesMaking OutOfMemory t = Unit {0}
RefusesMaking BadShape t = IsMisshaped (label t) (below t)
RefusesMaking BadContent t = HasBrokenContent (label t) (below t)
RefusesMaking ForeignControl t = IsForeignControlled (label t) (below t)
RefusesMaking ValueTooLarge t = ⊥
RefusesMaking BadCast t = ⊥

-- A row is refused as its value is.
abbrev pub RefusesRow : ArrayError → Rows → ℕ → ℕ → Type 0
RefusesRow e r i budget = RefusesCells e (r.cells i) budget

-- Of the refusals this one is allocation failure.
abbrev pub IsMemory : ArrayError → Type 0
IsMemory OutOfMemory = Unit {0}
IsMemory BadShape = ⊥
IsMemory BadContent = ⊥
IsMemory ForeignControl = ⊥
IsMemory ValueTooLarge = ⊥
IsMemory BadCast = ⊥

-- The answer is Ok, or allocation failure.
abbrev pub IsOkOrMemory : {A : Type 0} → Result A ArrayError → Type 0
IsOkOrMemory (Ok r) = Unit {0}
IsOkOrMemory (Err e) = IsMemory e
