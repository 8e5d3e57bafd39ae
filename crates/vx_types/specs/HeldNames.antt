-- The names that a list of names holds.
use Rattle.std.specs.Prelude.{ℕ, List, []}
use Rattle.vx_types.specs.declared.names.HeldNames.{HeldNames}
use Rattle.vx_types.specs.declared.names.HeldNames.TheVariants.{Nothing, Names}

-- None, or those of the boxed list.
abbrev pub names_held : HeldNames → List (List ℕ)
names_held Nothing = []
names_held (Names b) = b.value.items
