-- Which values are written: those whose variants have types that are.
use Rattle.std.specs.Prelude.{◌≤◌}
use Rattle.vx_trees.specs.Rose.{node, end, more}
use Rattle.vx_trees.specs.Walks.{levels}
use Rattle.vx_types.specs.Value.{Mark, Value, Values, variant}
use Rattle.vx_type_wire.specs.TypeMessage.{most_levels}
use Rattle.vx_scalars.specs.Told.{Typed}

-- The type of a variant has no more levels than a type's message.
abbrev pub IsShallowMark : Mark → Type 0
IsShallowMark (variant d) = levels d ≤ most_levels
IsShallowMark m = Unit {0}

abbrev mutual
  -- So it is at each variant in a value.
  pub IsShallow : Value → Type 0
  IsShallow (node m vs) = IsShallowMark m × AreShallow vs

  -- And in each of these values.
  pub AreShallow : Values → Type 0
  AreShallow end = Unit {0}
  AreShallow (more v vs) = IsShallow v × AreShallow vs

-- The same of a scalar: of its type, and in its value.
abbrev pub IsShallowScalar : Typed → Type 0
IsShallowScalar s = (levels s.dtype ≤ most_levels) × IsShallow s.value
