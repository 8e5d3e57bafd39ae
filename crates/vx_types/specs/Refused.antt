-- The causes of the errors on the parts of a type.
use Rattle.std.specs.Prelude.{ℕ, List, length, ◌≢◌, ◌⊎◌}
use Rattle.vx_types.specs.Content.{AreDistinct}
use Rattle.vx_types.specs.Typ.{Typ}
use Rattle.vx_types.specs.declared.error.TypeError.{TypeError}
use Rattle.vx_types.specs.declared.error.TypeError.TheVariants.{OutOfMemory, BadDecimal, FieldCount, DuplicateTag, BadScalar}

-- The cause of each error on the parts of a union: lists of different lengths, or two
-- equal tags.
abbrev pub RefusesUnion : TypeError → List (List ℕ) → List Typ → List ℕ → Type 0
RefusesUnion OutOfMemory names types ids = ⊥
RefusesUnion BadDecimal names types ids = ⊥
RefusesUnion FieldCount names types ids = (length names ≢ length types) ⊎ (length names ≢ length ids)
RefusesUnion DuplicateTag names types ids = AreDistinct ids → ⊥
RefusesUnion BadScalar names types ids = ⊥
