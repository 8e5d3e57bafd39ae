-- The types that a list of types holds.
use Rattle.std.specs.Prelude.{List, []}
use Rattle.vx_types.specs.Typ.{Typ}
use Rattle.vx_types.specs.declared.dtypes.HeldTypes.{HeldTypes}
use Rattle.vx_types.specs.declared.dtypes.HeldTypes.TheVariants.{Nothing, Types}

-- None, or those of the boxed list.
abbrev pub types_held : HeldTypes → List Typ
types_held Nothing = []
types_held (Types b) = b.value
