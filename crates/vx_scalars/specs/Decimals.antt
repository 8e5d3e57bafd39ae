-- The integer that contracts see of a `DecimalValue`.
use Rattle.vx_types.specs.Value as V
use Rattle.vx_scalars.specs.declared.decimal.DecimalValue.{DecimalValue}
use Rattle.vx_scalars.specs.declared.decimal.DecimalValue.TheVariants.{I8, I16, I32, I64, I128, I256}

-- A decimal's unscaled integer, in its width.
abbrev pub decimal_of : DecimalValue → V.DecimalValue
decimal_of (I8 z) = V.i8 z
decimal_of (I16 z) = V.i16 z
decimal_of (I32 z) = V.i32 z
decimal_of (I64 z) = V.i64 z
decimal_of (I128 z) = V.i128 z
decimal_of (I256 bytes) = V.i256 bytes
