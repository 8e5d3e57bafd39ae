-- The widths of decimals, in bytes, and their codes.
use Rattle.std.specs.Prelude.{ℕ}
use Rattle.vx_numbers.specs.declared.decimal_type.DecimalType.{DecimalType}
use Rattle.vx_numbers.specs.declared.decimal_type.DecimalType.TheVariants.{I8, I16, I32, I64, I128, I256}

-- The width in bytes, an eighth of the bits that the name gives.
abbrev pub decimal_width_of : DecimalType → ℕ
decimal_width_of I8 = 1
decimal_width_of I16 = 2
decimal_width_of I32 = 4
decimal_width_of I64 = 8
decimal_width_of I128 = 16
decimal_width_of I256 = 32

-- The code of a width in messages, from 0 by width.
abbrev pub decimal_code_of : DecimalType → ℕ
decimal_code_of I8 = 0
decimal_code_of I16 = 1
decimal_code_of I32 = 2
decimal_code_of I64 = 3
decimal_code_of I128 = 4
decimal_code_of I256 = 5
