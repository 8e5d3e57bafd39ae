-- Numbers in bytes.
use Rattle.std.specs.Prelude.{ℕ, List, ◌*◌, take, drop, slice_index}
use Rattle.std.specs.Int.{w8, w16, w32, w64, w128, from_le_bytes, cast_signed}
use Rattle.vx_numbers.specs.Numbers.{width_of}
use Rattle.vx_numbers.specs.Decimals.{decimal_width_of}
use Rattle.vx_numbers.specs.declared.ptype.PType.{PType}
use Rattle.vx_numbers.specs.declared.ptype.PType.TheVariants.{U8, U16, U32, U64, I8, I16, I32, I64, F16, F32, F64}
use Rattle.vx_numbers.specs.declared.decimal_type.DecimalType.{DecimalType}
use Rattle.vx_numbers.specs.declared.decimal_type.DecimalType.TheVariants as D
use Rattle.vx_numbers.specs.declared.value.PValue.{PValue}
use Rattle.vx_numbers.specs.declared.value.PValue.TheVariants.{U8 as u8, U16 as u16, U32 as u32, U64 as u64, I8 as i8, I16 as i16, I32 as i32, I64 as i64, F16 as f16, F32 as f32, F64 as f64}
use Rattle.vx_types.specs.Value as V
use Rattle.vx_types.specs.Value.{DecimalValue}

-- The number of this kind that bytes begin with, its lowest byte first; signed ones in two's complement,
-- floats as their bits.
abbrev pub number_at : PType → List ℕ → PValue
number_at U8 bytes = u8 (slice_index bytes 0)
number_at U16 bytes = u16 (from_le_bytes w16 (take 2 bytes))
number_at U32 bytes = u32 (from_le_bytes w32 (take 4 bytes))
number_at U64 bytes = u64 (from_le_bytes w64 (take 8 bytes))
number_at I8 bytes = i8 (cast_signed w8 (slice_index bytes 0))
number_at I16 bytes = i16 (cast_signed w16 (from_le_bytes w16 (take 2 bytes)))
number_at I32 bytes = i32 (cast_signed w32 (from_le_bytes w32 (take 4 bytes)))
number_at I64 bytes = i64 (cast_signed w64 (from_le_bytes w64 (take 8 bytes)))
number_at F16 bytes = f16 (from_le_bytes w16 (take 2 bytes))
number_at F32 bytes = f32 (from_le_bytes w32 (take 4 bytes))
number_at F64 bytes = f64 (from_le_bytes w64 (take 8 bytes))

-- Numbers of one kind stand one after the other: the one at an index comes after as many as it says.
abbrev pub primitive_at : PType → List ℕ → ℕ → PValue
primitive_at p bytes i = number_at p (drop (width_of p * i) bytes)

-- The decimal of this width that bytes begin with.
abbrev pub decimal_value : DecimalType → List ℕ → DecimalValue
decimal_value D.I8 bytes = V.i8 (cast_signed w8 (slice_index bytes 0))
decimal_value D.I16 bytes = V.i16 (cast_signed w16 (from_le_bytes w16 (take 2 bytes)))
decimal_value D.I32 bytes = V.i32 (cast_signed w32 (from_le_bytes w32 (take 4 bytes)))
decimal_value D.I64 bytes = V.i64 (cast_signed w64 (from_le_bytes w64 (take 8 bytes)))
decimal_value D.I128 bytes = V.i128 (cast_signed w128 (from_le_bytes w128 (take 16 bytes)))
decimal_value D.I256 bytes = V.i256 (take 32 bytes)

-- Decimals of one width stand one after the other, as numbers do.
abbrev pub decimal_at : DecimalType → List ℕ → ℕ → DecimalValue
decimal_at w bytes i = decimal_value w (drop (decimal_width_of w * i) bytes)
