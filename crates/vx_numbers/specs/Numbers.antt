-- The kinds of numbers: widths, codes, and the kind of a number.
use Rattle.std.specs.Prelude.{ℕ, Bool, true, false}
use Rattle.vx_numbers.specs.declared.ptype.PType.{PType}
use Rattle.vx_numbers.specs.declared.ptype.PType.TheVariants.{U8, U16, U32, U64, I8, I16, I32, I64, F16, F32, F64}
use Rattle.vx_numbers.specs.declared.value.PValue.{PValue}
use Rattle.vx_numbers.specs.declared.value.PValue.TheVariants.{U8 as u8, U16 as u16, U32 as u32, U64 as u64, I8 as i8, I16 as i16, I32 as i32, I64 as i64, F16 as f16, F32 as f32, F64 as f64}

-- The width in bytes, an eighth of the bits that the kind's name gives.
abbrev pub width_of : PType → ℕ
width_of U8 = 1
width_of U16 = 2
width_of U32 = 4
width_of U64 = 8
width_of I8 = 1
width_of I16 = 2
width_of I32 = 4
width_of I64 = 8
width_of F16 = 2
width_of F32 = 4
width_of F64 = 8

-- The integers, signed or not; the floats are none.
abbrev pub is_integer : PType → Bool
is_integer U8 = true
is_integer U16 = true
is_integer U32 = true
is_integer U64 = true
is_integer I8 = true
is_integer I16 = true
is_integer I32 = true
is_integer I64 = true
is_integer F16 = false
is_integer F32 = false
is_integer F64 = false

-- The code of a kind in messages, from 0: the unsigned integers by width, then the
-- signed ones, then the floats.
abbrev pub code_of : PType → ℕ
code_of U8 = 0
code_of U16 = 1
code_of U32 = 2
code_of U64 = 3
code_of I8 = 4
code_of I16 = 5
code_of I32 = 6
code_of I64 = 7
code_of F16 = 8
code_of F32 = 9
code_of F64 = 10

-- The kind of a number.
abbrev pub kind_of : PValue → PType
kind_of (u8 n) = U8
kind_of (u16 n) = U16
kind_of (u32 n) = U32
kind_of (u64 n) = U64
kind_of (i8 n) = I8
kind_of (i16 n) = I16
kind_of (i32 n) = I32
kind_of (i64 n) = I64
kind_of (f16 n) = F16
kind_of (f32 n) = F32
kind_of (f64 n) = F64
