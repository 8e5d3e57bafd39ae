-- Values whose plain parts a machine can hold: numbers in their range, UTF-8 texts, bytes.
use Rattle.std.specs.Prelude.{◌≡◌, ◌<◌, ◌^◌, length, FitsSigned}
use Rattle.std.specs.Int.{w8, w16, w32, w64, w128}
use Rattle.vx_trees.specs.Rose.{node, end, more}
use Rattle.vx_trees.specs.Bytes.{AreBytes}
use Rattle.vx_types.specs.Content.{IsText}
use Rattle.vx_types.specs.Typ.{IsType}
use Rattle.vx_numbers.specs.declared.value.PValue.{PValue}
use Rattle.vx_numbers.specs.declared.value.PValue.TheVariants.{U8, U16, U32, U64, I8, I16, I32, I64, F16, F32, F64}
use Rattle.vx_types.specs.Value as V
use Rattle.vx_types.specs.Value.{Value, Values, Mark, DecimalValue, number, decimal, utf8, binary, union, variant}

-- The number is in the range of its kind.
abbrev pub IsInRange : PValue → Type 0
IsInRange (U8 n) = n < 2 ^ 8
IsInRange (U16 n) = n < 2 ^ 16
IsInRange (U32 n) = n < 2 ^ 32
IsInRange (U64 n) = n < 2 ^ 64
IsInRange (I8 z) = FitsSigned w8 z
IsInRange (I16 z) = FitsSigned w16 z
IsInRange (I32 z) = FitsSigned w32 z
IsInRange (I64 z) = FitsSigned w64 z
IsInRange (F16 bits) = bits < 2 ^ 16
IsInRange (F32 bits) = bits < 2 ^ 32
IsInRange (F64 bits) = bits < 2 ^ 64

-- A decimal's integer is in the range of its width; the widest has 32 bytes.
abbrev pub IsDecimalInRange : DecimalValue → Type 0
IsDecimalInRange (V.i8 z) = FitsSigned w8 z
IsDecimalInRange (V.i16 z) = FitsSigned w16 z
IsDecimalInRange (V.i32 z) = FitsSigned w32 z
IsDecimalInRange (V.i64 z) = FitsSigned w64 z
IsDecimalInRange (V.i128 z) = FitsSigned w128 z
IsDecimalInRange (V.i256 bytes) = (length bytes ≡ 32) × AreBytes bytes

-- The part of a mark is in range: a tag is a byte, and a variant's type is a type.
abbrev pub IsWellMark : Mark → Type 0
IsWellMark (number n) = IsInRange n
IsWellMark (decimal x) = IsDecimalInRange x
IsWellMark (utf8 bs) = IsText bs
IsWellMark (binary bs) = AreBytes bs
IsWellMark (union tag) = tag < 2 ^ 8
IsWellMark (variant d) = IsType d
IsWellMark _ = Unit {0}

abbrev mutual
  -- A value is well where its mark is, and the values within it are.
  pub IsWell : Value → Type 0
  IsWell (node m vs) = IsWellMark m × AreWell vs

  -- Each of these values is well.
  pub AreWell : Values → Type 0
  AreWell end = Unit {0}
  AreWell (more v vs) = IsWell v × AreWell vs
