-- The message of the metadata of decimals.
use Rattle.std.specs.Prelude.{◌≡◌, ℕ, zero, suc, List, refl}
use Rattle.vx_numbers.specs.Decimals.{decimal_code_of}
use Rattle.vx_numbers.specs.declared.decimal_type.DecimalType.{DecimalType}
use Rattle.vx_numbers.specs.declared.decimal_type.DecimalType.TheVariants.{I8, I16, I32, I64, I128, I256}
use Rattle.vx_proto.specs.declared.schema.ScalarKind.TheVariants.{Enum}
use Rattle.vx_proto.specs.Schema.{Schema}
use Rattle.vx_proto.specs.Value.{Value}
use Rattle.vx_wire_tree.specs.Fields.{Fields}
use Rattle.vx_wire_tree.specs.Fields as F
use Rattle.vx_encodings.specs.NumberMessage.{number_schema, number_value, number_bytes, same_value, ShowsCoded, one_of_code}

-- It has one number: the code of the width, one of six.
abbrev pub decimal_schema : Schema
decimal_schema = number_schema (Enum 6)

-- The plain value of the message of a width.
abbrev pub decimal_value : DecimalType → Value
decimal_value w = number_value (decimal_code_of w)

-- Bytes show a width where they are read as its message.
abbrev pub ShowsDecimal : List ℕ → Fields → Type 0
ShowsDecimal = ShowsCoded decimal_code_of 6 (λ w. F.decimal w)

-- The bytes of the message of a width: none for the least, which is the default.
abbrev pub decimal_bytes : DecimalType → List ℕ
decimal_bytes w = number_bytes (Enum 6) (decimal_code_of w)

-- The width of a code. (Past the last code any will do.)
abbrev pub width_of_code : ℕ → DecimalType
width_of_code zero = I8
width_of_code (suc zero) = I16
width_of_code (suc (suc zero)) = I32
width_of_code (suc (suc (suc zero))) = I64
width_of_code (suc (suc (suc (suc zero)))) = I128
width_of_code (suc (suc (suc (suc (suc n))))) = I256

-- A width is that of its code.
pub width_of_code_of : (w : DecimalType) → width_of_code (decimal_code_of w) ≡ w
width_of_code_of I8 = refl
width_of_code_of I16 = refl
width_of_code_of I32 = refl
width_of_code_of I64 = refl
width_of_code_of I128 = refl
width_of_code_of I256 = refl

-- So each code is that of one width, and each plain value, too.
pub one_width_of_code : (v w : DecimalType) → decimal_code_of v ≡ decimal_code_of w → v ≡ w
one_width_of_code = one_of_code decimal_code_of width_of_code width_of_code_of

pub same_width : (v w : DecimalType) → decimal_value v ≡ decimal_value w → v ≡ w
same_width v w e = one_width_of_code v w (same_value (decimal_code_of v) (decimal_code_of w) e)
