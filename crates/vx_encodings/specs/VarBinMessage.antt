-- The message of the metadata of texts and of bytes by offsets.
use Rattle.std.specs.Prelude.{◌≡◌, ℕ, zero, suc, List, refl}
use Rattle.vx_numbers.specs.Numbers.{code_of}
use Rattle.vx_numbers.specs.declared.ptype.PType.{PType}
use Rattle.vx_numbers.specs.declared.ptype.PType.TheVariants.{U8, U16, U32, U64, I8, I16, I32, I64, F16, F32, F64}
use Rattle.vx_proto.specs.declared.schema.ScalarKind.TheVariants.{Enum}
use Rattle.vx_proto.specs.Schema.{Schema}
use Rattle.vx_proto.specs.Value.{Value}
use Rattle.vx_wire_tree.specs.Fields.{Fields}
use Rattle.vx_wire_tree.specs.Fields as F
use Rattle.vx_encodings.specs.NumberMessage.{number_schema, number_value, number_bytes, same_value, ShowsCoded, one_of_code}

-- It has one number: the code of the kind of the offsets, one of eleven.
abbrev pub varbin_schema : Schema
varbin_schema = number_schema (Enum 11)

-- The plain value of the message of a kind.
abbrev pub varbin_value : PType → Value
varbin_value p = number_value (code_of p)

-- Bytes show a kind where they are read as its message.
abbrev pub ShowsVarBin : List ℕ → Fields → Type 0
ShowsVarBin = ShowsCoded code_of 11 (λ p. F.varbin p)

-- The bytes of the message of a kind: none for the first, which is the default.
abbrev pub varbin_bytes : PType → List ℕ
varbin_bytes p = number_bytes (Enum 11) (code_of p)

-- The kind of a code. (Past the last code any will do.)
abbrev pub kind_of_code : ℕ → PType
kind_of_code zero = U8
kind_of_code (suc zero) = U16
kind_of_code (suc (suc zero)) = U32
kind_of_code (suc (suc (suc zero))) = U64
kind_of_code (suc (suc (suc (suc zero)))) = I8
kind_of_code (suc (suc (suc (suc (suc zero))))) = I16
kind_of_code (suc (suc (suc (suc (suc (suc zero)))))) = I32
kind_of_code (suc (suc (suc (suc (suc (suc (suc zero))))))) = I64
kind_of_code (suc (suc (suc (suc (suc (suc (suc (suc zero)))))))) = F16
kind_of_code (suc (suc (suc (suc (suc (suc (suc (suc (suc zero))))))))) = F32
kind_of_code (suc (suc (suc (suc (suc (suc (suc (suc (suc (suc n)))))))))) = F64

-- A kind is that of its code.
pub kind_of_code_of : (p : PType) → kind_of_code (code_of p) ≡ p
kind_of_code_of U8 = refl
kind_of_code_of U16 = refl
kind_of_code_of U32 = refl
kind_of_code_of U64 = refl
kind_of_code_of I8 = refl
kind_of_code_of I16 = refl
kind_of_code_of I32 = refl
kind_of_code_of I64 = refl
kind_of_code_of F16 = refl
kind_of_code_of F32 = refl
kind_of_code_of F64 = refl

-- So each code is that of one kind, and each plain value, too.
pub one_kind_of_code : (p q : PType) → code_of p ≡ code_of q → p ≡ q
one_kind_of_code = one_of_code code_of kind_of_code kind_of_code_of

pub same_kind : (p q : PType) → varbin_value p ≡ varbin_value q → p ≡ q
same_kind p q e = one_kind_of_code p q (same_value (code_of p) (code_of q) e)
