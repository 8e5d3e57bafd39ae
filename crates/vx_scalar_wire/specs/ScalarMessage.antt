-- The message of a scalar.
use Rattle.std.specs.Prelude.{ℕ, List, [], ◌∷◌, ◌++◌, IsTrue, refl}
use Rattle.std.specs.Int.{w8, w16, w32, w64, w128, cast_unsigned, to_le_bytes}
use Rattle.vx_trees.specs.Rose.{node, end, more}
use Rattle.vx_proto.specs.Lawful.{is_lawful}
use Rattle.vx_proto.specs.Parts.{flag_number}
use Rattle.vx_proto.specs.Schema.{plain, nested, repeated, oneof, field, Slot, Schema}
use Rattle.vx_proto.specs.Signed.{zigzag}
use Rattle.vx_proto.specs.Value.{Entry, Value}
use Rattle.vx_proto.specs.declared.schema.Kind.TheVariants.{Scalar, Message}
use Rattle.vx_proto.specs.declared.schema.ScalarKind.TheVariants.{Uint32, Uint64, Sint64, Flag, Enum, Fixed32, Fixed64, String, Bytes}
use Rattle.vx_proto.specs.declared.schema.Member.{Member}
use Rattle.vx_proto.specs.Value.{one_number, one_octets, one_message}
use Rattle.vx_type_wire.specs.TypeMessage.{type_lists, type_message, first_message, all_messages}
use Rattle.vx_types.specs.Value as V
use Rattle.vx_types.specs.Value.{Mark, DecimalValue}
use Rattle.vx_numbers.specs.declared.value.PValue.{PValue}
use Rattle.vx_numbers.specs.declared.value.PValue.TheVariants.{U8, U16, U32, U64, I8, I16, I32, I64, F16, F32, F64}
use Rattle.vx_scalars.specs.Told.{Typed}

-- ---- the schema

-- The members of a value's oneof: null, bool, int64, uint64, f32, f64, string, bytes, list, f16, union, variant.
abbrev pub value_members : List Member
value_members =
    field 1 (Scalar (Enum 1)) ∷ field 2 (Scalar Flag) ∷ field 3 (Scalar Sint64) ∷ field 4 (Scalar Uint64) ∷ field 5 (Scalar Fixed32) ∷ field 6 (Scalar Fixed64)
    ∷ field 7 (Scalar String) ∷ field 8 (Scalar Bytes) ∷ field 9 (Message 16) ∷ field 10 (Scalar Uint64) ∷ field 11 (Message 17) ∷ field 12 (Message 14) ∷ []

-- A scalar has its type and its value, a list its values, a union its tag and its value.
abbrev pub scalar_list : List Slot
scalar_list = nested 1 0 ∷ nested 2 15 ∷ []

abbrev pub value_list : List Slot
value_list = oneof value_members ∷ []

abbrev pub list_list : List Slot
list_list = repeated 1 (Message 15) ∷ []

abbrev pub union_list : List Slot
union_list = plain 1 Uint32 ∷ nested 2 15 ∷ []

-- The messages by place: those of types, then a scalar at 14, a value at 15, a list at 16, a union's at 17.
abbrev pub scalar_lists : Schema
scalar_lists = type_lists ++ (scalar_list ∷ value_list ∷ list_list ∷ union_list ∷ [])

-- It is lawful.
pub scalar_lists_lawful : IsTrue (is_lawful scalar_lists)
scalar_lists_lawful = refl

-- ---- the message

-- An integer with sign is a sint64, one without a uint64; a float stands as its bits in its own member.
abbrev pub number_member : PValue → List Entry
number_member (U8 n) = one_number 4 n
number_member (U16 n) = one_number 4 n
number_member (U32 n) = one_number 4 n
number_member (U64 n) = one_number 4 n
number_member (I8 z) = one_number 3 (zigzag z)
number_member (I16 z) = one_number 3 (zigzag z)
number_member (I32 z) = one_number 3 (zigzag z)
number_member (I64 z) = one_number 3 (zigzag z)
number_member (F16 bits) = one_number 10 bits
number_member (F32 bits) = one_number 5 bits
number_member (F64 bits) = one_number 6 bits

-- A decimal's integer in two's complement, in as many bytes as its width says, the lowest first.
abbrev pub decimal_bytes : DecimalValue → List ℕ
decimal_bytes (V.i8 z) = cast_unsigned w8 z ∷ []
decimal_bytes (V.i16 z) = to_le_bytes w16 (cast_unsigned w16 z)
decimal_bytes (V.i32 z) = to_le_bytes w32 (cast_unsigned w32 z)
decimal_bytes (V.i64 z) = to_le_bytes w64 (cast_unsigned w64 z)
decimal_bytes (V.i128 z) = to_le_bytes w128 (cast_unsigned w128 z)
decimal_bytes (V.i256 bytes) = bytes

-- The member of a mark, where the messages of the values below it are given. Nothing stands for what is opaque.
abbrev pub member_of : Mark → List Value → List Entry
member_of V.null vs = one_number 1 0
member_of V.opaque vs = []
member_of (V.bool b) vs = one_number 2 (flag_number b)
member_of (V.number n) vs = number_member n
member_of (V.decimal x) vs = one_octets 8 (decimal_bytes x)
member_of (V.utf8 s) vs = one_octets 7 s
member_of (V.binary bs) vs = one_octets 8 bs
member_of V.tuple vs = one_message 9 (all_messages 1 vs ∷ [])
member_of (V.union tag) vs = one_message 11 (one_number 1 tag ∷ first_message 2 vs ∷ [])
member_of (V.variant d) vs = one_message 12 (one_message 1 (type_message d) ∷ first_message 2 vs ∷ [])

abbrev mutual
  -- The plain value of a value's message: its member in the oneof.
  pub value_message : V.Value → Value
  value_message (node m vs) = member_of m (value_messages vs) ∷ []

  -- Those of values, in order.
  pub value_messages : V.Values → List Value
  value_messages end = []
  value_messages (more v vs) = value_message v ∷ value_messages vs

-- The plain value of a scalar's message.
abbrev pub scalar_message : Typed → Value
scalar_message s = one_message 1 (type_message s.dtype) ∷ one_message 2 (value_message s.value) ∷ []

-- The member of a value in its message.
abbrev pub member_below : V.Value → List Entry
member_below (node m vs) = member_of m (value_messages vs)

-- The plain values of the messages of a list and of a union's value.
abbrev pub list_message : V.Values → Value
list_message vs = all_messages 1 (value_messages vs) ∷ []

abbrev pub union_message : ℕ → V.Value → Value
union_message tag v = one_number 1 tag ∷ one_message 2 (value_message v) ∷ []
