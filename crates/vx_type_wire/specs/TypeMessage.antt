-- The message of a type.
use Rattle.std.specs.Prelude.{◌≡◌, ◌≤◌, ◌<◌, ◌⊎◌, ◌-◌, ◌^◌, ℕ, ℤ, pos, negsuc, List, [], ◌∷◌, IsTrue, refl}
use Rattle.vx_trees.specs.Rose.{Roses, node, end, more}
use Rattle.vx_trees.specs.Walks.{levels}
use Rattle.vx_proto.specs.Schema.{plain, nested, repeated, oneof, field, Slot, Schema}
use Rattle.vx_proto.specs.declared.schema.Kind.TheVariants.{Scalar, Message}
use Rattle.vx_proto.specs.declared.schema.ScalarKind.TheVariants.{Uint32, Int32, Flag, Enum, String, Bytes}
use Rattle.vx_proto.specs.declared.schema.Member.{Member}
use Rattle.vx_proto.specs.Lawful.{is_lawful}
use Rattle.vx_proto.specs.Reads.{Reads, Cause}
use Rattle.vx_proto.specs.Repeated.{members, messages}
use Rattle.vx_proto.specs.Value.{Entry, Value, octets, one_number, one_octets, one_message}
use Rattle.vx_proto.specs.Written as nesting
use Rattle.vx_types.specs.Kind.{Kind, null, boolean, primitive, decimal, utf8, binary, list, fixed_size_list}
use Rattle.vx_types.specs.Kind.{structure, union, map, variant, extension}
use Rattle.vx_types.specs.Typ.{Typ, IsType}
use Rattle.vx_numbers.specs.Numbers.{code_of}
use Rattle.vx_proto.specs.declared.error.ProtoError.TheVariants as proto
use Rattle.vx_type_wire.specs.declared.error.TypeWireError.{TypeWireError}
use Rattle.vx_type_wire.specs.declared.error.TypeWireError.TheVariants as error
use Rattle.vx_type_wire.specs.Known.{ExtMeaning, ShowsNotKnown}
use Rattle.vx_type_wire.specs.TypeTable.{flag_of, bit_of, tag_of}

-- ---- the schema

-- The message of a type: a oneof of the members by their tags. Each member's message has its tag as its place.
abbrev pub type_members : List Member
type_members =
    field 1 (Message 1) ∷ field 2 (Message 2) ∷ field 3 (Message 3) ∷ field 4 (Message 4) ∷ field 5 (Message 5) ∷ field 6 (Message 6) ∷ field 7 (Message 7)
    ∷ field 8 (Message 8) ∷ field 9 (Message 9) ∷ field 10 (Message 10) ∷ field 11 (Message 11) ∷ field 12 (Message 12) ∷ field 13 (Message 13) ∷ []

abbrev pub type_list : List Slot
type_list = oneof type_members ∷ []

-- The messages by place: a type, then the members by their tags. Null 1, Bool 2, Primitive 3, Decimal 4, Utf8 5, Binary 6,
-- Struct 7, List 8, Extension 9, FixedSizeList 10, Variant 11, Union 12, Map 13.
abbrev pub type_lists : Schema
type_lists =
    type_list
    ∷ []
    ∷ (plain 1 Flag ∷ [])
    ∷ (plain 1 (Enum 11) ∷ plain 2 Flag ∷ [])
    ∷ (plain 1 Uint32 ∷ plain 2 Int32 ∷ plain 3 Flag ∷ [])
    ∷ (plain 1 Flag ∷ [])
    ∷ (plain 1 Flag ∷ [])
    ∷ (repeated 1 (Scalar String) ∷ repeated 2 (Message 0) ∷ plain 3 Flag ∷ [])
    ∷ (nested 1 0 ∷ plain 2 Flag ∷ [])
    ∷ (plain 1 String ∷ nested 2 0 ∷ plain 3 Bytes ∷ [])
    ∷ (nested 1 0 ∷ plain 2 Uint32 ∷ plain 3 Flag ∷ [])
    ∷ (plain 1 Flag ∷ [])
    ∷ (repeated 1 (Scalar String) ∷ repeated 2 (Message 0) ∷ plain 3 Bytes ∷ plain 4 Flag ∷ [])
    ∷ (nested 1 0 ∷ nested 2 0 ∷ plain 3 Flag ∷ plain 4 Flag ∷ [])
    ∷ []

-- It is lawful.
pub type_lists_lawful : IsTrue (is_lawful type_lists)
type_lists_lawful = refl

-- ---- the value

-- A signed number as an int32 is written: below 0 as its 64-bit two's complement.
abbrev pub int32_of : ℤ → ℕ
int32_of (pos n) = n
int32_of (negsuc n) = 2 ^ 64 - 1 - n

-- The first and the second of some messages, as a slot.
abbrev pub first_message : ℕ → List Value → List Entry
first_message i [] = []
first_message i (v ∷ vs) = one_message i v

abbrev pub second_message : ℕ → List Value → List Entry
second_message i [] = []
second_message i (v ∷ vs) = first_message i vs

-- Texts, and messages, as a repeated slot.
abbrev pub texts : ℕ → List (List ℕ) → List Entry
texts i ss = members octets i ss

abbrev pub all_messages : ℕ → List Value → List Entry
all_messages i vs = messages (λ v. v) i vs

-- The slots of a kind's message, where the messages of the types below it are given.
abbrev pub parts_of : Kind → List Value → Value
parts_of null vs = []
parts_of (boolean n) vs = one_number 1 (flag_of n) ∷ []
parts_of (primitive p n) vs = one_number 1 (code_of p) ∷ one_number 2 (flag_of n) ∷ []
parts_of (decimal p s n) vs = one_number 1 p ∷ one_number 2 (int32_of s) ∷ one_number 3 (flag_of n) ∷ []
parts_of (utf8 n) vs = one_number 1 (flag_of n) ∷ []
parts_of (binary n) vs = one_number 1 (flag_of n) ∷ []
parts_of (structure ns n) vs = texts 1 ns ∷ all_messages 2 vs ∷ one_number 3 (flag_of n) ∷ []
parts_of (list n) vs = first_message 1 vs ∷ one_number 2 (flag_of n) ∷ []
parts_of (extension id bs) vs = one_octets 1 id ∷ first_message 2 vs ∷ one_octets 3 bs ∷ []
parts_of (fixed_size_list k n) vs = first_message 1 vs ∷ one_number 2 k ∷ one_number 3 (flag_of n) ∷ []
parts_of (variant n) vs = one_number 1 (flag_of n) ∷ []
parts_of (union ns ids n) vs = texts 1 ns ∷ all_messages 2 vs ∷ one_octets 3 ids ∷ one_number 4 (flag_of n) ∷ []
parts_of (map b n) vs = first_message 1 vs ∷ second_message 2 vs ∷ one_number 3 (bit_of b) ∷ one_number 4 (flag_of n) ∷ []

-- A type's message has the member of its kind in its oneof.
abbrev pub in_oneof : ℕ → Value → Value
in_oneof tag v = one_message tag v ∷ []

abbrev mutual
  -- The plain value of a type's message.
  pub type_message : Typ → Value
  type_message (node k ts) = in_oneof (tag_of k) (parts_of k (type_messages ts))

  -- Those of types, in order.
  pub type_messages : Roses Kind → List Value
  type_messages end = []
  type_messages (more t ts) = type_message t ∷ type_messages ts

-- The slots of the message of a type's kind.
abbrev pub parts_below : Typ → Value
parts_below (node k ts) = parts_of k (type_messages ts)

-- ---- what shows a type

-- The limit of levels of a type in a message: each level nests two messages, and at most 100 nest.
abbrev pub most_levels : ℕ
most_levels = 50

-- The plain value is that of a type's message.
pub record IsMessageOf (v : Value) (t : Typ) : Type 0 where
  pub is_type : IsType t
  pub is : v ≡ type_message t

-- The bytes are read as a type's message.
pub record ShowsMessage (bytes : List ℕ) (t : Typ) : Type 0 where
  pub is_type : IsType t
  pub read : Reads type_lists 0 bytes (type_message t)

-- The plain value is that of no type's message.
abbrev pub IsNoMessage : Value → Type 0
IsNoMessage v = (t : Typ) → IsMessageOf v t → ⊥

-- Why a plain value is read as no type under a session: over 100 messages nest, it is no type's, or an extension in the type
-- is not accepted. Allocation failure has no cause.
abbrev pub RefusesReadingType : TypeWireError → ExtMeaning → Value → Type 0
RefusesReadingType error.OutOfMemory s v = Unit {0}
RefusesReadingType error.TooDeep s v = 100 < nesting.nested v
RefusesReadingType error.BadType s v = IsNoMessage v
RefusesReadingType error.UnknownExtension s v = ShowsNotKnown (IsMessageOf v) error.UnknownExtension s
RefusesReadingType error.ExtensionRefused s v = ShowsNotKnown (IsMessageOf v) error.ExtensionRefused s
RefusesReadingType _ s v = ⊥

-- Why bytes are read as no type under a session: they are no fields of the schema, over 100 messages nest, a number is out
-- of its field's range or the message is no type's, or an extension in the type is not accepted.
abbrev pub RefusesReadingTypeBytes : TypeWireError → ExtMeaning → List ℕ → Type 0
RefusesReadingTypeBytes error.OutOfMemory s bytes = Unit {0}
RefusesReadingTypeBytes error.BadMessage s bytes = Cause type_lists 100 proto.BadMessage 0 bytes
RefusesReadingTypeBytes error.TooDeep s bytes = Cause type_lists 100 proto.TooDeep 0 bytes
RefusesReadingTypeBytes error.BadType s bytes = Cause type_lists 100 proto.OutOfRange 0 bytes ⊎ ((v : Value) × (Reads type_lists 0 bytes v × IsNoMessage v))
RefusesReadingTypeBytes error.UnknownExtension s bytes = ShowsNotKnown (ShowsMessage bytes) error.UnknownExtension s
RefusesReadingTypeBytes error.ExtensionRefused s bytes = ShowsNotKnown (ShowsMessage bytes) error.ExtensionRefused s
RefusesReadingTypeBytes _ s bytes = ⊥

-- Why a type is not written as a message: it has too many levels.
abbrev pub RefusesWritingType : TypeWireError → Typ → Type 0
RefusesWritingType error.OutOfMemory t = Unit {0}
RefusesWritingType error.WireLimit t = most_levels < levels t
RefusesWritingType _ t = ⊥
