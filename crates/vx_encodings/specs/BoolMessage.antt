-- The message of the metadata of booleans.
use Rattle.std.specs.Prelude.{ℕ, ◌≡◌, List}
use Rattle.vx_proto.specs.declared.schema.ScalarKind.TheVariants.{Uint32}
use Rattle.vx_proto.specs.Reads.{Reads}
use Rattle.vx_proto.specs.Schema.{Schema}
use Rattle.vx_proto.specs.Value.{Value}
use Rattle.vx_wire_tree.specs.Fields.{Fields}
use Rattle.vx_wire_tree.specs.Fields as F
use Rattle.vx_encodings.specs.NumberMessage.{number_schema, number_value, number_bytes}

-- It has one number of 32 bits: the offset, which is the number of bits before the first row's.
abbrev pub bool_schema : Schema
bool_schema = number_schema Uint32

-- The plain value of the message of an offset.
abbrev pub bool_value : ℕ → Value
bool_value = number_value

-- Bytes show an offset where they are read as its message.
pub record ShowsBool (bytes : List ℕ) (f : Fields) : Type 0 where
  pub offset : ℕ
  pub reads : Reads bool_schema 0 bytes (bool_value offset)
  pub fields_are : f ≡ F.bool offset

-- The bytes of the message of an offset: none at 0, which is the default.
abbrev pub bool_bytes : ℕ → List ℕ
bool_bytes = number_bytes Uint32
