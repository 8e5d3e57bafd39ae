-- Schemas of which plain messages are samples.
use Rattle.std.specs.Prelude.{[], ◌∷◌}
use Rattle.vx_proto.specs.declared.schema.ScalarKind.TheVariants.{Uint32, Uint64, Int32, Sint64, Flag, Enum, Fixed32, Fixed64, String, Bytes}
use Rattle.vx_proto.specs.declared.schema.Kind.TheVariants.{Scalar, Message}
use Rattle.vx_proto.specs.Schema.{Schema, plain, optional, oneof, repeated, nested, field}

-- A field of each kind, each optional: a field that is there is written at its default, too.
abbrev pub kinds : Schema
kinds =
    (optional 1 Uint32 ∷ optional 2 Uint64 ∷ optional 3 Int32 ∷ optional 4 Flag ∷ optional 5 (Enum 11) ∷ optional 6 Fixed32 ∷ optional 7 Fixed64 ∷ optional 8 String ∷ optional 9 Bytes
    ∷ optional 10 Sint64 ∷ []) ∷ []

-- A type with three of its members: null, primitive and list.
abbrev pub types : Schema
types =
    (oneof (field 1 (Message 1) ∷ field 3 (Message 2) ∷ field 8 (Message 3) ∷ []) ∷ [])
    ∷ []
    ∷ (plain 1 (Enum 11) ∷ plain 2 Flag ∷ [])
    ∷ (nested 1 0 ∷ plain 2 Flag ∷ [])
    ∷ []

-- A scalar value, its lists and its unions.
abbrev pub scalars : Schema
scalars =
    (oneof (field 1 (Scalar (Enum 1)) ∷ field 2 (Scalar Flag) ∷ field 3 (Scalar Sint64) ∷ field 4 (Scalar Uint64) ∷ field 5 (Scalar Fixed32) ∷ field 6 (Scalar Fixed64)
    ∷ field 7 (Scalar String) ∷ field 8 (Scalar Bytes) ∷ field 9 (Message 1) ∷ field 10 (Scalar Uint64) ∷ field 11 (Message 2) ∷ []) ∷ [])
    ∷ (repeated 1 (Message 0) ∷ [])
    ∷ (plain 1 Uint32 ∷ nested 2 0 ∷ [])
    ∷ []

-- The metadata of a dictionary, which begins like that of a list.
abbrev pub dictionaries : Schema
dictionaries = (plain 1 Uint32 ∷ plain 2 (Enum 11) ∷ optional 3 Flag ∷ optional 4 Flag ∷ []) ∷ []

-- An expression: an identifier, children, and optional metadata.
abbrev pub expressions : Schema
expressions = (plain 1 String ∷ repeated 2 (Message 0) ∷ optional 3 Bytes ∷ []) ∷ []

-- A function over many values: an identifier, and optional metadata.
abbrev pub aggregates : Schema
aggregates = (plain 1 String ∷ optional 2 Bytes ∷ []) ∷ []

-- A tree: a oneof of a text and a number, and the trees below.
abbrev pub trees : Schema
trees = (oneof (field 1 (Scalar String) ∷ field 2 (Scalar Uint64) ∷ []) ∷ repeated 3 (Message 0) ∷ []) ∷ []

-- A message that may hold one of its own kind.
abbrev pub nests : Schema
nests = (nested 1 0 ∷ []) ∷ []
