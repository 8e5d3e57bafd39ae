-- What a node's metadata is read as.
use Rattle.std.specs.Prelude.{ℕ, ◌≡◌, List}
use Rattle.vx_types.specs.Known.{ExtMeaning}
use Rattle.vx_types.specs.Typ.{Typ}
use Rattle.vx_array_tree.specs.Encoding.{Encoding}
use Rattle.vx_array_tree.specs.Metadata.{Metadata}
use Rattle.vx_array_tree.specs.Table.{IsFair}
use Rattle.vx_wire_tree.specs.Codec.{Codec}
use Rattle.vx_wire_tree.specs.Fields.{Fields, meant}
use Rattle.vx_wire_tree.specs.KnownTypes.{IsKnownIn}

-- Bytes are metadata of an encoding's node of a type: they show a message, the encoding admits its meaning at that
-- type, and a type in it is known.
pub record IsMetadata (c : Codec) (x : ExtMeaning) (e : Encoding) (d : Typ) (bytes : List ℕ) (v : Metadata) : Type 0 where
  pub fields : Fields
  pub shown : c.Shows e bytes fields
  pub meaning : meant d fields ≡ v
  pub fair : IsFair e v
  pub known : IsKnownIn x v
