-- The message of a bool array's metadata.
use Rattle.std.specs.Prelude.{ℕ, [], ◌∷◌}
use Rattle.vx_proto.specs.declared.schema.ScalarKind.TheVariants.{Uint32}
use Rattle.vx_proto.specs.Form.{HasForm}
use Rattle.vx_proto.specs.Schema.{Schema, list_at, plain}
use Rattle.vx_proto.specs.Value.{Value}
use Rattle.vx_proto.proofs.LawsOfParts.{Parts, Both, InRange, ◌and◌, nothing, numbers, plain_part}

-- The bit at which the first row lies.
abbrev pub bool_lists : Schema
bool_lists = (plain 1 Uint32 ∷ []) ∷ []

-- Its slots as values.
abbrev pub bool_parts : Parts (HasForm bool_lists) (list_at bool_lists 0) (ℕ × Unit {0}) (Both (InRange (numbers Uint32 tt)) (λ _. Unit {0}))
bool_parts = plain_part 1 (numbers Uint32 tt) and nothing

-- The plain value of metadata with this offset.
abbrev pub bool_value : ℕ → Value
bool_value offset = bool_parts.value (offset, tt)
