-- The message of the metadata of variants: the type of the shredded child, where there is one.
use Rattle.std.specs.Prelude.{ℕ, ◌≡◌, ◌≤◌, List, [], ◌∷◌, ◌++◌, Option, Some, None, option_map, refl}
use Rattle.std.proofs.Common.{arith}
use Rattle.vx_trees.specs.Walks.{levels}
use Rattle.vx_types.specs.Known.{ExtMeaning}
use Rattle.vx_types.specs.Typ.{Typ}
use Rattle.vx_proto.specs.Form.{HasForm}
use Rattle.vx_proto.specs.Reads.{Reads}
use Rattle.vx_proto.specs.Schema.{Schema, list_at, nested}
use Rattle.vx_proto.specs.Value.{Value}
use Rattle.vx_proto.specs.Written.{written}
use Rattle.vx_proto.proofs.LawsOfParts.{Part, Parts, Both, IfStands, ◌and◌, nothing, nested_part}
use Rattle.vx_proto.proofs.LawsOfForms.{same_form}
use Rattle.vx_type_wire.specs.Known.{IsRead}
use Rattle.vx_type_wire.specs.TypeMessage.{IsMessageOf, most_levels, type_lists, type_lists_lawful, type_message}
use Rattle.vx_array_tree.specs.Encodings.Variants.{IsFair}
use Rattle.vx_array_tree.specs.Place.{Place, place}
use Rattle.vx_wire_tree.specs.Fields.{Fields}
use Rattle.vx_wire_tree.specs.Fields as F
use Rattle.vx_wire_tree.specs.KnownTypes.{IsKnownIn}
use Rattle.vx_array_tree.specs.Metadata as M
use Rattle.vx_plans.specs.declared.error.EncodingError.{EncodingError}
use Rattle.vx_plans.specs.declared.error.EncodingError.TheVariants.{OutOfMemory, BadMetadata}

-- The messages of types, and then the one that may hold a type.
abbrev pub variant_schema : Schema
variant_schema = type_lists ++ ((nested 1 0 ∷ []) ∷ [])

-- The type's slot: a value of the form of types, or none.
abbrev pub shredded_part : Part (HasForm variant_schema) (nested 1 0) (Option Value) (IfStands (HasForm type_lists 0))
shredded_part = nested_part 1 0 (λ v. v) (HasForm type_lists 0)
    (λ v f. (same_form type_lists ((nested 1 0 ∷ []) ∷ []) 0 v type_lists_lawful (omega arith)).0 f)
    (λ v f. (v, refl, (same_form type_lists ((nested 1 0 ∷ []) ∷ []) 0 v type_lists_lawful (omega arith)).1 f))
    (λ v w e. e)

-- Its slots as values.
abbrev pub variant_parts : Parts (HasForm variant_schema) (list_at variant_schema 14) (Option Value × Unit {0}) (Both (IfStands (HasForm type_lists 0)) (λ _. Unit {0}))
variant_parts = shredded_part and nothing

-- The plain value of the message with this type's message, or with none.
abbrev pub variant_value : Option Value → Value
variant_value v = variant_parts.value (v, tt)

-- The message of a type, where there is one.
abbrev pub shredded_value : Option Typ → Value
shredded_value d = variant_value (option_map type_message d)

-- Bytes show a type, or none, where they are read as its message.
pub record ShowsVariant (bytes : List ℕ) (f : Fields) : Type 0 where
  pub shredded : Option Typ
  pub is_type : IsFair shredded
  pub reads : Reads variant_schema 14 bytes (shredded_value shredded)
  pub fields_are : f ≡ F.variant shredded

-- The bytes of its message.
abbrev pub variant_bytes : Option Typ → List ℕ
variant_bytes d = written variant_schema 14 (shredded_value d)

-- The type of the shredded child that bytes show, or none; the readers know it.
pub record IsShredded (x : ExtMeaning) (bytes : List ℕ) (d : Option Typ) : Type 0 where
  pub is_type : IsFair d
  pub reads : Reads variant_schema 14 bytes (shredded_value d)
  pub known : IsKnownIn x (M.variant d)

-- Bytes show none that the readers know, or allocation failed.
abbrev pub RefusesShredded : EncodingError → ExtMeaning → List ℕ → Type 0
RefusesShredded OutOfMemory x bytes = Unit {0}
RefusesShredded BadMetadata x bytes = (d : Option Typ) → IsShredded x bytes d → ⊥
RefusesShredded _ x bytes = ⊥

-- A message is of no type that the readers know and whose message nests few enough others, or allocation failed.
abbrev pub RefusesShreddedType : EncodingError → ExtMeaning → Value → Type 0
RefusesShreddedType OutOfMemory x m = Unit {0}
RefusesShreddedType BadMetadata x m = (t : Typ) → levels t ≤ most_levels → IsRead (IsMessageOf m) x t → ⊥
RefusesShreddedType _ x m = ⊥

-- The places of the children: a core of a type, and after it a shredded child, where there is a type for it.
abbrev pub child_places : Typ → Option Typ → ℕ → List Place
child_places d None n = place d n ∷ []
child_places d (Some e) n = place d n ∷ place e n ∷ []
