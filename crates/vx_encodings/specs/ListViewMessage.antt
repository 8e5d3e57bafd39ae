-- The message of the metadata of list views.
use Rattle.std.specs.Prelude.{ℕ, ◌≡◌, List, [], ◌∷◌}
use Rattle.std.proofs.Common.{ap}
use Rattle.vx_numbers.specs.Numbers.{code_of}
use Rattle.vx_numbers.specs.declared.ptype.PType.{PType}
use Rattle.vx_proto.specs.declared.schema.ScalarKind.TheVariants.{Uint64, Enum}
use Rattle.vx_proto.specs.Form.{HasForm}
use Rattle.vx_proto.specs.Reads.{Reads}
use Rattle.vx_proto.specs.Schema.{Schema, list_at, plain}
use Rattle.vx_proto.specs.Value.{Value, number}
use Rattle.vx_proto.specs.Written.{written}
use Rattle.vx_proto.proofs.LawsOfParts.{Parts, Both, InRange, ◌and◌, nothing, numbers, plain_part}
use Rattle.vx_array_tree.specs.Encodings.ListViews.{Metadata}
use Rattle.vx_wire_tree.specs.Fields.{Fields}
use Rattle.vx_wire_tree.specs.Fields as F
use Rattle.vx_encodings.specs.VarBinMessage.{one_kind_of_code}

-- It has three numbers: the number of elements, and the codes of the kinds of the offsets and of the sizes, each one of
-- eleven.
abbrev pub view_schema : Schema
view_schema = (plain 1 Uint64 ∷ plain 2 (Enum 11) ∷ plain 3 (Enum 11) ∷ []) ∷ []

-- Its slots as numbers.
abbrev pub view_parts : Parts (HasForm view_schema) (list_at view_schema 0) (ℕ × (ℕ × (ℕ × Unit {0}))) (Both (InRange (numbers Uint64 tt)) (Both (InRange (numbers (Enum 11) tt)) (Both (InRange (numbers (Enum 11) tt)) (λ _. Unit {0}))))
view_parts = plain_part 1 (numbers Uint64 tt) and plain_part 2 (numbers (Enum 11) tt) and plain_part 3 (numbers (Enum 11) tt) and nothing

-- The metadata of a number of elements and two kinds.
abbrev pub kept_views : ℕ → PType → PType → Metadata
kept_views n p q = record { elements_len = n; offset_ptype = p; size_ptype = q }

-- The plain value of its message.
abbrev pub view_value : Metadata → Value
view_value v = ((1, number v.elements_len) ∷ []) ∷ ((2, number (code_of v.offset_ptype)) ∷ []) ∷ ((3, number (code_of v.size_ptype)) ∷ []) ∷ []

-- The fields of the message.
abbrev pub view_fields : Metadata → Fields
view_fields v = F.listview v.elements_len v.offset_ptype v.size_ptype

-- Bytes show metadata where they are read as its message.
pub record ShowsListView (bytes : List ℕ) (f : Fields) : Type 0 where
  pub value : Metadata
  pub reads : Reads view_schema 0 bytes (view_value value)
  pub fields_are : f ≡ view_fields value

-- The bytes of its message. A field of 0 is left out, since that is its default.
abbrev pub view_bytes : Metadata → List ℕ
view_bytes v = written view_schema 0 (view_value v)

-- Its numbers, as nested pairs.
abbrev view_numbers : Metadata → ℕ × (ℕ × (ℕ × Unit {0}))
view_numbers v = (v.elements_len, (code_of v.offset_ptype, (code_of v.size_ptype, tt)))

-- A plain value is that of one metadata.
pub same_views : (v w : Metadata) → view_value v ≡ view_value w → v ≡ w
same_views v w e =
    let s = view_parts.same (view_numbers v) (view_numbers w) e in
    let p = one_kind_of_code v.offset_ptype w.offset_ptype (ap (λ (x : ℕ × (ℕ × (ℕ × Unit {0}))). x.1.0) s) in
    let q = one_kind_of_code v.size_ptype w.size_ptype (ap (λ (x : ℕ × (ℕ × (ℕ × Unit {0}))). x.1.1.0) s) in
    λ i. kept_views (s i).0 (p i) (q i)
