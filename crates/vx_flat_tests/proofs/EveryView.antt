-- The fields of the root table of the kind that has each kind of field, and of the tables of arrays.
use Rattle.std.proofs.Common.{◌≡◌, ℕ, Option, Some, sym, subst, ◌∙◌}
use Rattle.std.specs.Prelude.{IsSome}
use Rattle.vx_flat.specs.declared.schema.FieldKind.{FieldKind}
use Rattle.vx_flat.specs.declared.viewing.View.{View}
use Rattle.vx_flat.specs.declared.viewing.VectorView.{VectorView}
use Rattle.vx_flat.specs.Entries.{kind_at}
use Rattle.vx_flat.specs.Parts.{member_at}
use Rattle.vx_flat.specs.Schema.{fields_of}
use Rattle.vx_flat.specs.Seen.{IsViewOf, IsVectorOf, IsVectorBelow, kind_in, kind_seen, member_seen}
use Rattle.vx_flat.proofs.LawsOfViews.{kind-of, vector-of}
use Rattle.vx_flat_tests.specs.Worked.{every_schema}

-- What holds of the kind of a field of the schema's root table holds in a view of it.
pub every_field : (P : Option FieldKind → Type 0) (v : View) → IsViewOf every_schema 0 v → (i : ℕ)
    → P (kind_at (fields_of every_schema 0) i) → P (kind_in v i)
every_field P v h i p = subst P (sym (kind-of every_schema 0 v h i)) p

-- The vector in a field is of the field's kind.
pub every_vector : (v : View) (w : VectorView) (i : ℕ) (k : FieldKind) → IsViewOf every_schema 0 v
    → kind_at (fields_of every_schema 0) i ≡ Some k → IsVectorBelow v w → kind_in v i ≡ Some (kind_seen w)
    → IsVectorOf every_schema k w
every_vector v w i k h is below kind = vector-of every_schema v w i k h.schema (kind-of every_schema 0 v h i ∙ is) below kind

-- Its elements have the members that the kind's have.
pub every_member : (w : VectorView) (k : FieldKind) (j : ℕ) → IsVectorOf every_schema k w
    → IsSome (member_at every_schema k j) → IsSome (member_seen w j)
every_member w k j h there =
    subst (λ s. IsSome (member_at s (kind_seen w) j)) (sym h.schema)
    (subst (λ d. IsSome (member_at every_schema d j)) (sym h.kind) there)
