-- What views of the tables of types see in their fields.
use Rattle.std.proofs.Common.{◌≡◌, ◌∙◌, ℕ, ◌+◌, ◌-◌, ◌<◌, ◌≤◌, if◌then◌else◌, Bool, true, false, List, ◌∷◌, length, drop, Option, Some, sym, ap, subst, arith}
use Rattle.std.specs.Prelude.{slice_get}
use Rattle.std.proofs.lemmas.List.{drop_more}
use Rattle.std.proofs.lemmas.Option.{get_or_from_slice_get, slice_get_within}
use Rattle.vx_flat.specs.declared.schema.FieldKind.{FieldKind}
use Rattle.vx_flat.specs.declared.viewing.View.{View}
use Rattle.vx_flat.specs.declared.viewing.VectorView.{VectorView}
use Rattle.vx_flat.specs.Entries.{kind_at}
use Rattle.vx_flat.specs.Schema.{fields_of, table_of, members_of}
use Rattle.vx_flat.specs.SchemaLists.{schema_of}
use Rattle.vx_flat.specs.Seen.{kind_in, table_seen, tag_table, IsViewOf, IsBelow, IsVectorBelow, IsElement}
use Rattle.vx_flat.specs.Value.{Field, number}
use Rattle.vx_flat.proofs.LawsOfViews.{kind-of, place-within}
use Rattle.vx_types.specs.declared.nullability.Nullability.TheVariants.{NonNullable, Nullable}
use Rattle.vx_type_wire.specs.Reading.{truth_in, nullability_in}
use Rattle.vx_type_wire.specs.Schema.{type_schema, type_members}
use Rattle.vx_type_wire.specs.Viewing.{HasField, IsMemberView}

-- A field is of the kind that its table has.
pub of_kind : (T : ℕ) (v : View) → IsViewOf type_schema T v → (i : ℕ) (P : Option FieldKind → Type 0)
    → P (kind_at (fields_of type_schema T) i) → P (kind_in v i)
of_kind T v h i P p = subst P (sym (kind-of type_schema T v h i)) p

pub has_field : (T : ℕ) (v : View) → IsViewOf type_schema T v → (i : ℕ) (k : FieldKind)
    → kind_at (fields_of type_schema T) i ≡ Some k → HasField v i k
has_field T v h i k e = record { schema = h.schema; kind = kind-of type_schema T v h i ∙ e }

-- A member's view is of the table of its tag.
pub member_is : (g T : ℕ) (v : View) → IsMemberView g v → table_of type_members g ≡ Some T → IsViewOf type_schema T v
member_is g T v h e =
    let same : Some T ≡ Some v.table = sym e ∙ h.table in
    record { schema = h.schema; table = cc }

-- ---- flags

pub flag_truth : (f : Field) (b : Bool) → f ≡ number (if b then 1 else 0) → truth_in f ≡ Some b
flag_truth f true e = ap truth_in e
flag_truth f false e = ap truth_in e

pub flag_nullable : (f : Field) (b : Bool) → b ≡ true → f ≡ number (if b then 1 else 0) → nullability_in f ≡ Some Nullable
flag_nullable f true p e = ap nullability_in e
flag_nullable f false p e = absurd cc

pub flag_not_nullable : (f : Field) (b : Bool) → b ≡ false → f ≡ number (if b then 1 else 0)
    → nullability_in f ≡ Some NonNullable
flag_not_nullable f true p e = absurd cc
flag_not_nullable f false p e = ap nullability_in e

-- ---- lists, element by element

pub drop_next : {A : Type 0} (xs : List A) (i : ℕ) (x : A) → slice_get xs i ≡ Some x → drop i xs ≡ x ∷ drop (i + 1) xs
drop_next xs i x e =
    drop_more xs i x (slice_get_within xs i x e)
    ∙ ap (λ y. y ∷ drop (i + 1) xs) (get_or_from_slice_get xs i x x e)

-- ---- a part lies past its table

abbrev pub bytes_from : View → ℕ
bytes_from v = length v.message.now - v.place

abbrev pub bytes_after : VectorView → ℕ
bytes_after v = length v.message.now - v.place

pub below_less : (v w : View) → IsBelow v w → bytes_from w < bytes_from v
below_less v w h =
    let e : length w.message.now ≡ length v.message.now = ap (λ m. length m.now) h.message in
    omega (arith, place-within v, e, h.later)

pub vector_less : (v : View) (w : VectorView) → IsVectorBelow v w → bytes_after w < bytes_from v
vector_less v w h =
    let e : length w.message.now ≡ length v.message.now = ap (λ m. length m.now) h.message in
    omega (arith, place-within v, e, h.later)

pub element_less : (v : VectorView) (w : View) → IsElement v w → bytes_from w ≤ bytes_after v
element_less v w h =
    let e : length w.message.now ≡ length v.message.now = ap (λ m. length m.now) h.message in
    omega (arith, e, h.later)

-- ---- members

pub known_member : (v w : View) (g : ℕ) → IsViewOf type_schema 0 v → tag_table v (kind_in v 0) g ≡ Some (table_seen w)
    → IsBelow v w → IsMemberView g w
known_member v w g h member below =
    let k = kind-of type_schema 0 v h 0 in
    let e = sym (ap (λ k. tag_table v k g) k) ∙ member in
    record {
      schema = ap (λ l. schema_of l.now) below.schema ∙ h.schema;
      table = sym (ap (λ s. table_of (members_of s 0) g) h.schema) ∙ e;
    }
