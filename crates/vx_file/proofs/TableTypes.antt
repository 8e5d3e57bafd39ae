-- When a type is that of tables.
use Rattle.std.proofs.Common.{ℕ, zero, suc, ◌≡◌, ◌<◌, List, [], ◌∷◌, Option, Some, None, length, IsTrue, sym, ap, ◌∙◌, subst, arith}
use Rattle.std.specs.Prelude.{nat_eq, slice_get}
use Rattle.std.proofs.lemmas.Bool.{eqb-true, eq-eqb}
use Rattle.std.proofs.lemmas.Option.{none-some}
use Rattle.vx_trees.specs.Rose.{node, roses_of, roses_list}
use Rattle.vx_trees.proofs.Lists.{roses_list-roses_of}
use Rattle.vx_types.specs.Kind.{structure}
use Rattle.vx_types.specs.Typ.{Typ}
use Rattle.vx_types.specs.declared.nullability.Nullability.{Nullability}
use Rattle.vx_types.specs.declared.nullability.Nullability.TheVariants.{NonNullable, Nullable}
use Rattle.vx_file.specs.Shows.{IsTableType, field_types}

some_same : (x y : List Typ) → ◌≡◌ {A = Option (List Typ)} (Some x) (Some y) → x ≡ y
some_same x y e = cc

count_in : (columns : ℕ) (ns : List (List ℕ)) (types : List Typ) → IsTableType columns (node (structure ns NonNullable) (roses_of types)) → length types ≡ columns
count_in columns ns types x = ap length (sym (roses_list-roses_of types) ∙ some_same (roses_list (roses_of types)) x.fields x.fields_are) ∙ x.count

-- A structure of which no row is null is that of as many columns as it has fields, and of no other number.
pub table_by_count : (d : Typ) (ns : List (List ℕ)) (types : List Typ) (n columns : ℕ) → d ≡ node (structure ns NonNullable) (roses_of types) → n ≡ length types
    → (IsTrue (nat_eq n columns) → IsTableType columns d) × (IsTableType columns d → IsTrue (nat_eq n columns))
table_by_count d ns types n columns e len = (
  λ t.
      let P : Typ → Type 0 = λ z. IsTableType columns z in
      subst P (sym e) (record { fields = types; fields_are = ap (λ z. Some z) (roses_list-roses_of types); count = sym len ∙ eqb-true n columns t }),
  λ x.
      let P : Typ → Type 0 = λ z. IsTableType columns z in
      eq-eqb n columns (len ∙ count_in columns ns types (subst P e x)),
)

-- The same by a nullability.
pub table_by_kind : (ns : List (List ℕ)) (m : Nullability) (types : List Typ) (n columns : ℕ) → m ≡ NonNullable → n ≡ length types
    → (IsTrue (nat_eq n columns) → IsTableType columns (node (structure ns m) (roses_of types))) × (IsTableType columns (node (structure ns m) (roses_of types)) → IsTrue (nat_eq n columns))
table_by_kind ns m types n columns e len =
    table_by_count (node (structure ns m) (roses_of types)) ns types n columns (ap (λ k. node (structure ns k) (roses_of types)) e) len

-- ---- fields

-- The fields of a type of tables.
record HasTypes (columns : ℕ) (types : List Typ) (d : Typ) : Type 0 where
  many : length types ≡ columns
  same : (fields : List Typ) → field_types d ≡ Some fields → fields ≡ types

has_types : (columns : ℕ) (ns : List (List ℕ)) (m : Nullability) (types : List Typ) → IsTableType columns (node (structure ns m) (roses_of types)) → HasTypes columns types (node (structure ns m) (roses_of types))
has_types columns ns NonNullable types x = record {
  many = count_in columns ns types x;
  same = λ fields e. some_same fields (roses_list (roses_of types)) (sym e) ∙ roses_list-roses_of types;
}
has_types columns ns Nullable types x = absurd (no_fields x.fields x.fields_are)
  where
    no_fields : (fields : List Typ) → ◌≡◌ {A = Option (List Typ)} None (Some fields) → ⊥
    no_fields fields e = cc

has_types_as : (columns : ℕ) (ns : List (List ℕ)) (m : Nullability) (types : List Typ) (d : Typ) → d ≡ node (structure ns m) (roses_of types) → IsTableType columns d → HasTypes columns types d
has_types_as columns ns m types d e x =
    let P : Typ → Type 0 = λ z. IsTableType columns z in
    let Q : Typ → Type 0 = λ z. HasTypes columns types z in
    subst Q (sym e) (has_types columns ns m types (subst P e x))

-- A list has an element at each place within it.
never_none : (xs : List Typ) (i : ℕ) → i < length xs → None ≡ slice_get xs i → ⊥
never_none [] i h e = absurd (omega (arith, h))
never_none (x ∷ xs) zero h e = none-some x e
never_none (x ∷ xs) (suc i) h e = never_none xs i (omega (arith, h)) e

-- A column of such a type has a field.
pub never_missing : (columns column : ℕ) (ns : List (List ℕ)) (m : Nullability) (types all : List Typ) (d : Typ) → d ≡ node (structure ns m) (roses_of types) → IsTableType columns d → column < columns → all ≡ types
    → None ≡ slice_get all column → ⊥
never_missing columns column ns m types all d e x within same none =
    let has = has_types_as columns ns m types d e x in
    never_none all column (omega (arith, ap length same, has.many, within)) none

-- The field that is found is of the type in its place.
pub field_found : (columns column : ℕ) (ns : List (List ℕ)) (m : Nullability) (types all : List Typ) (d found : Typ) → d ≡ node (structure ns m) (roses_of types) → IsTableType columns d → all ≡ types
    → Some found ≡ slice_get all column → (fields : List Typ) → field_types d ≡ Some fields → slice_get fields column ≡ Some found
field_found columns column ns m types all d found e x same is fields f =
    let has = has_types_as columns ns m types d e x in
    ap (λ z. slice_get z column) (has.same fields f ∙ sym same) ∙ sym is
