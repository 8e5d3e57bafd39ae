-- Which views are of the tables of types.
use Rattle.std.specs.Prelude.{◌≡◌, ℕ, Some}
use Rattle.vx_flat.specs.declared.schema.FieldKind.{FieldKind}
use Rattle.vx_flat.specs.declared.schema.FieldKind.TheVariants.{Tables}
use Rattle.vx_flat.specs.declared.viewing.View.{View}
use Rattle.vx_flat.specs.declared.viewing.VectorView.{VectorView}
use Rattle.vx_flat.specs.Schema.{table_of}
use Rattle.vx_flat.specs.Seen.{schema_in, kind_in, table_seen, IsVectorOf}
use Rattle.vx_type_wire.specs.Schema.{type_schema, type_members}

-- A field of this kind, in a table of a message that shows a type.
pub record HasField (v : View) (field : ℕ) (k : FieldKind) : Type 0 where
  pub schema : schema_in v ≡ type_schema
  pub kind : kind_in v field ≡ Some k

-- The table of the union's member with this tag.
pub record IsMemberView (tag : ℕ) (v : View) : Type 0 where
  pub schema : schema_in v ≡ type_schema
  pub table : table_of type_members tag ≡ Some (table_seen v)

-- The tables of types, one after the other.
abbrev pub IsTypesView : VectorView → Type 0
IsTypesView v = IsVectorOf type_schema (Tables 0) v
