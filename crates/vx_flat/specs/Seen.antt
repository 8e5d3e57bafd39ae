-- What a view sees.
use Rattle.std.specs.Prelude.{◌≡◌, ℕ, ◌<◌, List, Option, Some, None}
use Rattle.vx_flat.specs.declared.schema.FieldKind.{FieldKind}
use Rattle.vx_flat.specs.declared.viewing.View.{View}
use Rattle.vx_flat.specs.declared.viewing.VectorView.{VectorView}
use Rattle.vx_flat.specs.declared.viewing.UnionPart.{UnionPart}
use Rattle.vx_flat.specs.declared.viewing.UnionPart.TheVariants as part
use Rattle.vx_flat.specs.declared.schema.FieldKind.TheVariants.{Union}
use Rattle.vx_flat.specs.Schema.{Schema, fields_of, members_of, table_of}
use Rattle.vx_flat.specs.SchemaLists.{schema_of}
use Rattle.vx_flat.specs.Value.{Field, absent, member, unknown, Fields, no_fields}
use Rattle.vx_flat.specs.Reading.{table_shown}
use Rattle.vx_flat.specs.Shows.{Shows, ShowsAt}
use Rattle.vx_flat.specs.Places.{u32_at}
use Rattle.vx_flat.specs.Weight.{Weight, weight}
use Rattle.vx_flat.specs.Entries.{kind_at, part_at}
use Rattle.vx_flat.specs.Parts.{elements_of_kind, element_size, MemberPlace, member_at}

-- A table that shows nothing has no fields.
abbrev pub fields_or_none : Option Fields → Fields
fields_or_none None = no_fields
fields_or_none (Some vs) = vs

-- A vector that shows nothing is absent.
abbrev pub field_or_absent : Option Field → Field
field_or_absent None = absent
field_or_absent (Some v) = v

-- The schema of the message, its bytes, and what it weighs.
abbrev pub schema_in : View → Schema
schema_in v = schema_of v.schema.now

abbrev pub message_seen : View → List ℕ
message_seen v = v.message.now

abbrev pub weight_seen : View → Weight
weight_seen v = v.weight

-- The index of the view's table, and its place in the message.
abbrev pub table_seen : View → ℕ
table_seen v = v.table

abbrev pub place_seen : View → ℕ
place_seen v = v.place

-- The fields of the view's table.
abbrev pub kinds_in : View → List FieldKind
kinds_in v = fields_of (schema_in v) v.table

-- The value that the view's table shows.
abbrev pub seen : View → Fields
seen v = fields_or_none (table_shown (schema_in v) v.message.now v.place v.table)

-- The kind of the field whose first entry is i.
abbrev pub kind_in : View → ℕ → Option FieldKind
kind_in v i = kind_at (kinds_in v) i

-- Its value.
abbrev pub part_in : View → ℕ → Field
part_in v i = part_at (kinds_in v) (seen v) i

-- The kind of a vector, and the number of its elements.
abbrev pub kind_seen : VectorView → FieldKind
kind_seen v = v.kind

abbrev pub count_seen : VectorView → ℕ
count_seen v = v.count

-- The size of its elements, and where the member j of an element lies in it.
abbrev pub size_seen : VectorView → ℕ
size_seen v = element_size (schema_of v.schema.now) v.kind

abbrev pub member_seen : VectorView → ℕ → Option MemberPlace
member_seen v j = member_at (schema_of v.schema.now) v.kind j

-- The value of a vector.
abbrev pub vector_seen : VectorView → Field
vector_seen v =
    field_or_absent
    (elements_of_kind (schema_of v.schema.now) (λ q T. table_shown (schema_of v.schema.now) v.message.now q T)
    v.message.now v.kind v.place)

-- A view of a later place of the same message.
pub record IsBelow (v w : View) : Type 0 where
  pub message : w.message ≡ v.message
  pub schema : w.schema ≡ v.schema
  pub weight : w.weight ≡ v.weight
  pub later : v.place < w.place

-- A vector at a later place of the same message.
pub record IsVectorBelow (v : View) (w : VectorView) : Type 0 where
  pub message : w.message ≡ v.message
  pub schema : w.schema ≡ v.schema
  pub weight : w.weight ≡ v.weight
  pub later : v.place < w.place

-- A table at a later place than the vector that it is an element of.
pub record IsElement (v : VectorView) (w : View) : Type 0 where
  pub message : w.message ≡ v.message
  pub schema : w.schema ≡ v.schema
  pub weight : w.weight ≡ v.weight
  pub later : v.place < w.place

-- The part of a union is its value: no member, a member with its table, or a tag without one.
abbrev pub IsPart : View → UnionPart → Field → Type 0
IsPart v part.None f = f ≡ absent
IsPart v (part.Known g w) f = (f ≡ member g (seen w)) × IsBelow v w
IsPart v (part.Unknown g) f = f ≡ unknown g

-- The table of a union's tag.
abbrev pub tag_table : View → Option FieldKind → ℕ → Option ℕ
tag_table v (Some (Union u)) g = table_of (members_of (schema_in v) u) g
tag_table v _ g = None

-- A member's table is that of its tag.
abbrev pub HasMember : View → ℕ → UnionPart → Type 0
HasMember v i part.None = Unit {0}
HasMember v i (part.Known g w) = tag_table v (kind_in v i) g ≡ Some w.table
HasMember v i (part.Unknown g) = tag_table v (kind_in v i) g ≡ None

-- A view of the place t of a message, where the root table of a schema is shown. Its weight is w.
pub record IsViewAt (s : Schema) (m : List ℕ) (t : ℕ) (w : Weight) (v : View) : Type 0 where
  pub schema : schema_in v ≡ s
  pub message : v.message.now ≡ m
  pub table : v.table ≡ s.root
  pub place : v.place ≡ t
  pub weight : v.weight ≡ w
  pub shows : ShowsAt s m t s.root (seen v)

-- A view of a message's root: the message shows what it sees. Its weight is the message's.
abbrev pub IsRootView : Schema → List ℕ → View → Type 0
IsRootView s m v = Shows s m (seen v) × IsViewAt s m (u32_at m 0) (weight s m) v

-- A view of a table of a schema.
pub record IsViewOf (s : Schema) (T : ℕ) (v : View) : Type 0 where
  pub schema : schema_in v ≡ s
  pub table : v.table ≡ T

-- A view of a vector of this kind, in a message of a schema.
pub record IsVectorOf (s : Schema) (k : FieldKind) (v : VectorView) : Type 0 where
  pub schema : schema_of v.schema.now ≡ s
  pub kind : kind_seen v ≡ k
