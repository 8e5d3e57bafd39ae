-- What views see, for the readers of tables in other crates.
use Rattle.std.proofs.Common.{◌≡◌, ℕ, ◌<◌, List, length, Some, sym, ap, subst, ◌∙◌}
use Rattle.std.specs.Prelude.{slice_get}
use Rattle.vx_flat.specs.declared.schema.FieldKind.{FieldKind}
use Rattle.vx_flat.specs.declared.schema.FieldKind.TheVariants.{Texts, Table, Tables}
use Rattle.vx_flat.specs.declared.viewing.View.{View}
use Rattle.vx_flat.specs.declared.viewing.VectorView.{VectorView}
use Rattle.vx_flat.specs.Entries.{from_parts, kind_at}
use Rattle.vx_flat.specs.Parts.{HasElements, element_size, elements_of_kind, text_in, table_in}
use Rattle.vx_flat.specs.Reading.{table_shown, text_shown, vector_shown}
use Rattle.vx_flat.specs.Schema.{Schema, with_root, fields_of}
use Rattle.vx_flat.specs.SchemaLists.{schema_of}
use Rattle.vx_flat.specs.Seen.{seen, kinds_in, part_in, vector_seen, field_or_absent, kind_seen, count_seen, size_seen, place_seen, message_seen, table_seen, schema_in, kind_in}
use Rattle.vx_flat.specs.Seen.{IsViewOf, IsVectorOf, IsBelow, IsVectorBelow, IsElement}
use Rattle.vx_flat.specs.Shows.{ShowsAt}
use Rattle.vx_flat.specs.Value.{Field, Fields, texts, tables}
use Rattle.vx_flat.specs.View.{rows_from}
use Rattle.vx_flat.proofs.AnyRoot.{shown_at_root}
use Rattle.vx_flat.proofs.ReadingViews.{view_parts, strings_are, texts_whole, tables_are, tables_whole}
use Rattle.vx_flat.proofs.Seeing.{view_inline}
use Rattle.vx_flat.proofs.SeeingElements.{have}
-- The tables, or the texts, that a field holds.
pub use Rattle.vx_flat.proofs.ReadingViews.{tables_in, strings_in}

-- What a view sees is its parts, in the order of the fields.
pub seen-parts : (v : View) → seen v ≡ from_parts (kinds_in v) (λ i. part_in v i) 0
seen-parts v = view_parts v

-- A view's table lies in its message.
pub place-within : (v : View) → place_seen v < length (message_seen v)
place-within v = (view_inline v).1

-- What a place shows does not depend on which table is the root. So a view of a table is also a view
-- of the kind with the same tables and that table as its root.
pub shown-with_root : (s : Schema) (r : ℕ) (m : List ℕ) (t T : ℕ) (v : Fields) → ShowsAt s m t T v
    → ShowsAt (with_root s r) m t T v
shown-with_root s r m t T v h = shown_at_root s r m t T v h

-- ---- going down

module _ (s : Schema) (T : ℕ) (v : View) (h : IsViewOf s T v) where
  -- The fields of a view of a table are the table's.
  pub kinds-of : kinds_in v ≡ fields_of s T
  kinds-of = ap (λ s. fields_of s v.table) h.schema ∙ ap (λ U. fields_of s U) h.table

  pub kind-of : (i : ℕ) → kind_in v i ≡ kind_at (fields_of s T) i
  kind-of i = ap (λ ks. kind_at ks i) kinds-of

  -- What it sees is the parts of these.
  pub seen-of : seen v ≡ from_parts (fields_of s T) (λ i. part_in v i) 0
  seen-of = seen-parts v ∙ ap (λ ks. from_parts ks (λ i. part_in v i) 0) kinds-of

-- The table in a field of tables of a kind, the vector in a field, and the table of an element.
pub table-of : (s : Schema) (v w : View) (i U : ℕ) → schema_in v ≡ s → kind_in v i ≡ Some (Table U)
    → IsBelow v w → kind_in v i ≡ Some (Table (table_seen w)) → IsViewOf s U w
table-of s v w i U is k b e =
    let same : Some (Table U) ≡ Some (Table w.table) = sym k ∙ e in
    record { schema = ap (λ l. schema_of l.now) b.schema ∙ is; table = cc }

pub vector-of : (s : Schema) (v : View) (w : VectorView) (i : ℕ) (k : FieldKind) → schema_in v ≡ s → kind_in v i ≡ Some k
    → IsVectorBelow v w → kind_in v i ≡ Some (kind_seen w) → IsVectorOf s k w
vector-of s v w i k is p b e =
    let same : Some k ≡ Some w.kind = sym p ∙ e in
    record { schema = ap (λ l. schema_of l.now) b.schema ∙ is; kind = cc }

pub element-of : (s : Schema) (U : ℕ) (v : VectorView) (w : View) → IsVectorOf s (Tables U) v → IsElement v w
    → kind_seen v ≡ Tables (table_seen w) → IsViewOf s U w
element-of s U v w h b e =
    let same : Tables U ≡ Tables w.table = sym h.kind ∙ e in
    record { schema = ap (λ l. schema_of l.now) b.schema ∙ h.schema; table = cc }

-- ---- vectors

-- A vector has as many elements as it counts.
pub elements-count : (v : VectorView) → HasElements (size_seen v) (vector_seen v) (count_seen v)
elements-count v =
    let s = schema_of v.schema.now in
    let m = v.message.now in
    subst (λ n. HasElements (size_seen v) (vector_seen v) n) (sym v.counted)
    (have s (λ q T. table_shown s m q T) m v.place v.kind v.shown).1

-- A vector of strings is its strings, as many as it counts.
pub strings-whole : (v : VectorView) → kind_seen v ≡ Texts
    → (texts (strings_in (vector_seen v)) ≡ vector_seen v) × (length (strings_in (vector_seen v)) ≡ count_seen v)
strings-whole v is =
    let s = schema_of v.schema.now in
    let m = v.message.now in
    let whole = ap (λ k. field_or_absent (elements_of_kind s (λ q T. table_shown s m q T) m k v.place)) is in
    let four = subst (λ k. HasElements (element_size s k) (vector_seen v) v.count) is (elements-count v) in
    texts_whole (vector_seen v) (vector_shown (λ q. text_shown m q) m v.place) whole v.count four

-- The string of an element is that one of the strings.
pub string-at : (f : Field) (i : ℕ) (t : List ℕ) → text_in f i ≡ Some t → slice_get (strings_in f) i ≡ Some t
string-at f i t e = strings_are f 0 i t e

-- A vector of tables is its tables, as many as it counts.
pub tables-whole : (v : VectorView) (T : ℕ) → kind_seen v ≡ Tables T
    → (tables (rows_from (tables_in (vector_seen v))) ≡ vector_seen v) × (length (tables_in (vector_seen v)) ≡ count_seen v)
tables-whole v T is =
    let s = schema_of v.schema.now in
    let m = v.message.now in
    let whole = ap (λ k. field_or_absent (elements_of_kind s (λ q T. table_shown s m q T) m k v.place)) is in
    let four = subst (λ k. HasElements (element_size s k) (vector_seen v) v.count) is (elements-count v) in
    tables_whole (vector_seen v) (vector_shown (λ q. table_shown s m q T) m v.place) whole v.count four

-- The table of an element is that one of the tables.
pub table-at : (f : Field) (i : ℕ) (t : Fields) → table_in f i ≡ Some t → slice_get (tables_in f) i ≡ Some t
table-at f i t e = tables_are f i t e
