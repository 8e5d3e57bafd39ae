-- The metadata of list views: bytes that show the number of elements and two kinds of integers, whatever the type and
-- the readers.
use Rattle.std.proofs.Common.{ℕ, ◌≡◌, ◌^◌, ◌≤◌, ◌<◌, ◌==◌, List, [], length, refl, sym, ap, ◌∙◌, subst, arith}
use Rattle.vx_types.specs.Known.{ExtMeaning}
use Rattle.vx_numbers.specs.Numbers.{code_of}
use Rattle.vx_types.specs.Typ.{Typ}
use Rattle.vx_proto.specs.Form.{HasForm}
use Rattle.vx_proto.specs.Reads.{Reads}
use Rattle.vx_proto.specs.Written.{written}
use Rattle.vx_proto.proofs.LawsOfMessages.{reads_one, written_shown}
use Rattle.vx_proto.proofs.LawsOfParts.{whole_form}
use Rattle.vx_array_tree.specs.Encoding as E
use Rattle.vx_array_tree.specs.Encodings.ListViews as ListViews
use Rattle.vx_array_tree.specs.Metadata.{Metadata}
use Rattle.vx_array_tree.specs.Metadata as M
use Rattle.vx_array_tree.specs.Table.{IsFair}
use Rattle.vx_wire_tree.specs.Fields.{Fields}
use Rattle.vx_wire_tree.specs.Fields as F
use Rattle.vx_wire_tree.specs.Reads.{IsMetadata}
use Rattle.vx_encodings.proofs.ElementCounts.{field_short}
use Rattle.vx_encodings.proofs.OffsetKinds.{few_kinds}
use Rattle.vx_encodings.specs.ListViewMessage.{ShowsListView, view_schema, view_parts, view_value, view_fields, view_bytes, same_views}
use Rattle.vx_encodings.specs.Messages.{codec}

-- Bytes are read as one metadata at most.
pub one_views : (bytes : List ℕ) (v w : ListViews.Metadata) → Reads view_schema 0 bytes (view_value v) → Reads view_schema 0 bytes (view_value w) → v ≡ w
one_views bytes v w r s = same_views v w (reads_one view_schema 0 bytes (view_value v) (view_value w) r s)

pub one_count_and_kinds : (bytes : List ℕ) (f g : Fields) → ShowsListView bytes f → ShowsListView bytes g → f ≡ g
one_count_and_kinds bytes f g a b = a.fields_are ∙ ap (λ (v : ListViews.Metadata). view_fields v) (one_views bytes a.value b.value a.reads b.reads) ∙ sym b.fields_are

-- A number of elements below 2^64 and two kinds have the form of the message.
pub views_formed : (v : ListViews.Metadata) → v.elements_len < 2 ^ 64 → HasForm view_schema 0 (view_value v)
views_formed v lt =
    whole_form view_schema 0 view_parts (v.elements_len, (code_of v.offset_ptype, (code_of v.size_ptype, tt)))
    ((v.elements_len, refl, lt), ((code_of v.offset_ptype, refl, few_kinds v.offset_ptype), ((code_of v.size_ptype, refl, few_kinds v.size_ptype), tt)))

-- Three slots that hold a number of elements and the codes of two kinds are their plain value.
pub three_numbers : (v : ListViews.Metadata) (m k l : ℕ) → v.elements_len ≡ m → code_of v.offset_ptype ≡ k → code_of v.size_ptype ≡ l → view_value v ≡ view_parts.value (m, (k, (l, tt)))
three_numbers v m k l e f g = λ i. view_parts.value (e i, (f i, (g i, tt)))

short : (v : ListViews.Metadata) → v.elements_len < 2 ^ 64 → length (view_bytes v) < 2 ^ 64
unfolding written
short v lt =
    let lp = few_kinds v.offset_ptype in
    let lq = few_kinds v.size_ptype in
    let z = field_short (code_of v.size_ptype == 0) 24 (code_of v.size_ptype) [] 0 (omega arith) (omega (arith, lq)) (omega arith) in
    let y = field_short (code_of v.offset_ptype == 0) 16 (code_of v.offset_ptype) _ 20 (omega arith) (omega (arith, lp)) z in
    let few : length (view_bytes v) ≤ 60 = field_short (v.elements_len == 0) 8 v.elements_len _ 40 (omega arith) lt y in
    omega (arith, few)

-- What is written of them is read as these.
pub views_again : (v : ListViews.Metadata) → v.elements_len < 2 ^ 64 → ShowsListView (view_bytes v) (view_fields v)
views_again v lt = record {
  value = v;
  reads = written_shown view_schema 0 (view_value v) refl (views_formed v lt) (omega arith) (short v lt);
  fields_are = refl;
}

-- Bytes that show kinds of integers are metadata of list views.
pub views_metadata : (x : ExtMeaning) (d : Typ) (bytes : List ℕ) (v : ListViews.Metadata) → Reads view_schema 0 bytes (view_value v) → ListViews.IsFair v → IsMetadata codec x E.listview d bytes (M.listview v)
views_metadata x d bytes v r h = record {
  fields = view_fields v;
  shown = record { value = v; reads = r; fields_are = refl };
  meaning = refl;
  fair = h;
  known = tt;
}

-- What this metadata is read as: a number of elements and two kinds of integers that the bytes show.
pub record ReadsViews (bytes : List ℕ) (w : Metadata) : Type 0 where
  pub value : ListViews.Metadata
  pub reads : Reads view_schema 0 bytes (view_value value)
  pub value_is : w ≡ M.listview value
  pub fair : ListViews.IsFair value

meant_views : (d : Typ) (f : Fields) (v : ListViews.Metadata) (w : Metadata) → f ≡ view_fields v → F.meant d f ≡ w → w ≡ M.listview v
meant_views d f v w e m = sym m ∙ ap (λ (z : Fields). F.meant d z) e

pub views_read : (x : ExtMeaning) (d : Typ) (bytes : List ℕ) (w : Metadata) → IsMetadata codec x E.listview d bytes w → ReadsViews bytes w
views_read x d bytes w m =
    let e = meant_views d m.fields m.shown.value w m.shown.fields_are m.meaning in
    record { value = m.shown.value; reads = m.shown.reads; value_is = e; fair = subst (λ (z : Metadata). IsFair E.listview z) e m.fair }

-- Bytes that show other kinds are no metadata.
pub views_fair : (x : ExtMeaning) (d : Typ) (bytes : List ℕ) (w : Metadata) (v : ListViews.Metadata) → IsMetadata codec x E.listview d bytes w → Reads view_schema 0 bytes (view_value v) → ListViews.IsFair v
views_fair x d bytes w v m r =
    let k = views_read x d bytes w m in
    subst (λ (z : ListViews.Metadata). ListViews.IsFair z) (one_views bytes k.value v k.reads r) k.fair
