-- The metadata of lists: bytes that show the number of elements and a kind of integers, whatever the type and the
-- readers.
use Rattle.std.proofs.Common.{ℕ, ◌≡◌, ◌^◌, ◌≤◌, ◌<◌, ◌==◌, ◌+◌, ◌++◌, Bool, true, false, if◌then◌else◌, List, [], length, length-append, IsTrue, refl, sym, ap, ◌∙◌, subst, arith}
use Rattle.vx_types.specs.Known.{ExtMeaning}
use Rattle.vx_numbers.specs.Numbers.{code_of, is_integer}
use Rattle.vx_types.specs.Typ.{Typ}
use Rattle.vx_numbers.specs.declared.ptype.PType.{PType}
use Rattle.vx_proto.specs.Form.{HasForm}
use Rattle.vx_proto.specs.Reads.{Reads}
use Rattle.vx_proto.specs.Written.{written, varint_bytes}
use Rattle.vx_proto.proofs.LawsOfMessages.{reads_one, written_shown}
use Rattle.vx_proto.proofs.LawsOfParts.{whole_form}
use Rattle.vx_proto.proofs.LawsOfBytes.{varint_spelled}
use Rattle.vx_array_tree.specs.Encoding as E
use Rattle.vx_array_tree.specs.Metadata.{Metadata}
use Rattle.vx_array_tree.specs.Metadata as M
use Rattle.vx_array_tree.specs.Table.{IsFair}
use Rattle.vx_wire_tree.specs.Fields.{Fields}
use Rattle.vx_wire_tree.specs.Fields as F
use Rattle.vx_wire_tree.specs.Reads.{IsMetadata}
use Rattle.vx_encodings.proofs.OffsetKinds.{few_kinds}
use Rattle.vx_encodings.specs.ListMessage.{ShowsList, list_schema, list_parts, list_value, list_bytes, same_count, same_kinds}
use Rattle.vx_encodings.specs.Messages.{codec}

-- Bytes are read as one number of elements and one kind at most.
one_value : (bytes : List ℕ) (n m : ℕ) (p q : PType) → Reads list_schema 0 bytes (list_value n p) → Reads list_schema 0 bytes (list_value m q) → list_value n p ≡ list_value m q
one_value bytes n m p q r s = reads_one list_schema 0 bytes (list_value n p) (list_value m q) r s

pub one_count_and_kind : (bytes : List ℕ) (f g : Fields) → ShowsList bytes f → ShowsList bytes g → f ≡ g
one_count_and_kind bytes f g a b =
    let e = one_value bytes a.elements_len b.elements_len a.offset_ptype b.offset_ptype a.reads b.reads in
    a.fields_are
    ∙ ap (λ (n : ℕ). F.list n a.offset_ptype) (same_count a.elements_len b.elements_len a.offset_ptype b.offset_ptype e)
    ∙ ap (λ (p : PType). F.list b.elements_len p) (same_kinds a.elements_len b.elements_len a.offset_ptype b.offset_ptype e)
    ∙ sym b.fields_are

-- A number of elements below 2^64 and a kind have the form of the message.
pub list_formed : (n : ℕ) (p : PType) → n < 2 ^ 64 → HasForm list_schema 0 (list_value n p)
list_formed n p lt = whole_form list_schema 0 list_parts (n, (code_of p, tt)) ((n, refl, lt), ((code_of p, refl, few_kinds p), tt))

-- Two slots that hold a number of elements and the code of a kind are the plain value of both.
pub both_numbers : (n m : ℕ) (p : PType) (k : ℕ) → n ≡ m → code_of p ≡ k → list_value n p ≡ list_parts.value (m, (k, tt))
both_numbers n m p k e f = λ i. list_parts.value (e i, (f i, tt))

-- A field is a key and a varint at most, and after it stands the rest.
pub field_short : (b : Bool) (key n : ℕ) (rest : List ℕ) (m : ℕ) → key < 2 ^ 64 → n < 2 ^ 64 → length rest ≤ m → length (((if b then [] else varint_bytes key ++ varint_bytes n) ++ []) ++ rest) ≤ 20 + m
field_short true key n rest m k l h = omega (arith, h)
field_short false key n rest m k l h =
    omega (
      arith,
      h,
      length-append ((varint_bytes key ++ varint_bytes n) ++ []) rest,
      length-append (varint_bytes key ++ varint_bytes n) [],
      length-append (varint_bytes key) (varint_bytes n),
      (varint_spelled key k).short,
      (varint_spelled n l).short,
    )

short : (n : ℕ) (p : PType) → n < 2 ^ 64 → length (list_bytes n p) < 2 ^ 64
unfolding written
short n p lt =
    let lk = few_kinds p in
    let y = field_short (code_of p == 0) 16 (code_of p) [] 0 (omega arith) (omega (arith, lk)) (omega arith) in
    let few : length (list_bytes n p) ≤ 40 = field_short (n == 0) 8 n _ 20 (omega arith) lt y in
    omega (arith, few)

-- What is written of them is read as these.
pub list_again : (n : ℕ) (p : PType) → n < 2 ^ 64 → ShowsList (list_bytes n p) (F.list n p)
list_again n p lt = record {
  elements_len = n;
  offset_ptype = p;
  reads = written_shown list_schema 0 (list_value n p) refl (list_formed n p lt) (omega arith) (short n p lt);
  fields_are = refl;
}

-- Bytes that show a kind of integers are metadata of lists.
pub list_metadata : (x : ExtMeaning) (d : Typ) (bytes : List ℕ) (n : ℕ) (p : PType) → Reads list_schema 0 bytes (list_value n p) → IsTrue (is_integer p)
    → IsMetadata codec x E.list d bytes (M.list (record { elements_len = n; offset_ptype = p }))
list_metadata x d bytes n p r h = record {
  fields = F.list n p;
  shown = record { elements_len = n; offset_ptype = p; reads = r; fields_are = refl };
  meaning = refl;
  fair = h;
  known = tt;
}

-- What this metadata is read as: a number of elements and a kind of integers that the bytes show.
pub record ReadsList (bytes : List ℕ) (v : Metadata) : Type 0 where
  pub elements_len : ℕ
  pub offset_ptype : PType
  pub reads : Reads list_schema 0 bytes (list_value elements_len offset_ptype)
  pub value_is : v ≡ M.list (record { elements_len = elements_len; offset_ptype = offset_ptype })
  pub integer : IsTrue (is_integer offset_ptype)

meant_list : (d : Typ) (f : Fields) (n : ℕ) (p : PType) (v : Metadata) → f ≡ F.list n p → F.meant d f ≡ v → v ≡ M.list (record { elements_len = n; offset_ptype = p })
meant_list d f n p v e m = sym m ∙ ap (λ (z : Fields). F.meant d z) e

pub list_read : (x : ExtMeaning) (d : Typ) (bytes : List ℕ) (v : Metadata) → IsMetadata codec x E.list d bytes v → ReadsList bytes v
list_read x d bytes v m =
    let e = meant_list d m.fields m.shown.elements_len m.shown.offset_ptype v m.shown.fields_are m.meaning in
    record {
      elements_len = m.shown.elements_len;
      offset_ptype = m.shown.offset_ptype;
      reads = m.shown.reads;
      value_is = e;
      integer = subst (λ (z : Metadata). IsFair E.list z) e m.fair;
    }

-- Bytes that show another kind are no metadata.
pub list_kind_is_integer : (x : ExtMeaning) (d : Typ) (bytes : List ℕ) (v : Metadata) (n : ℕ) (p : PType) → IsMetadata codec x E.list d bytes v → Reads list_schema 0 bytes (list_value n p) → IsTrue (is_integer p)
list_kind_is_integer x d bytes v n p m r =
    let k = list_read x d bytes v m in
    let e = one_value bytes k.elements_len n k.offset_ptype p k.reads r in
    subst (λ (q : PType). IsTrue (is_integer q)) (same_kinds k.elements_len n k.offset_ptype p e) k.integer
