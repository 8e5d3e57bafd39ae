-- The metadata of dictionaries: bytes that show the number of values, a kind of integers and two flags, whatever the
-- readers.
use Rattle.std.proofs.Common.{ℕ, ◌≡◌, ◌^◌, ◌≤◌, ◌<◌, ◌+◌, ◌-◌, ◌==◌, ◌++◌, Bool, true, false, if◌then◌else◌, Option, Some, None, option_map, List, [], ◌∷◌, length, length-append, IsTrue, refl, sym, ap, ◌∙◌, subst, arith}
use Rattle.vx_types.specs.Known.{ExtMeaning}
use Rattle.vx_numbers.specs.Numbers.{code_of, is_integer}
use Rattle.vx_types.specs.Typ.{Typ}
use Rattle.vx_numbers.specs.declared.ptype.PType.{PType}
use Rattle.vx_proto.specs.declared.schema.ScalarKind.TheVariants.{Uint32, Enum, Flag}
use Rattle.vx_proto.specs.Form.{HasForm}
use Rattle.vx_proto.specs.Parts.{flag_number, number_in}
use Rattle.vx_proto.specs.Reads.{Reads}
use Rattle.vx_proto.specs.Schema.{plain, optional}
use Rattle.vx_proto.specs.Value.{entries_of, number}
use Rattle.vx_proto.specs.Written.{written, written_entries, varint_bytes, nested}
use Rattle.vx_proto.proofs.LawsOfMessages.{reads_one, written_shown}
use Rattle.vx_proto.proofs.LawsOfParts.{IfStands, InRange, slot_with, whole_form}
use Rattle.vx_proto.proofs.LawsOfBytes.{varint_spelled}
use Rattle.vx_array_tree.specs.Encoding as E
use Rattle.vx_array_tree.specs.Metadata.{Metadata}
use Rattle.vx_array_tree.specs.Metadata as M
use Rattle.vx_array_tree.specs.Table.{IsFair}
use Rattle.vx_wire_tree.specs.Fields.{Fields, DictFields}
use Rattle.vx_wire_tree.specs.Fields as F
use Rattle.vx_wire_tree.specs.Reads.{IsMetadata}
use Rattle.vx_encodings.proofs.OffsetKinds.{few_kinds}
use Rattle.vx_encodings.specs.DictMessage.{ShowsDict, dict_schema, dict_parts, dict_value, dict_bytes, flag_back, flag_content, flag_of, flags, kept_of, same_dict}
use Rattle.vx_encodings.specs.Messages.{codec}

-- Bytes are read as one set of fields at most.
one_read : (bytes : List ℕ) (f g : DictFields) → Reads dict_schema 0 bytes (dict_value f) → Reads dict_schema 0 bytes (dict_value g) → f ≡ g
one_read bytes f g r s = same_dict f g (reads_one dict_schema 0 bytes (dict_value f) (dict_value g) r s)

pub one_dict : (bytes : List ℕ) (f g : Fields) → ShowsDict bytes f → ShowsDict bytes g → f ≡ g
one_dict bytes f g a b = a.fields_are ∙ ap (λ (x : DictFields). F.dict x) (one_read bytes a.fields b.fields a.reads b.reads) ∙ sym b.fields_are

-- ---- form

flag_stands : (a : Option Bool) → IfStands (InRange flags) a
flag_stands None = tt
flag_stands (Some true) = (1, refl, omega arith)
flag_stands (Some false) = (0, refl, omega arith)

-- Fields have the form of the message where the values can be counted in it.
pub dict_formed : (f : DictFields) → f.values_len < 2 ^ 32 → HasForm dict_schema 0 (dict_value f)
dict_formed f lt =
    whole_form dict_schema 0 dict_parts (f.values_len, (code_of f.codes_ptype, (f.is_nullable_codes, (f.all_values_referenced, tt))))
    ((f.values_len, refl, lt), ((code_of f.codes_ptype, refl, few_kinds f.codes_ptype), (flag_stands f.is_nullable_codes, (flag_stands f.all_values_referenced, tt))))

-- Equal parts make equal values.
pub fields_value : (n m : ℕ) (p : PType) (k : ℕ) (a b c d : Option Bool) → n ≡ m → code_of p ≡ k → a ≡ b → c ≡ d
    → dict_value (record { values_len = n; codes_ptype = p; is_nullable_codes = a; all_values_referenced = c }) ≡ dict_parts.value (m, (k, (b, (d, tt))))
fields_value n m p k a b c d e f g h =
    λ i. ((1, number (e i)) ∷ []) ∷ ((2, number (f i)) ∷ []) ∷ slot_with flag_content 3 (g i) ∷ slot_with flag_content 4 (h i) ∷ []

-- What a slot of a flag holds is the flag.
pub flag_held : (i : ℕ) (a : Option Bool) → option_map flag_of (number_in (slot_with flag_content i a)) ≡ a
flag_held i None = refl
flag_held i (Some b) = ap (λ (c : Bool). Some c) (flag_back b)

-- ---- what is written

-- A plain number is a key and a varint at most, and so is a flag that is there.
left_out : (b : Bool) (s : List ℕ) → length ((if b then [] else s) ++ []) ≤ length s
left_out true s = omega arith
left_out false s = omega (arith, length-append s [])

count_short : (n : ℕ) → n < 2 ^ 64 → length (written_entries dict_schema (plain 1 Uint32) (entries_of ((1, number n) ∷ []))) ≤ 20
count_short n lt =
    let s = varint_bytes 8 ++ varint_bytes n in
    let few : length (written_entries dict_schema (plain 1 Uint32) (entries_of ((1, number n) ∷ []))) ≤ length s = left_out (n == 0) s in
    omega (arith, few, length-append (varint_bytes 8) (varint_bytes n), (varint_spelled 8 (omega arith)).short, (varint_spelled n lt).short)

kind_short : (n : ℕ) → n < 2 ^ 64 → length (written_entries dict_schema (plain 2 (Enum 11)) (entries_of ((2, number n) ∷ []))) ≤ 20
kind_short n lt =
    let s = varint_bytes 16 ++ varint_bytes n in
    let few : length (written_entries dict_schema (plain 2 (Enum 11)) (entries_of ((2, number n) ∷ []))) ≤ length s = left_out (n == 0) s in
    omega (arith, few, length-append (varint_bytes 16) (varint_bytes n), (varint_spelled 16 (omega arith)).short, (varint_spelled n lt).short)

flag_small : (b : Bool) → flag_number b < 2 ^ 64
flag_small true = omega arith
flag_small false = omega arith

nullable_short : (a : Option Bool) → length (written_entries dict_schema (optional 3 Flag) (entries_of (slot_with flag_content 3 a))) ≤ 20
nullable_short None = omega arith
nullable_short (Some b) =
    let s = varint_bytes 24 ++ varint_bytes (flag_number b) in
    let few : length (written_entries dict_schema (optional 3 Flag) (entries_of (slot_with flag_content 3 (Some b)))) ≤ length s = left_out false s in
    omega (arith, few, length-append (varint_bytes 24) (varint_bytes (flag_number b)), (varint_spelled 24 (omega arith)).short, (varint_spelled (flag_number b) (flag_small b)).short)

referenced_short : (a : Option Bool) → length (written_entries dict_schema (optional 4 Flag) (entries_of (slot_with flag_content 4 a))) ≤ 20
referenced_short None = omega arith
referenced_short (Some b) =
    let s = varint_bytes 32 ++ varint_bytes (flag_number b) in
    let few : length (written_entries dict_schema (optional 4 Flag) (entries_of (slot_with flag_content 4 (Some b)))) ≤ length s = left_out false s in
    omega (arith, few, length-append (varint_bytes 32) (varint_bytes (flag_number b)), (varint_spelled 32 (omega arith)).short, (varint_spelled (flag_number b) (flag_small b)).short)

four : (a b c d : List ℕ) → length (a ++ (b ++ (c ++ (d ++ [])))) ≡ length a + (length b + (length c + length d))
four a b c d = omega (arith, length-append a (b ++ (c ++ (d ++ []))), length-append b (c ++ (d ++ [])), length-append c (d ++ []), length-append d [])

short : (f : DictFields) → f.values_len < 2 ^ 32 → length (written dict_schema 0 (dict_value f)) < 2 ^ 64
unfolding written
short f lt =
    let a = written_entries dict_schema (plain 1 Uint32) (entries_of ((1, number f.values_len) ∷ [])) in
    let b = written_entries dict_schema (plain 2 (Enum 11)) (entries_of ((2, number (code_of f.codes_ptype)) ∷ [])) in
    let c = written_entries dict_schema (optional 3 Flag) (entries_of (slot_with flag_content 3 f.is_nullable_codes)) in
    let d = written_entries dict_schema (optional 4 Flag) (entries_of (slot_with flag_content 4 f.all_values_referenced)) in
    let sum : length (written dict_schema 0 (dict_value f)) ≡ length a + (length b + (length c + length d)) = four a b c d in
    let k = few_kinds f.codes_ptype in
    omega (arith, sum, count_short f.values_len (omega (arith, lt)), kind_short (code_of f.codes_ptype) (omega (arith, k)), nullable_short f.is_nullable_codes, referenced_short f.all_values_referenced)

-- Flags nest no message.
pub flags_nest : (f : DictFields) → nested (dict_value f) ≤ 100
flags_nest f = nest f.values_len (code_of f.codes_ptype) f.is_nullable_codes f.all_values_referenced
  where
    nest : (n k : ℕ) (a b : Option Bool) → nested (((1, number n) ∷ []) ∷ ((2, number k) ∷ []) ∷ slot_with flag_content 3 a ∷ slot_with flag_content 4 b ∷ []) ≤ 100
    nest n k None None = omega arith
    nest n k None (Some b) = omega arith
    nest n k (Some a) None = omega arith
    nest n k (Some a) (Some b) = omega arith

-- What is written of fields is read as these.
pub dict_again : (f : DictFields) → f.values_len ≤ 2 ^ 32 - 1 → ShowsDict (dict_bytes f) (F.dict f)
dict_again f le =
    let lt : f.values_len < 2 ^ 32 = omega (arith, le) in
    record {
      fields = f;
      reads = written_shown dict_schema 0 (dict_value f) refl (dict_formed f lt) (flags_nest f) (short f lt);
      fields_are = refl;
    }

-- ---- metadata

-- Bytes that show a kind of integers are metadata of dictionaries.
pub dict_metadata : (x : ExtMeaning) (d : Typ) (bytes : List ℕ) (f : DictFields) → Reads dict_schema 0 bytes (dict_value f) → IsTrue (is_integer f.codes_ptype) → IsMetadata codec x E.dict d bytes (M.dict (kept_of d f))
dict_metadata x d bytes f r h = record {
  fields = F.dict f;
  shown = record { fields = f; reads = r; fields_are = refl };
  meaning = refl;
  fair = h;
  known = tt;
}

-- What metadata of theirs is read as: fields with a kind of integers that the bytes show.
pub record ReadsDict (d : Typ) (bytes : List ℕ) (v : Metadata) : Type 0 where
  pub fields : DictFields
  pub reads : Reads dict_schema 0 bytes (dict_value fields)
  pub value_is : v ≡ M.dict (kept_of d fields)
  pub integer : IsTrue (is_integer fields.codes_ptype)

meant_dict : (d : Typ) (f : Fields) (g : DictFields) (v : Metadata) → f ≡ F.dict g → F.meant d f ≡ v → v ≡ M.dict (kept_of d g)
meant_dict d f g v e m = sym m ∙ ap (λ (z : Fields). F.meant d z) e

pub dict_read : (x : ExtMeaning) (d : Typ) (bytes : List ℕ) (v : Metadata) → IsMetadata codec x E.dict d bytes v → ReadsDict d bytes v
dict_read x d bytes v m =
    let e = meant_dict d m.fields m.shown.fields v m.shown.fields_are m.meaning in
    record {
      fields = m.shown.fields;
      reads = m.shown.reads;
      value_is = e;
      integer = subst (λ (z : Metadata). IsFair E.dict z) e m.fair;
    }

-- Fields that the bytes show are those.
pub dict_fields_are : (d : Typ) (bytes : List ℕ) (v : Metadata) (f : DictFields) → ReadsDict d bytes v → Reads dict_schema 0 bytes (dict_value f) → (v ≡ M.dict (kept_of d f)) × IsTrue (is_integer f.codes_ptype)
dict_fields_are d bytes v f k r =
    let e = one_read bytes k.fields f k.reads r in
    (k.value_is ∙ ap (λ (g : DictFields). M.dict (kept_of d g)) e, subst (λ (g : DictFields). IsTrue (is_integer g.codes_ptype)) e k.integer)
