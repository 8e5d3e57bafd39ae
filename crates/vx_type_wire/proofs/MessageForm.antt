-- The message of a type has the form of the schema, and nests twice as deep as the type has levels.
use Rattle.std.specs.Str.{IsUtf8}
use Rattle.std.proofs.Common.{◌≡◌, Bool, ℕ, ◌*◌, ◌<◌, ◌^◌, inl, inr, ℤ, pos, negsuc, List, [], ◌∷◌, refl, arith}
use Rattle.std.proofs.lemmas.Int.{ints}
use Rattle.std.proofs.lemmas.Str.{IsUtf8-from_is_utf8}
use Rattle.vx_trees.specs.Rose.{Roses, node, end, more}
use Rattle.vx_trees.specs.Everywhere.{EverywhereBelow}
use Rattle.vx_trees.specs.Walks.{levels, levels_below}
use Rattle.vx_proto.specs.Schema.{list_at, plain, nested, repeated}
use Rattle.vx_proto.specs.declared.schema.Kind.TheVariants.{Scalar, Message}
use Rattle.vx_proto.specs.declared.schema.ScalarKind.TheVariants.{Uint32, Int32, Flag, Enum, String, Bytes}
use Rattle.vx_proto.specs.Form.{FormSlots, HasForm}
use Rattle.vx_proto.proofs.LawsOfForms.{form_of_slots}
use Rattle.vx_proto.specs.Repeated.{as_message}
use Rattle.vx_proto.proofs.LawsOfSlots.{Has, Each, has_plain, has_nested, has_none, has_repeated, form_one, form_two, form_three, form_four}
use Rattle.vx_proto.specs.Value.{Value, number, octets, message, entries_of, slots_of}
use Rattle.vx_proto.specs.Written.{entries_depth, slots_depth, nested as nests}
use Rattle.vx_types.specs.Content.{IsText, AreTexts, IsDecimal}
use Rattle.vx_types.specs.declared.nullability.Nullability.{Nullability}
use Rattle.vx_numbers.specs.declared.ptype.PType.{PType}
use Rattle.vx_numbers.specs.declared.ptype.PType.TheVariants.{U8, U16, U32, U64, I8, I16, I32, I64, F16, F32, F64}
use Rattle.vx_types.specs.Kind.{Kind, null, boolean, primitive, decimal, utf8, binary, list, fixed_size_list, structure, union, map, variant, extension}
use Rattle.vx_numbers.specs.Numbers.{code_of}
use Rattle.vx_types.specs.Typ.{Typ, IsType, IsTypeNode}
use Rattle.vx_type_wire.specs.TypeTable.{flag_of, bit_of, tag_of}
use Rattle.vx_proto.specs.Value.{one_number, one_octets, one_message}
use Rattle.vx_type_wire.specs.TypeMessage.{type_list, type_lists, int32_of, first_message, second_message, texts, all_messages, parts_of, in_oneof, type_message, type_messages}
use Rattle.vx_type_wire.proofs.Members.{flag-small, bit-small}

abbrev pub F : ℕ → Value → Type 0
F = HasForm type_lists

-- ---- slots

nullable : (i : ℕ) (n : Nullability) → Has F (plain i Flag) (one_number i (flag_of n))
nullable i n = has_plain F i Flag (number (flag_of n)) (flag_of n, refl, flag-small n)

truth : (i : ℕ) (b : Bool) → Has F (plain i Flag) (one_number i (bit_of b))
truth i b = has_plain F i Flag (number (bit_of b)) (bit_of b, refl, bit-small b)

few-codes : (p : PType) → code_of p < 11
few-codes U8 = omega arith
few-codes U16 = omega arith
few-codes U32 = omega arith
few-codes U64 = omega arith
few-codes I8 = omega arith
few-codes I16 = omega arith
few-codes I32 = omega arith
few-codes I64 = omega arith
few-codes F16 = omega arith
few-codes F32 = omega arith
few-codes F64 = omega arith

uint32 : (i n : ℕ) → n < 2 ^ 32 → Has F (plain i Uint32) (one_number i n)
uint32 i n h = has_plain F i Uint32 (number n) (n, refl, h)

code : (i : ℕ) (p : PType) → Has F (plain i (Enum 11)) (one_number i (code_of p))
code i p = has_plain F i (Enum 11) (number (code_of p)) (code_of p, refl, few-codes p)

scale : (i p : ℕ) (s : ℤ) → IsDecimal p s → Has F (plain i Int32) (one_number i (int32_of s))
scale i p (pos n) h = has_plain F i Int32 (number n) (n, refl, (omega (arith, ints, h.high), inl (omega (arith, ints, h.high))))
scale i p (negsuc n) h = has_plain F i Int32 (number (int32_of (negsuc n))) (int32_of (negsuc n), refl, (omega arith, inr (omega (arith, ints, h.low))))

text : (i : ℕ) (s : List ℕ) → IsText s → Has F (plain i String) (one_octets i s)
text i s h = has_plain F i String (octets s) (s, refl, IsUtf8-from_is_utf8 s h)

bytes : (i : ℕ) (s : List ℕ) → Has F (plain i Bytes) (one_octets i s)
bytes i s = has_plain F i Bytes (octets s) (s, refl)

each_text : (ns : List (List ℕ)) → AreTexts ns → Each (λ s. (t : List ℕ) × (octets s ≡ octets t) × IsUtf8 t) ns
each_text [] h = tt
each_text (n ∷ ns) h = ((n, refl, IsUtf8-from_is_utf8 n h.0), each_text ns h.1)

names : (i : ℕ) (ns : List (List ℕ)) → AreTexts ns → Has F (repeated i (Scalar String)) (texts i ns)
names i ns h = has_repeated F i (Scalar String) octets ns (each_text ns h)

first : (i : ℕ) (vs : List Value) → Each (F 0) vs → Has F (nested i 0) (first_message i vs)
first i [] r = has_none F i 0
first i (v ∷ vs) r = has_nested F i 0 v r.0

second : (i : ℕ) (vs : List Value) → Each (F 0) vs → Has F (nested i 0) (second_message i vs)
second i [] r = has_none F i 0
second i (v ∷ vs) r = first i vs r.1

each_message : (vs : List Value) → Each (F 0) vs → Each (λ v. (w : Value) × (message (slots_of v) ≡ message (slots_of w)) × F 0 w) vs
each_message [] r = tt
each_message (v ∷ vs) r = ((v, refl, r.0), each_message vs r.1)

types : (i : ℕ) (vs : List Value) → Each (F 0) vs → Has F (repeated i (Message 0)) (all_messages i vs)
types i vs r = has_repeated F i (Message 0) (as_message (λ v. v)) vs (each_message vs r)

-- ---- messages

parts_form : (k : Kind) (ts : Roses Kind) (vs : List Value) → IsTypeNode k ts → Each (F 0) vs → FormSlots F (list_at type_lists (tag_of k)) (parts_of k vs)
parts_form null ts vs h r = refl
parts_form (boolean n) ts vs h r = form_one (nullable 1 n)
parts_form (primitive p n) ts vs h r = form_two (code 1 p) (nullable 2 n)
parts_form (decimal p s n) ts vs h r = form_three (uint32 1 p (omega (arith, h.1.few_digits))) (scale 2 p s h.1) (nullable 3 n)
parts_form (utf8 n) ts vs h r = form_one (nullable 1 n)
parts_form (binary n) ts vs h r = form_one (nullable 1 n)
parts_form (structure ns n) ts vs h r = form_three (names 1 ns h.texts) (types 2 vs r) (nullable 3 n)
parts_form (list n) ts vs h r = form_two (first 1 vs r) (nullable 2 n)
parts_form (extension id bs) ts vs h r = form_three (text 1 id h.1) (first 2 vs r) (bytes 3 bs)
parts_form (fixed_size_list k n) ts vs h r = form_three (first 1 vs r) (uint32 2 k h.1) (nullable 3 n)
parts_form (variant n) ts vs h r = form_one (nullable 1 n)
parts_form (union ns ids n) ts vs h r = form_four (names 1 ns h.texts) (types 2 vs r) (bytes 3 ids) (nullable 4 n)
parts_form (map b n) ts vs h r = form_four (first 1 vs r) (second 2 vs r) (truth 3 b) (nullable 4 n)

-- The member of a kind's tag is one of the oneof.
tag_form : (k : Kind) (v : Value) → F (tag_of k) v → FormSlots F type_list (in_oneof (tag_of k) v)
tag_form null v f = (one_message 1 v, [], refl, omega arith, ((Message 1, refl, (v, refl, f)), tt), refl)
tag_form (boolean n) v f = (one_message 2 v, [], refl, omega arith, ((Message 2, refl, (v, refl, f)), tt), refl)
tag_form (primitive p n) v f = (one_message 3 v, [], refl, omega arith, ((Message 3, refl, (v, refl, f)), tt), refl)
tag_form (decimal p s n) v f = (one_message 4 v, [], refl, omega arith, ((Message 4, refl, (v, refl, f)), tt), refl)
tag_form (utf8 n) v f = (one_message 5 v, [], refl, omega arith, ((Message 5, refl, (v, refl, f)), tt), refl)
tag_form (binary n) v f = (one_message 6 v, [], refl, omega arith, ((Message 6, refl, (v, refl, f)), tt), refl)
tag_form (structure ns n) v f = (one_message 7 v, [], refl, omega arith, ((Message 7, refl, (v, refl, f)), tt), refl)
tag_form (list n) v f = (one_message 8 v, [], refl, omega arith, ((Message 8, refl, (v, refl, f)), tt), refl)
tag_form (extension id bs) v f = (one_message 9 v, [], refl, omega arith, ((Message 9, refl, (v, refl, f)), tt), refl)
tag_form (fixed_size_list m n) v f = (one_message 10 v, [], refl, omega arith, ((Message 10, refl, (v, refl, f)), tt), refl)
tag_form (variant n) v f = (one_message 11 v, [], refl, omega arith, ((Message 11, refl, (v, refl, f)), tt), refl)
tag_form (union ns ids n) v f = (one_message 12 v, [], refl, omega arith, ((Message 12, refl, (v, refl, f)), tt), refl)
tag_form (map b n) v f = (one_message 13 v, [], refl, omega arith, ((Message 13, refl, (v, refl, f)), tt), refl)

mutual
  pub type_form : (t : Typ) → IsType t → HasForm type_lists 0 (type_message t)
  type_form (node k ts) h =
      let vs = type_messages ts in
      form_of_slots type_lists 0 (type_message (node k ts)) (tag_form k (parts_of k vs) (form_of_slots type_lists (tag_of k) (parts_of k vs) (parts_form k ts vs h.0 (types_form ts h.1))))

  types_form : (ts : Roses Kind) → EverywhereBelow IsTypeNode ts → Each (F 0) (type_messages ts)
  types_form end h = tt
  types_form (more t ts) h = (type_form t h.0, types_form ts h.1)

-- ---- depth

texts-flat : (i : ℕ) (ns : List (List ℕ)) → entries_depth (entries_of (texts i ns)) ≡ 0
texts-flat i [] = refl
texts-flat i (n ∷ ns) = omega (arith, texts-flat i ns)

parts_depth : (k : Kind) (ts : Roses Kind) → IsTypeNode k ts → ((i : ℕ) → entries_depth (entries_of (all_messages i (type_messages ts))) ≡ 2 * levels_below ts)
    → slots_depth (slots_of (parts_of k (type_messages ts))) ≡ 2 * levels_below ts
parts_depth null end h r = omega arith
parts_depth null (more t ts) h r = absurd (omega (arith, h))
parts_depth (boolean n) end h r = omega arith
parts_depth (boolean n) (more t ts) h r = absurd (omega (arith, h))
parts_depth (primitive p n) end h r = omega arith
parts_depth (primitive p n) (more t ts) h r = absurd (omega (arith, h))
parts_depth (utf8 n) end h r = omega arith
parts_depth (utf8 n) (more t ts) h r = absurd (omega (arith, h))
parts_depth (binary n) end h r = omega arith
parts_depth (binary n) (more t ts) h r = absurd (omega (arith, h))
parts_depth (variant n) end h r = omega arith
parts_depth (variant n) (more t ts) h r = absurd (omega (arith, h))
parts_depth (decimal p s n) end h r = omega arith
parts_depth (decimal p s n) (more t ts) h r = absurd (omega (arith, h.0))
parts_depth (list n) end h r = absurd (omega (arith, h))
parts_depth (list n) (more t end) h r = omega (arith, r 1)
parts_depth (list n) (more t (more u ts)) h r = absurd (omega (arith, h))
parts_depth (fixed_size_list k n) end h r = absurd (omega (arith, h.0))
parts_depth (fixed_size_list k n) (more t end) h r = omega (arith, r 1)
parts_depth (fixed_size_list k n) (more t (more u ts)) h r = absurd (omega (arith, h.0))
parts_depth (structure ns n) ts h r = omega (arith, texts-flat 1 ns, r 2)
parts_depth (union ns ids n) ts h r = omega (arith, texts-flat 1 ns, r 2)
parts_depth (map s n) end h r = absurd (omega (arith, h))
parts_depth (map s n) (more t end) h r = absurd (omega (arith, h))
parts_depth (map s n) (more t (more u end)) h r = omega (arith, r 1)
parts_depth (map s n) (more t (more u (more v ts))) h r = absurd (omega (arith, h))
parts_depth (extension id bs) end h r = absurd (omega (arith, h.0))
parts_depth (extension id bs) (more t end) h r = omega (arith, r 1)
parts_depth (extension id bs) (more t (more u ts)) h r = absurd (omega (arith, h.0))

mutual
  pub type_depth : (t : Typ) → IsType t → nests (type_message t) ≡ 2 * levels t
  type_depth (node k ts) h = omega (arith, parts_depth k ts h.0 (types_depth ts h.1))

  types_depth : (ts : Roses Kind) → EverywhereBelow IsTypeNode ts → (i : ℕ) → entries_depth (entries_of (all_messages i (type_messages ts))) ≡ 2 * levels_below ts
  types_depth end h i = refl
  types_depth (more t ts) h i = omega (arith, type_depth t h.0, types_depth ts h.1 i)
