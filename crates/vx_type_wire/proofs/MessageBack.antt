-- A type is read back from its message.
use Rattle.std.specs.Prelude.{option_and_then}
use Rattle.std.proofs.Common.{◌≡◌, ℕ, zero, suc, ◌<◌, ◌≤◌, ◌^◌, ◌-◌, ◌==◌, nat_lt, nat_le, if◌then◌else◌, ℤ, pos, negsuc, true, false, List, [], ◌∷◌, length, Some, None, refl, ap, ◌∙◌, arith}
use Rattle.std.proofs.lemmas.Bool.{eq-eqb, lt-ltb, le-leb}
use Rattle.std.proofs.lemmas.Bool.Decides.{nat_tests}
use Rattle.std.proofs.lemmas.Int.{ints}
use Rattle.vx_trees.specs.Rose.{Roses, node, end, more, count}
use Rattle.vx_trees.specs.Everywhere.{EverywhereBelow}
use Rattle.vx_trees.specs.Walks.{levels, levels_below}
use Rattle.vx_proto.specs.Parts.{text_of_bytes}
use Rattle.vx_proto.specs.Value.{slots_of, value_of}
use Rattle.vx_proto.specs.Codes.{value_again}
use Rattle.vx_types.specs.Content.{IsText, AreTexts, IsDecimal}
use Rattle.vx_types.specs.Kind.{Kind, null, boolean, primitive, decimal, utf8, binary, list, fixed_size_list, structure, union, map, variant, extension}
use Rattle.vx_types.specs.Typ.{Typ, IsType, IsTypeNode}
use Rattle.vx_type_wire.specs.TypeTable.{scale_byte, tag_of}
use Rattle.vx_type_wire.specs.Reading.{scale_of, are_distinct}
use Rattle.vx_type_wire.specs.Reading.{plain, primitive_from, decimal_from, list_from, fixed_size_list_from, structure_from, union_from, map_from, extension_from, more_from}
use Rattle.vx_type_wire.specs.TypeMessage.{int32_of, texts, all_messages, parts_of, type_message, type_messages}
use Rattle.vx_type_wire.specs.MessageReading.{below, byte_of, with_text, texts_in, types_in, member_in, type_in}
use Rattle.vx_type_wire.proofs.Distinct.{test_passes}
use Rattle.vx_type_wire.proofs.ReadBack.{nullability_back, truth_back, ptype_back, scale_back, passed, digits_pass, members_pass}

below_back : (limit n : ℕ) → n < limit → below limit n ≡ Some n
below_back limit n h = ap (λ b. if b then Some n else None) (lt-ltb n limit h)

byte_back : (p : ℕ) (s : ℤ) → IsDecimal p s → byte_of (int32_of s) ≡ Some (scale_byte s)
byte_back p (pos n) h = let k : n < 128 = omega (arith, ints, h.high) in ap (λ b. if b then Some n else (if nat_le (2 ^ 64 - 128) n then Some (n - (2 ^ 64 - 256)) else None)) (lt-ltb n 128 k)
byte_back p (negsuc n) h =
    let k : n < 128 = omega (arith, ints, h.low) in
    let m = 2 ^ 64 - 1 - n in
    let a : nat_lt m 128 ≡ false = grind (arith, nat_tests) in
    let b : nat_le (2 ^ 64 - 128) m ≡ true = le-leb (2 ^ 64 - 128) m (omega arith) in
    let c : m - (2 ^ 64 - 256) ≡ 255 - n = omega arith in
    ap (λ x. if x then Some m else (if nat_le (2 ^ 64 - 128) m then Some (m - (2 ^ 64 - 256)) else None)) a
    ∙ ap (λ x. if x then Some (m - (2 ^ 64 - 256)) else None) b
    ∙ ap (λ x. Some x) c

text_back : (s : List ℕ) → IsText s → text_of_bytes s ≡ Some s
text_back s h = ap (λ b. if b then Some s else None) h

texts_back : (i : ℕ) (ns : List (List ℕ)) → AreTexts ns → texts_in (texts i ns) ≡ Some ns
texts_back i [] h = refl
texts_back i (n ∷ ns) h = λ j. with_text (text_back n h.0 j) (texts_back i ns h.1 j)

one_back : (left : ℕ) (t : Typ) → type_in left (type_message t) ≡ Some t → option_and_then (type_in left) (Some (value_of (slots_of (type_message t)))) ≡ Some t
one_back left t e = ap (type_in left) (value_again (type_message t)) ∙ e

-- Each of the types is read back.
abbrev Backs : ℕ → Roses Kind → Type 0
Backs left end = Unit {0}
Backs left (more t ts) = (type_in left (type_message t) ≡ Some t) × Backs left ts

all_back : (left i : ℕ) (ts : Roses Kind) → Backs left ts → types_in (type_in left) (all_messages i (type_messages ts)) ≡ Some ts
all_back left i end b = refl
all_back left i (more t ts) b = λ j. more_from (one_back left t b.0 j) (all_back left i ts b.1 j)

member_back : (left : ℕ) (k : Kind) (ts : Roses Kind) → IsTypeNode k ts → Backs left ts → member_in (type_in left) (tag_of k) (parts_of k (type_messages ts)) ≡ Some (node k ts)
member_back left null end h b = refl
member_back left null (more t ts) h b = absurd (omega (arith, h))
member_back left (boolean n) end h b = ap (plain boolean) (nullability_back n)
member_back left (boolean n) (more t ts) h b = absurd (omega (arith, h))
member_back left (primitive p n) end h b = λ i. primitive_from (ptype_back p i) (nullability_back n i)
member_back left (primitive p n) (more t ts) h b = absurd (omega (arith, h))
member_back left (decimal p s n) end h b =
    let d : IsDecimal p s = h.1 in
    (λ i. decimal_from (below_back 256 p (omega (arith, d.few_digits)) i) (byte_back p s d i) (nullability_back n i))
    ∙ passed _ (node (decimal p (scale_of (scale_byte s)) n) end) (digits_pass p s d)
    ∙ ap (λ z. Some (node (decimal p z n) end)) (scale_back p s d)
member_back left (decimal p s n) (more t ts) h b = absurd (omega (arith, h.0))
member_back left (utf8 n) end h b = ap (plain utf8) (nullability_back n)
member_back left (utf8 n) (more t ts) h b = absurd (omega (arith, h))
member_back left (binary n) end h b = ap (plain binary) (nullability_back n)
member_back left (binary n) (more t ts) h b = absurd (omega (arith, h))
member_back left (list n) end h b = absurd (omega (arith, h))
member_back left (list n) (more t end) h b = λ i. list_from (one_back left t b.0 i) (nullability_back n i)
member_back left (list n) (more t (more u ts)) h b = absurd (omega (arith, h))
member_back left (fixed_size_list k n) end h b = absurd (omega (arith, h.0))
member_back left (fixed_size_list k n) (more t end) h b =
    λ i. fixed_size_list_from (one_back left t b.0 i) (below_back (2 ^ 32) k h.1 i) (nullability_back n i)
member_back left (fixed_size_list k n) (more t (more u ts)) h b = absurd (omega (arith, h.0))
member_back left (structure ns n) ts h b =
    (λ i. structure_from (texts_back 1 ns h.texts i) (all_back left 2 ts b i) (nullability_back n i))
    ∙ passed (count ts == length ns) (node (structure ns n) ts) (eq-eqb _ _ h.types)
member_back left (union ns ids n) ts h b =
    (λ i. union_from (texts_back 1 ns h.texts i) (all_back left 2 ts b i) (Some ids) (nullability_back n i))
    ∙ passed _ (node (union ns ids n) ts) (members_pass (count ts) (length ids) (length ns) (are_distinct ids) h.types h.tags (test_passes ids h.distinct))
member_back left (map s n) end h b = absurd (omega (arith, h))
member_back left (map s n) (more t end) h b = absurd (omega (arith, h))
member_back left (map s n) (more t (more u end)) h b =
    λ i. map_from (one_back left t b.0 i) (one_back left u b.1.0 i) (truth_back s i) (nullability_back n i)
member_back left (map s n) (more t (more u (more v ts))) h b = absurd (omega (arith, h))
member_back left (variant n) end h b = ap (plain variant) (nullability_back n)
member_back left (variant n) (more t ts) h b = absurd (omega (arith, h))
member_back left (extension id bs) end h b = absurd (omega (arith, h.0))
member_back left (extension id bs) (more t end) h b = λ i. extension_from (text_back id h.1 i) (one_back left t b.0 i) (Some bs)
member_back left (extension id bs) (more t (more u ts)) h b = absurd (omega (arith, h.0))

mutual
  unfolding type_in

  pub reads_back : (left : ℕ) (t : Typ) → IsType t → levels t ≤ left → type_in left (type_message t) ≡ Some t
  reads_back zero (node k ts) h le = absurd (omega arith)
  reads_back (suc left) (node k ts) h le =
      ap (member_in (type_in left) (tag_of k)) (value_again (parts_of k (type_messages ts))) ∙ member_back left k ts h.0 (backs left ts h.1 (omega arith))

  backs : (left : ℕ) (ts : Roses Kind) → EverywhereBelow IsTypeNode ts → levels_below ts ≤ left → Backs left ts
  backs left end h le = tt
  backs left (more t ts) h le = (reads_back left t h.0 (omega arith), backs left ts h.1 (omega arith))
