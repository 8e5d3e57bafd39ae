-- A message of the form is that of the type that is read from it.
use Rattle.std.specs.Prelude.{option_and_then}
use Rattle.std.specs.Str.{is_utf8}
use Rattle.std.proofs.Common.{◌≡◌, ◌⊎◌, inl, inr, ℕ, zero, suc, ◌<◌, ◌≤◌, ◌-◌, ◌^◌, ◌==◌, nat_lt, nat_le, if◌then◌else◌, pos, negsuc, Bool, true, false, List, [], ◌∷◌, Option, Some, None, refl, ap, sym, subst, ◌∙◌, arith}
use Rattle.std.proofs.lemmas.Bool.{eqb-true, ltb-true, leb-true, lt-ltb}
use Rattle.std.proofs.lemmas.Bool.Decides.{nat_tests}
use Rattle.std.proofs.lemmas.Option.{same_Some}
use Rattle.vx_trees.specs.Rose.{Roses, node, end}
use Rattle.vx_proto.specs.Schema.{kind_in, field, plain as plain_slot, nested, repeated, oneof}
use Rattle.vx_proto.specs.declared.schema.ScalarKind.{ScalarKind}
use Rattle.vx_proto.specs.declared.schema.Kind.{Kind as Spelling}
use Rattle.vx_proto.specs.declared.schema.Kind.TheVariants.{Scalar, Message}
use Rattle.vx_proto.specs.declared.schema.ScalarKind.TheVariants.{Uint32, Int32, Flag, Enum, String, Bytes}
use Rattle.vx_proto.specs.declared.schema.Member.{Member}
use Rattle.vx_proto.specs.Form.{FormContent, FormEntries, FormSlots}
use Rattle.vx_proto.proofs.LawsOfForms.{HoldsMember, slots_of_form}
use Rattle.vx_proto.specs.Parts.{number_in, octets_in, text_in, text_of, text_of_bytes, message_of, message_in, entries_in}
use Rattle.vx_proto.proofs.LawsOfParts.{IsNumeric, numbers, plain_read}
use Rattle.vx_proto.proofs.LawsOfSlots.{Has, one_of, two_of, three_of, four_of, none_of, plain_holds, nested_holds, repeated_member}
use Rattle.vx_proto.specs.Value.{Content, octets, message, Entry, Value, slots_of}
use Rattle.vx_proto.specs.Codes.{value_again}
use Rattle.vx_proto.proofs.LawsOfViews.{message_is}
use Rattle.vx_types.specs.declared.nullability.Nullability.{Nullability}
use Rattle.vx_numbers.specs.declared.ptype.PType.{PType}
use Rattle.vx_types.specs.Kind.{Kind, null, boolean, utf8, binary, variant}
use Rattle.vx_numbers.specs.Numbers.{code_of}
use Rattle.vx_types.specs.Typ.{Typ}
use Rattle.vx_type_wire.specs.TypeTable.{flag_of, bit_of}
use Rattle.vx_type_wire.specs.Reading.{nullability_of, truth_of, ptypes, ptype_of, scale_of}
use Rattle.vx_proto.specs.Value.{one_number, one_octets, one_message}
use Rattle.vx_type_wire.specs.TypeMessage.{type_members, type_lists, int32_of, texts, all_messages, in_oneof, type_message, type_messages}
use Rattle.vx_type_wire.specs.MessageReading.{below, byte_of, with_text, texts_in, types_in, nullability_at, truth_at, ptype_at, below_at, scale_at, text_at, bytes_at, texts_at, type_at, types_at}
use Rattle.vx_type_wire.specs.MessageReading.{plain_in, primitive_in, decimal_in, structure_in, list_in, extension_in, fixed_size_list_in, union_in, map_in, member_in, oneof_in, type_in}
use Rattle.vx_type_wire.proofs.Sound.{choose, nullability_of-sound, truth_of-sound, found, plain_made, primitive_made, decimal_made, list_made, fixed_size_list_made, structure_made, union_made, map_made, extension_made, more_made}
use Rattle.vx_type_wire.proofs.MessageForm.{F}

-- ---- slots without types

-- A slot of a number is the one that is written for what is read of it.
number_sound : {X : Type 0} (i m : ℕ) (es : List Entry) (read : ℕ → Option X) (back : X → ℕ) (x : X) → (read m ≡ Some x → back x ≡ m)
    → es ≡ one_number i m → option_and_then read (number_in es) ≡ Some x → one_number i (back x) ≡ es
number_sound i m es read back x law is e =
    ap (one_number i) (law (ap (λ (z : List Entry). option_and_then read (number_in z)) (sym is) ∙ e)) ∙ sym is

a_number : (i : ℕ) (k : ScalarKind) (es : List Entry) → IsNumeric k → Has F (plain_slot i k) es → (m : ℕ) × (es ≡ one_number i m)
a_number i k es n h = let r = plain_read F i k (numbers k n) es h in (r.0, r.1)

nullable : (i : ℕ) (es : List Entry) (n : Nullability) → Has F (plain_slot i Flag) es → option_and_then nullability_of (number_in es) ≡ Some n → one_number i (flag_of n) ≡ es
nullable i es n h e = let m = a_number i Flag es tt h in number_sound i m.0 es nullability_of flag_of n (nullability_of-sound m.0 n) m.1 e

truth : (i : ℕ) (es : List Entry) (b : Bool) → Has F (plain_slot i Flag) es → option_and_then truth_of (number_in es) ≡ Some b → one_number i (bit_of b) ≡ es
truth i es b h e = let m = a_number i Flag es tt h in number_sound i m.0 es truth_of bit_of b (truth_of-sound m.0 b) m.1 e

code : (i : ℕ) (es : List Entry) (p : PType) → Has F (plain_slot i (Enum 11)) es → option_and_then ptype_of (number_in es) ≡ Some p → one_number i (code_of p) ≡ es
code i es p h e = let m = a_number i (Enum 11) es tt h in number_sound i m.0 es ptype_of code_of p (found m.0 ptypes p) m.1 e

below_is : (limit n m : ℕ) → below limit n ≡ Some m → m ≡ n
below_is limit n m e = choose (m ≡ n) (nat_lt n limit) (Some n) None m (λ p f. sym (same_Some _ _ f)) (λ f. absurd (cc)) e

small : (i limit : ℕ) (es : List Entry) (n : ℕ) → Has F (plain_slot i Uint32) es → option_and_then (below limit) (number_in es) ≡ Some n → one_number i n ≡ es
small i limit es n h e = let m = a_number i Uint32 es tt h in number_sound i m.0 es (below limit) (λ k. k) n (below_is limit m.0 n) m.1 e

scale_is : (n s : ℕ) → n < 2 ^ 64 → byte_of n ≡ Some s → int32_of (scale_of s) ≡ n
scale_is n s top =
    choose (int32_of (scale_of s) ≡ n) (nat_lt n 128) (Some n) _ s (λ p f. low (same_Some _ _ f) (ltb-true n 128 p))
    (choose (int32_of (scale_of s) ≡ n) (nat_le (2 ^ 64 - 128) n) (Some (n - (2 ^ 64 - 256))) None s (λ p f. high (same_Some _ _ f) (leb-true (2 ^ 64 - 128) n p)) (λ f. absurd (cc)))
  where
    low : n ≡ s → n < 128 → int32_of (scale_of s) ≡ n
    low e h = let k : s < 128 = omega (arith, e, h) in ap (λ b. int32_of (if b then pos s else negsuc (255 - s))) (lt-ltb s 128 k) ∙ sym e

    high : n - (2 ^ 64 - 256) ≡ s → 2 ^ 64 - 128 ≤ n → int32_of (scale_of s) ≡ n
    high e h =
        let k : 128 ≤ s = omega (arith, e, h) in
        let no : nat_lt s 128 ≡ false = grind (arith, nat_tests) in
        let back : 2 ^ 64 - 1 - (255 - s) ≡ n = omega (arith, e, h, top) in
        ap (λ b. int32_of (if b then pos s else negsuc (255 - s))) no ∙ back

scale : (i : ℕ) (es : List Entry) (s : ℕ) → Has F (plain_slot i Int32) es → option_and_then byte_of (number_in es) ≡ Some s → one_number i (int32_of (scale_of s)) ≡ es
scale i es s h e =
    let w = plain_holds F i Int32 es h in
    number_sound i w.form.0 es byte_of (λ k. int32_of (scale_of k)) s (scale_is w.form.0 s w.form.2.0) (w.is ∙ ap (λ (c : Content). (i, c) ∷ []) w.form.1) e

-- Bytes, and texts.
bytes : (i : ℕ) (es : List Entry) (s : List ℕ) → Has F (plain_slot i Bytes) es → octets_in es ≡ Some s → one_octets i s ≡ es
bytes i es s h e =
    let w = plain_holds F i Bytes es h in
    let is : es ≡ one_octets i w.form.0 = w.is ∙ ap (λ (c : Content). (i, c) ∷ []) w.form.1 in
    ap (one_octets i) (sym (same_Some w.form.0 s (ap octets_in (sym is) ∙ e))) ∙ sym is

text_is : (s t : List ℕ) → text_of_bytes s ≡ Some t → t ≡ s
text_is s t e = choose (t ≡ s) (is_utf8 s) (Some s) None t (λ p f. sym (same_Some _ _ f)) (λ f. absurd (cc)) e

text : (i : ℕ) (es : List Entry) (s : List ℕ) → Has F (plain_slot i String) es → text_in es ≡ Some s → one_octets i s ≡ es
text i es s h e =
    let w = plain_holds F i String es h in
    let is : es ≡ one_octets i w.form.0 = w.is ∙ ap (λ (c : Content). (i, c) ∷ []) w.form.1 in
    ap (one_octets i) (text_is w.form.0 s (ap text_in (sym is) ∙ e)) ∙ sym is

text_made : (x : Option (List ℕ)) (y : Option (List (List ℕ))) (ns : List (List ℕ)) → with_text x y ≡ Some ns → (s : List ℕ) × (ss : List (List ℕ)) × (x ≡ Some s) × (y ≡ Some ss) × (s ∷ ss ≡ ns)
text_made (Some s) (Some ss) ns e = (s, ss, refl, refl, same_Some _ _ e)
text_made _ _ ns e = absurd (cc)

names : (i : ℕ) (es : List Entry) (ns : List (List ℕ)) → FormEntries F (field i (Scalar String) ∷ []) es → texts_in es ≡ Some ns → texts i ns ≡ es
names i [] ns f e = ap (texts i) (sym (same_Some _ _ e))
names i (x ∷ xs) ns f e =
    let w = text_made (text_of x.1) (texts_in xs) ns e in
    let m = repeated_member F i (Scalar String) x xs f in
    let is : x ≡ (i, octets m.form.0) = m.is ∙ ap (λ (c : Content). (i, c)) m.form.1 in
    let s : w.0 ≡ m.form.0 = text_is m.form.0 w.0 (ap (λ (y : Entry). text_of y.1) (sym is) ∙ w.2) in
    ap (texts i) (sym w.4) ∙ (λ j. (i, octets (s j)) ∷ names i xs w.1 f.1 w.3 j) ∙ ap (λ (y : Entry). y ∷ xs) (sym is)

-- ---- slots with types

-- The messages that are read inside are those of the types read of them.
abbrev IsSound : (Value → Option Typ) → Type 0
IsSound inside = (w : Value) (u : Typ) → F 0 w → inside w ≡ Some u → type_message u ≡ w

child : (inside : Value → Option Typ) → IsSound inside → (i : ℕ) (es : List Entry) (u : Typ) → Has F (nested i 0) es → option_and_then inside (message_in es) ≡ Some u → one_message i (type_message u) ≡ es
child inside ih i es u h e = go (nested_holds F i 0 es h)
  where
    none : es ≡ [] → one_message i (type_message u) ≡ es
    none n = absurd (let q : None ≡ Some u = ap (λ (z : List Entry). option_and_then inside (message_in z)) (sym n) ∙ e in cc)

    go : (es ≡ []) ⊎ HoldsMember F (field i (Message 0)) es → one_message i (type_message u) ≡ es
    go (inl n) = none n
    go (inr w) =
        let is : es ≡ one_message i w.form.0 = w.is ∙ ap (λ (c : Content). (i, c) ∷ []) w.form.1 in
        let q : inside w.form.0 ≡ Some u = ap inside (sym (value_again w.form.0)) ∙ ap (λ (z : List Entry). option_and_then inside (message_in z)) (sym is) ∙ e in
        ap (one_message i) (ih w.form.0 u w.form.2 q) ∙ sym is

children : (inside : Value → Option Typ) → IsSound inside → (i : ℕ) (es : List Entry) (ts : Roses Kind) → FormEntries F (field i (Message 0) ∷ []) es → types_in inside es ≡ Some ts → all_messages i (type_messages ts) ≡ es
children inside ih i [] ts f e = ap (λ z. all_messages i (type_messages z)) (sym (same_Some _ _ e))
children inside ih i (x ∷ xs) ts f e =
    let w = more_made (option_and_then inside (message_of x.1)) (types_in inside xs) ts e in
    let m = repeated_member F i (Message 0) x xs f in
    let is : x ≡ (i, message (slots_of m.form.0)) = m.is ∙ ap (λ (c : Content). (i, c)) m.form.1 in
    let q : inside m.form.0 ≡ Some w.0 = ap inside (sym (value_again m.form.0)) ∙ ap (λ (y : Entry). option_and_then inside (message_of y.1)) (sym is) ∙ w.2 in
    let s : type_message w.0 ≡ m.form.0 = ih m.form.0 w.0 m.form.2 q in
    ap (λ z. all_messages i (type_messages z)) (sym w.4)
    ∙ (λ j. (i, message (slots_of (s j))) ∷ children inside ih i xs w.1 f.1 w.3 j) ∙ ap (λ (y : Entry). y ∷ xs) (sym is)

-- ---- members

plain_at : (k : Nullability → Kind) (g : ℕ) → ((n : Nullability) → type_message (node (k n) end) ≡ in_oneof g (one_number 1 (flag_of n) ∷ []))
    → (w : Value) (a : List Entry) (t : Typ) → Has F (plain_slot 1 Flag) a → w ≡ a ∷ [] → plain_in k w ≡ Some t → type_message t ≡ in_oneof g w
plain_at k g law w a t h is e =
    let m = plain_made k (nullability_at w 0) t e in
    let n = nullable 1 a m.0 h (ap (λ (z : Value). nullability_at z 0) (sym is) ∙ m.1) in
    ap type_message (sym m.2) ∙ law m.0 ∙ (λ i. in_oneof g (n i ∷ [])) ∙ ap (in_oneof g) (sym is)

primitive_sound : (w : Value) (t : Typ) → F 3 w → primitive_in w ≡ Some t → type_message t ≡ in_oneof 3 w
primitive_sound w t f e =
    let s = two_of F (plain_slot 1 (Enum 11)) (plain_slot 2 Flag) w (slots_of_form type_lists 3 w f) in
    let m = primitive_made (ptype_at w 0) (nullability_at w 1) t e in
    let a = code 1 s.a m.0 s.has_a (ap (λ (z : Value). ptype_at z 0) (sym s.is) ∙ m.2) in
    let b = nullable 2 s.b m.1 s.has_b (ap (λ (z : Value). nullability_at z 1) (sym s.is) ∙ m.3) in
    ap type_message (sym m.4) ∙ (λ i. in_oneof 3 (a i ∷ b i ∷ [])) ∙ ap (in_oneof 3) (sym s.is)

decimal_sound : (w : Value) (t : Typ) → F 4 w → decimal_in w ≡ Some t → type_message t ≡ in_oneof 4 w
decimal_sound w t f e =
    let s = three_of F (plain_slot 1 Uint32) (plain_slot 2 Int32) (plain_slot 3 Flag) w (slots_of_form type_lists 4 w f) in
    let m = decimal_made (below_at 256 w 0) (scale_at w 1) (nullability_at w 2) t e in
    let a = small 1 256 s.a m.0 s.has_a (ap (λ (z : Value). below_at 256 z 0) (sym s.is) ∙ m.3) in
    let b = scale 2 s.b m.1 s.has_b (ap (λ (z : Value). scale_at z 1) (sym s.is) ∙ m.4) in
    let c = nullable 3 s.c m.2 s.has_c (ap (λ (z : Value). nullability_at z 2) (sym s.is) ∙ m.5) in
    ap type_message (sym m.6) ∙ (λ i. in_oneof 4 (a i ∷ b i ∷ c i ∷ [])) ∙ ap (in_oneof 4) (sym s.is)

module _ (inside : Value → Option Typ) (ih : IsSound inside) where
  structure_sound : (w : Value) (t : Typ) → F 7 w → structure_in inside w ≡ Some t → type_message t ≡ in_oneof 7 w
  structure_sound w t f e =
      let s = three_of F (repeated 1 (Scalar String)) (repeated 2 (Message 0)) (plain_slot 3 Flag) w (slots_of_form type_lists 7 w f) in
      let m = structure_made (texts_at w 0) (types_at inside w 1) (nullability_at w 2) t e in
      let a = names 1 s.a m.0 s.has_a.form (ap (λ (z : Value). texts_at z 0) (sym s.is) ∙ m.3) in
      let b = children inside ih 2 s.b m.1 s.has_b.form (ap (λ (z : Value). types_at inside z 1) (sym s.is) ∙ m.4) in
      let c = nullable 3 s.c m.2 s.has_c (ap (λ (z : Value). nullability_at z 2) (sym s.is) ∙ m.5) in
      ap type_message (sym m.6) ∙ (λ i. in_oneof 7 (a i ∷ b i ∷ c i ∷ [])) ∙ ap (in_oneof 7) (sym s.is)

  list_sound : (w : Value) (t : Typ) → F 8 w → list_in inside w ≡ Some t → type_message t ≡ in_oneof 8 w
  list_sound w t f e =
      let s = two_of F (nested 1 0) (plain_slot 2 Flag) w (slots_of_form type_lists 8 w f) in
      let m = list_made (type_at inside w 0) (nullability_at w 1) t e in
      let a = child inside ih 1 s.a m.0 s.has_a (ap (λ (z : Value). type_at inside z 0) (sym s.is) ∙ m.2) in
      let b = nullable 2 s.b m.1 s.has_b (ap (λ (z : Value). nullability_at z 1) (sym s.is) ∙ m.3) in
      ap type_message (sym m.4) ∙ (λ i. in_oneof 8 (a i ∷ b i ∷ [])) ∙ ap (in_oneof 8) (sym s.is)

  extension_sound : (w : Value) (t : Typ) → F 9 w → extension_in inside w ≡ Some t → type_message t ≡ in_oneof 9 w
  extension_sound w t f e =
      let s = three_of F (plain_slot 1 String) (nested 2 0) (plain_slot 3 Bytes) w (slots_of_form type_lists 9 w f) in
      let m = extension_made (text_at w 0) (type_at inside w 1) (bytes_at w 2) t e in
      let a = text 1 s.a m.0 s.has_a (ap (λ (z : Value). text_at z 0) (sym s.is) ∙ m.3) in
      let b = child inside ih 2 s.b m.1 s.has_b (ap (λ (z : Value). type_at inside z 1) (sym s.is) ∙ m.4) in
      let c = bytes 3 s.c m.2 s.has_c (ap (λ (z : Value). bytes_at z 2) (sym s.is) ∙ m.5) in
      ap type_message (sym m.6) ∙ (λ i. in_oneof 9 (a i ∷ b i ∷ c i ∷ [])) ∙ ap (in_oneof 9) (sym s.is)

  fixed_size_list_sound : (w : Value) (t : Typ) → F 10 w → fixed_size_list_in inside w ≡ Some t → type_message t ≡ in_oneof 10 w
  fixed_size_list_sound w t f e =
      let s = three_of F (nested 1 0) (plain_slot 2 Uint32) (plain_slot 3 Flag) w (slots_of_form type_lists 10 w f) in
      let m = fixed_size_list_made (type_at inside w 0) (below_at (2 ^ 32) w 1) (nullability_at w 2) t e in
      let a = child inside ih 1 s.a m.0 s.has_a (ap (λ (z : Value). type_at inside z 0) (sym s.is) ∙ m.3) in
      let b = small 2 (2 ^ 32) s.b m.1 s.has_b (ap (λ (z : Value). below_at (2 ^ 32) z 1) (sym s.is) ∙ m.4) in
      let c = nullable 3 s.c m.2 s.has_c (ap (λ (z : Value). nullability_at z 2) (sym s.is) ∙ m.5) in
      ap type_message (sym m.6) ∙ (λ i. in_oneof 10 (a i ∷ b i ∷ c i ∷ [])) ∙ ap (in_oneof 10) (sym s.is)

  union_sound : (w : Value) (t : Typ) → F 12 w → union_in inside w ≡ Some t → type_message t ≡ in_oneof 12 w
  union_sound w t f e =
      let s = four_of F (repeated 1 (Scalar String)) (repeated 2 (Message 0)) (plain_slot 3 Bytes) (plain_slot 4 Flag) w (slots_of_form type_lists 12 w f) in
      let m = union_made (texts_at w 0) (types_at inside w 1) (bytes_at w 2) (nullability_at w 3) t e in
      let a = names 1 s.a m.0 s.has_a.form (ap (λ (z : Value). texts_at z 0) (sym s.is) ∙ m.4) in
      let b = children inside ih 2 s.b m.1 s.has_b.form (ap (λ (z : Value). types_at inside z 1) (sym s.is) ∙ m.5) in
      let c = bytes 3 s.c m.2 s.has_c (ap (λ (z : Value). bytes_at z 2) (sym s.is) ∙ m.6) in
      let d = nullable 4 s.d m.3 s.has_d (ap (λ (z : Value). nullability_at z 3) (sym s.is) ∙ m.7) in
      ap type_message (sym m.8) ∙ (λ i. in_oneof 12 (a i ∷ b i ∷ c i ∷ d i ∷ [])) ∙ ap (in_oneof 12) (sym s.is)

  map_sound : (w : Value) (t : Typ) → F 13 w → map_in inside w ≡ Some t → type_message t ≡ in_oneof 13 w
  map_sound w t f e =
      let s = four_of F (nested 1 0) (nested 2 0) (plain_slot 3 Flag) (plain_slot 4 Flag) w (slots_of_form type_lists 13 w f) in
      let m = map_made (type_at inside w 0) (type_at inside w 1) (truth_at w 2) (nullability_at w 3) t e in
      let a = child inside ih 1 s.a m.0 s.has_a (ap (λ (z : Value). type_at inside z 0) (sym s.is) ∙ m.4) in
      let b = child inside ih 2 s.b m.1 s.has_b (ap (λ (z : Value). type_at inside z 1) (sym s.is) ∙ m.5) in
      let c = truth 3 s.c m.2 s.has_c (ap (λ (z : Value). truth_at z 2) (sym s.is) ∙ m.6) in
      let d = nullable 4 s.d m.3 s.has_d (ap (λ (z : Value). nullability_at z 3) (sym s.is) ∙ m.7) in
      ap type_message (sym m.8) ∙ (λ i. in_oneof 13 (a i ∷ b i ∷ c i ∷ d i ∷ [])) ∙ ap (in_oneof 13) (sym s.is)

  null_sound : (w : Value) (t : Typ) → F 1 w → Some (node null end) ≡ Some t → type_message t ≡ in_oneof 1 w
  null_sound w t f e = ap type_message (sym (same_Some _ _ e)) ∙ ap (in_oneof 1) (sym (none_of F w (slots_of_form type_lists 1 w f)))

  flag_sound : (k : Nullability → Kind) (g : ℕ) → ((n : Nullability) → type_message (node (k n) end) ≡ in_oneof g (one_number 1 (flag_of n) ∷ []))
      → (w : Value) (t : Typ) → (F g w → FormSlots F (plain_slot 1 Flag ∷ []) w) → F g w → plain_in k w ≡ Some t → type_message t ≡ in_oneof g w
  flag_sound k g law w t split f e = let s = one_of F (plain_slot 1 Flag) w (split f) in plain_at k g law w s.a t s.has s.is e

  -- A member of the oneof, by its tag.
  member_sound : (g : ℕ) (w : Value) (t : Typ) → F g w → member_in inside g w ≡ Some t → type_message t ≡ in_oneof g w
  member_sound g w t f e =
      let P : Type 0 = type_message t ≡ in_oneof g w in
      let at : (k : ℕ) → (g == k) ≡ true → (F k w → type_message t ≡ in_oneof k w) → P
      = λ k p h. (let q = eqb-true g k p in h (subst (λ j. F j w) q f) ∙ ap (λ j. in_oneof j w) (sym q)) in
      choose P (g == 1) _ _ t (λ p q. at 1 p (λ h. null_sound w t h q))
      (choose P (g == 2) _ _ t (λ p q. at 2 p (λ h. flag_sound boolean 2 (λ n. refl) w t (slots_of_form type_lists 2 w) h q))
      (choose P (g == 3) _ _ t (λ p q. at 3 p (λ h. primitive_sound w t h q))
      (choose P (g == 4) _ _ t (λ p q. at 4 p (λ h. decimal_sound w t h q))
      (choose P (g == 5) _ _ t (λ p q. at 5 p (λ h. flag_sound utf8 5 (λ n. refl) w t (slots_of_form type_lists 5 w) h q))
      (choose P (g == 6) _ _ t (λ p q. at 6 p (λ h. flag_sound binary 6 (λ n. refl) w t (slots_of_form type_lists 6 w) h q))
      (choose P (g == 7) _ _ t (λ p q. at 7 p (λ h. structure_sound w t h q))
      (choose P (g == 8) _ _ t (λ p q. at 8 p (λ h. list_sound w t h q))
      (choose P (g == 9) _ _ t (λ p q. at 9 p (λ h. extension_sound w t h q))
      (choose P (g == 10) _ _ t (λ p q. at 10 p (λ h. fixed_size_list_sound w t h q))
      (choose P (g == 11) _ _ t (λ p q. at 11 p (λ h. flag_sound variant 11 (λ n. refl) w t (slots_of_form type_lists 11 w) h q))
      (choose P (g == 12) _ _ t (λ p q. at 12 p (λ h. union_sound w t h q))
      (choose P (g == 13) _ _ t (λ p q. at 13 p (λ h. map_sound w t h q)) (λ q. absurd (cc)))))))))))))) e

-- ---- types

-- The members of the oneof have their numbers as places.
abbrev OwnPlaces : List Member → Type 0
OwnPlaces [] = Unit {0}
OwnPlaces (m ∷ ms) = (m.kind ≡ Message m.number) × OwnPlaces ms

own_place : (ms : List Member) → OwnPlaces ms → (g : ℕ) (k : Spelling) → kind_in ms g ≡ Some k → k ≡ Message g
own_place [] h g k e = absurd (cc)
own_place (m ∷ ms) h g k e = choose (k ≡ Message g) (m.number == g) (Some m.kind) (kind_in ms g) k (λ p q. sym (same_Some _ _ q) ∙ h.0 ∙ ap (λ n. Message n) (eqb-true m.number g p)) (own_place ms h.1 g k) e

-- A oneof of the form.
oneof_sound : (inside : Value → Option Typ) → IsSound inside → (es : List Entry) (t : Typ) → Has F (oneof type_members) es → oneof_in inside es ≡ Some t → type_message t ≡ es ∷ []
oneof_sound inside ih [] t h e = absurd (cc)
oneof_sound inside ih (x ∷ []) t h e =
    let own = own_place type_members (refl, (refl, (refl, (refl, (refl, (refl, (refl, (refl, (refl, (refl, (refl, (refl, (refl, tt))))))))))))) x.0 h.form.0.0 h.form.0.1 in
    let c : FormContent F (Message x.0) x.1 = subst (λ j. FormContent F j x.1) own h.form.0.2 in
    let q : member_in inside x.0 c.0 ≡ Some t = sym (ap (option_and_then (member_in inside x.0)) (message_is x.1 c.0 c.1)) ∙ e in
    member_sound inside ih x.0 c.0 t c.2 q ∙ ap (λ (d : Content). ((x.0, d) ∷ []) ∷ []) (sym c.1)
oneof_sound inside ih (x ∷ y ∷ zs) t h e = absurd (omega (arith, h.count))

pub type_sound : (left : ℕ) (v : Value) (t : Typ) → F 0 v → type_in left v ≡ Some t → type_message t ≡ v
unfolding type_in
type_sound zero v t f e = absurd (cc)
type_sound (suc left) v t f e =
    let s = one_of F (oneof type_members) v (slots_of_form type_lists 0 v f) in
    oneof_sound (type_in left) (λ w u h q. type_sound left w u h q) s.a t s.has (ap (λ (z : Value). oneof_in (type_in left) (entries_in z 0)) (sym s.is) ∙ e) ∙ sym s.is
