-- What the form of a message says of the members that a reader takes out of it.
use Rattle.std.proofs.Common.{◌≡◌, ◌∙◌, ◌<◌, ◌⊎◌, ℕ, List, [], ◌∷◌, Bool, true, false, cond, eqb, length, get_or, Some, None, refl, sym, ap, subst, inl, inr, arith}
use Rattle.std.specs.Global.{Vec}
use Rattle.vx_proto.specs.declared.element.Element.{Element}
use Rattle.vx_proto.specs.declared.element.Element.TheViews.{Message as as_a_message}
use Rattle.std.proofs.lemmas.Bool.{eqb-true}
use Rattle.std.proofs.lemmas.Option.{none-some, same_Some}
use Rattle.vx_proto.specs.declared.schema.Member.{Member}
use Rattle.vx_proto.specs.declared.schema.Kind.{Kind}
use Rattle.vx_proto.specs.declared.schema.Kind.TheVariants.{Scalar, Message}
use Rattle.vx_proto.specs.declared.schema.ScalarKind.TheVariants.{Uint32, Uint64, Int32, Sint64, Flag, Enum, Fixed32, Fixed64, String, Bytes}
use Rattle.vx_proto.specs.Form.{FormContent, FormEntries, FormSlots, HasForm}
use Rattle.vx_proto.specs.Parts.{entries_in, number_in, message_in, message_of}
use Rattle.vx_proto.specs.Repeated.{nested_member, seen}
use Rattle.vx_proto.specs.Schema.{field, kind_in, nested, plain}
use Rattle.vx_proto.specs.Value.{Content, Entry, Value, number, octets, message, slots_of, view, entries_view, value_view}
use Rattle.vx_proto.proofs.LawsOfForms.{HoldsMember, HoldsOne, at_most_one, slots_of_form, same_message, same_number, same_others, same_slot, same_form}
use Rattle.vx_proto.proofs.LawsOfRepeated.{holds_message, shows_message}
use Rattle.vx_proto.proofs.LawsOfSlots.{Has, nested_holds, plain_holds, two_of}
use Rattle.vx_proto.proofs.LawsOfViews.{entry_form, message_is}
use Rattle.vx_proto.specs.Value.{one_number, one_message}
use Rattle.vx_type_wire.specs.TypeMessage.{type_lists, type_lists_lawful}
use Rattle.vx_type_wire.specs.Known.{ExtMeaning}
use Rattle.vx_types.specs.Typ.{Typ}
use Rattle.vx_types.specs.Value as V
use Rattle.vx_scalar_wire.specs.Answers.{lone_member}
use Rattle.vx_scalar_wire.specs.Reading.{Holds, ReadsValue}
use Rattle.vx_scalar_wire.specs.Refusing.{RefusesReadingValue, is_one_of}
use Rattle.vx_scalar_wire.specs.declared.error.ScalarWireError.{ScalarWireError}
use Rattle.vx_scalar_wire.specs.ScalarMessage.{value_members, scalar_list, value_list, list_list, union_list, scalar_lists}

abbrev F : ℕ → Value → Type 0
F = HasForm scalar_lists

-- ---- the one member of a value's message

none_left : (kept rest : List Entry) (g : ℕ) (c : Content) → (kept ≡ []) ⊎ HoldsOne F value_members kept → kept ≡ (g, c) ∷ rest → rest ≡ []
none_left kept rest g c (inl h) e = absurd (cc)
none_left kept rest g c (inr h) e = sym (same_others h.name g h.element c [] rest (sym h.is ∙ e))

-- A message whose slot has a member has this one alone.
pub lone : (m : Value) (g : ℕ) (c : Content) (rest : List Entry) → HasForm scalar_lists 15 m → entries_in m 0 ≡ (g, c) ∷ rest → m ≡ lone_member g c
lone m g c rest f e =
    let s : FormSlots F value_list m = slots_of_form scalar_lists 15 m f in
    let k : s.0 ≡ (g, c) ∷ rest = sym (ap (λ (v : Value). entries_in v 0) s.2) ∙ e in
    let none = none_left s.0 rest g c (at_most_one F value_members s.0 s.3 s.4) k in
    s.2 ∙ ap (λ (es : List Entry). es ∷ s.1) k ∙ ap (λ (es : List Entry). ((g, c) ∷ es) ∷ s.1) none ∙ ap (λ (v : Value). ((g, c) ∷ []) ∷ v) s.5

-- One whose slot has none is empty.
pub vacant : (m : Value) → HasForm scalar_lists 15 m → entries_in m 0 ≡ [] → m ≡ [] ∷ []
vacant m f e =
    let s : FormSlots F value_list m = slots_of_form scalar_lists 15 m f in
    let k : s.0 ≡ [] = sym (ap (λ (v : Value). entries_in v 0) s.2) ∙ e in
    s.2 ∙ ap (λ (es : List Entry). es ∷ s.1) k ∙ ap (λ (v : Value). [] ∷ v) s.5

-- The member holds what its kind can.
content_at : (g : ℕ) (c : Content) (k : Kind) → kind_in value_members g ≡ Some k → HasForm scalar_lists 15 (lone_member g c) → FormContent F k c
content_at g c k e f =
    let s : FormSlots F value_list (lone_member g c) = slots_of_form scalar_lists 15 (lone_member g c) f in
    let same : (g, c) ∷ [] ≡ s.0 = same_slot ((g, c) ∷ []) s.0 [] s.1 s.2 in
    let h : FormEntries F value_members ((g, c) ∷ []) = subst (λ (es : List Entry). FormEntries F value_members es) (sym same) s.4 in
    subst (λ (l : Kind). FormContent F l c) (same_Some h.0.0 k (sym h.0.1 ∙ e)) h.0.2

-- A kind takes such content: numbers, octets or messages.
abbrev takes : Kind → Content → Bool
takes (Message place) (message v) = true
takes (Message place) _ = false
takes (Scalar String) (octets bs) = true
takes (Scalar String) _ = false
takes (Scalar Bytes) (octets bs) = true
takes (Scalar Bytes) _ = false
takes (Scalar k) (number n) = true
takes (Scalar k) _ = false

taken : (k : Kind) (c : Content) → FormContent F k c → takes k c ≡ true
taken (Message place) c h = ap (λ x. takes (Message place) x) h.1
taken (Scalar Uint32) c h = ap (λ x. takes (Scalar Uint32) x) h.1
taken (Scalar Uint64) c h = ap (λ x. takes (Scalar Uint64) x) h.1
taken (Scalar Int32) c h = ap (λ x. takes (Scalar Int32) x) h.1
taken (Scalar Sint64) c h = ap (λ x. takes (Scalar Sint64) x) h.1
taken (Scalar Flag) c h = ap (λ x. takes (Scalar Flag) x) h.1
taken (Scalar (Enum n)) c h = ap (λ x. takes (Scalar (Enum n)) x) h.1
taken (Scalar Fixed32) c h = ap (λ x. takes (Scalar Fixed32) x) h.1
taken (Scalar Fixed64) c h = ap (λ x. takes (Scalar Fixed64) x) h.1
taken (Scalar String) c h = ap (λ x. takes (Scalar String) x) h.1
taken (Scalar Bytes) c h = ap (λ x. takes (Scalar Bytes) x) h.1

-- The numbers of the members that take it.
abbrev names : Content → List Member → List ℕ
names c [] = []
names c (m ∷ ms) = cond (takes m.kind c) (m.number ∷ names c ms) (names c ms)

named : (ms : List Member) (g : ℕ) (c : Content) (k : Kind) → kind_in ms g ≡ Some k → FormContent F k c → is_one_of g (names c ms) ≡ true
named [] g c k e f = absurd (cc)
named (m ∷ ms) g c k e f = go (λ q. named ms g c k q f) (eqb m.number g) refl e
  where
    later : eqb m.number g ≡ false → (t : Bool) → is_one_of g (names c ms) ≡ true → is_one_of g (cond t (m.number ∷ names c ms) (names c ms)) ≡ true
    later is true h = rw is h
    later is false h = h

    go : (kind_in ms g ≡ Some k → is_one_of g (names c ms) ≡ true) → (b : Bool) → eqb m.number g ≡ b → cond b (Some m.kind) (kind_in ms g) ≡ Some k → is_one_of g (names c (m ∷ ms)) ≡ true
    go ih true is q = let t : takes m.kind c ≡ true = ap (λ x. takes x c) (same_Some m.kind k q) ∙ taken k c f in rw (t, is) refl
    go ih false is q = later is (takes m.kind c) (ih q)

name_of : (g : ℕ) (c : Content) → HasForm scalar_lists 15 (lone_member g c) → is_one_of g (names c value_members) ≡ true
name_of g c f =
    let s : FormSlots F value_list (lone_member g c) = slots_of_form scalar_lists 15 (lone_member g c) f in
    let same : (g, c) ∷ [] ≡ s.0 = same_slot ((g, c) ∷ []) s.0 [] s.1 s.2 in
    let h : FormEntries F value_members ((g, c) ∷ []) = subst (λ (es : List Entry). FormEntries F value_members es) (sym same) s.4 in
    named value_members g c h.0.0 h.0.1 h.0.2

-- A number is the first of some, or one of the others.
either : (g m : ℕ) (ms : List ℕ) → is_one_of g (m ∷ ms) ≡ true → (g ≡ m) ⊎ (is_one_of g ms ≡ true)
either g m ms h = go (eqb m g) refl h
  where
    go : (b : Bool) → eqb m g ≡ b → cond b true (is_one_of g ms) ≡ true → (g ≡ m) ⊎ (is_one_of g ms ≡ true)
    go true is q = inl (sym (eqb-true m g is))
    go false is q = inr q

another : (g m : ℕ) (ms : List ℕ) → (g ≡ m → ⊥) → is_one_of g (m ∷ ms) ≡ true → is_one_of g ms ≡ true
another g m ms x h = elim (either g m ms h) [ inl e ↦ absurd (x e) | inr q ↦ q ]

no_more : (g : ℕ) → is_one_of g [] ≡ true → ⊥
no_more g h = absurd (cc)

-- A member that holds octets is a string or bytes,
pub octets_name : (g : ℕ) (bs : List ℕ) → HasForm scalar_lists 15 (lone_member g (octets bs)) → (g ≡ 7) ⊎ (g ≡ 8)
octets_name g bs f = elim (either g 7 (8 ∷ []) (name_of g (octets bs) f)) [ inl e ↦ inl e | inr q ↦ elim (either g 8 [] q) [ inl e ↦ inr e | inr z ↦ absurd (no_more g z) ] ]

-- one that holds a number is one of those of numbers,
pub number_name : (g n : ℕ) → HasForm scalar_lists 15 (lone_member g (number n)) → (g ≡ 1 → ⊥) → (g ≡ 2 → ⊥) → (g ≡ 3 → ⊥) → (g ≡ 4 → ⊥) → (g ≡ 5 → ⊥) → (g ≡ 6 → ⊥) → (g ≡ 10 → ⊥) → ⊥
number_name g n f a b c d e x y =
    no_more g (another g 10 [] y (another g 6 (10 ∷ []) x (another g 5 (6 ∷ 10 ∷ []) e (another g 4 (5 ∷ 6 ∷ 10 ∷ []) d (another g 3 (4 ∷ 5 ∷ 6 ∷ 10 ∷ []) c
    (another g 2 (3 ∷ 4 ∷ 5 ∷ 6 ∷ 10 ∷ []) b (another g 1 (2 ∷ 3 ∷ 4 ∷ 5 ∷ 6 ∷ 10 ∷ []) a (name_of g (number n) f))))))))

-- and one that holds a message is one of those of messages.
pub message_name : (g : ℕ) (w : Value) → HasForm scalar_lists 15 (lone_member g (message (slots_of w))) → (g ≡ 9 → ⊥) → (g ≡ 11 → ⊥) → (g ≡ 12 → ⊥) → ⊥
message_name g w f a b c = no_more g (another g 12 [] c (another g 11 (12 ∷ []) b (another g 9 (11 ∷ 12 ∷ []) a (name_of g (message (slots_of w)) f))))

pub null_number : (n : ℕ) → HasForm scalar_lists 15 (lone_member 1 (number n)) → n ≡ 0
null_number n f = let h : FormContent F (Scalar (Enum 1)) (number n) = content_at 1 (number n) (Scalar (Enum 1)) refl f in omega (arith, same_number n h.0 h.1, h.2)

pub flag_below : (n : ℕ) → HasForm scalar_lists 15 (lone_member 2 (number n)) → n < 2
flag_below n f = let h : FormContent F (Scalar Flag) (number n) = content_at 2 (number n) (Scalar Flag) refl f in omega (arith, same_number n h.0 h.1, h.2)

pub null_held : (g n : ℕ) → g ≡ 1 → HasForm scalar_lists 15 (lone_member g (number n)) → Holds (lone_member g (number n)) 1 (number 0)
null_held g n e f =
    let none : n ≡ 0 = null_number n (subst (λ (k : ℕ). HasForm scalar_lists 15 (lone_member k (number n))) e f) in
    ap (λ (k : ℕ). lone_member k (number n)) e ∙ ap (λ (x : ℕ). lone_member 1 (number x)) none

-- A value is read of a member, whichever name its number has.
pub held_under : (s : ExtMeaning) (v : V.Value) (d : Typ) (g k : ℕ) (c : Content) → g ≡ k → ReadsValue s v d (lone_member k c) → ReadsValue s v d (lone_member g c)
held_under s v d g k c e r = subst (λ (j : ℕ). ReadsValue s v d (lone_member j c)) (sym e) r

-- A member that is a message, as the code holds it.
pub message_held : (m : Value) (x : ℕ × Element) (parts : Vec (Vec (ℕ × Element))) (items : List (Vec (ℕ × Element))) → m ≡ lone_member x.0 (view x.1) → x.1 ≡ as_a_message parts
    → items ≡ parts.items → m ≡ lone_member x.0 (message (slots_of (value_view items)))
message_held m x parts items e is same = e ∙ ap (λ (c : Content). lone_member x.0 c) (ap view is ∙ shows_message parts (value_view items) (ap value_view (sym same)))

-- A member is refused, whichever name its number has.
pub refused_under : (e : ScalarWireError) (s : ExtMeaning) (most : ℕ) (d : Typ) (g k : ℕ) (c : Content) → g ≡ k → RefusesReadingValue e s most d (lone_member k c) → RefusesReadingValue e s most d (lone_member g c)
refused_under e s most d g k c is r = subst (λ (j : ℕ). RefusesReadingValue e s most d (lone_member j c)) (sym is) r

-- A message in it has its form.
pub held_form : (g place : ℕ) (w : Value) → kind_in value_members g ≡ Some (Message place) → HasForm scalar_lists 15 (lone_member g (message (slots_of w))) → HasForm scalar_lists place w
held_form g place w e f =
    let h : FormContent F (Message place) (message (slots_of w)) = content_at g (message (slots_of w)) (Message place) e f in
    subst (λ (v : Value). HasForm scalar_lists place v) (sym (same_message w h.0 h.1)) h.2

-- What a slot shows: nothing, or a first member and others.
pub none_view : (es : List (ℕ × Element)) → length es < 1 → entries_view es ≡ []
none_view [] h = refl
none_view (x ∷ es) h = absurd (omega arith)

pub first_view : (es : List (ℕ × Element)) (x : ℕ × Element) → 0 < length es → x ≡ get_or es 0 x → (rest : List Entry) × (entries_view es ≡ (x.0, view x.1) ∷ rest)
first_view [] x h e = absurd (omega arith)
first_view (y ∷ es) x h e = (entries_view es, ap (λ (z : ℕ × Element). seen z ∷ entries_view es) (sym e))

-- ---- the elements of a list's message

pub list_is : (m : Value) → HasForm scalar_lists 16 m → m ≡ entries_in m 0 ∷ []
list_is m f =
    let s : FormSlots F list_list m = slots_of_form scalar_lists 16 m f in
    let k : s.0 ≡ entries_in m 0 = sym (ap (λ (v : Value). entries_in v 0) s.2) in
    s.2 ∙ ap (λ (es : List Entry). es ∷ s.1) k ∙ ap (λ (v : Value). entries_in m 0 ∷ v) s.5

list_formed : (m : Value) → HasForm scalar_lists 16 m → FormEntries F (nested_member 1 15 ∷ []) (entries_in m 0)
list_formed m f =
    let s : FormSlots F list_list m = slots_of_form scalar_lists 16 m f in
    subst (λ (es : List Entry). FormEntries F (nested_member 1 15 ∷ []) es) (sym (ap (λ (v : Value). entries_in v 0) s.2)) s.4

pub element : (m w : Value) (es : List (ℕ × Element)) (i : ℕ) (x : ℕ × Element) → HasForm scalar_lists 16 m → entries_view es ≡ entries_in m 0 → i < length es → x ≡ get_or es i x
    → Some w ≡ message_of (view (get_or es i x).1) → (seen x ≡ (1, message (slots_of w))) × HasForm scalar_lists 15 w
element m w es i x f e lt is held =
    let all : FormEntries F (nested_member 1 15 ∷ []) (entries_view es) = subst (λ (ys : List Entry). FormEntries F (nested_member 1 15 ∷ []) ys) (sym e) (list_formed m f) in
    let h = holds_message F 1 15 (x.0, view x.1) (entry_form F (nested_member 1 15 ∷ []) es i x lt is all) in
    let same : w ≡ h.value = same_Some w h.value (held ∙ ap (λ (z : ℕ × Element). message_of (view z.1)) (sym is) ∙ message_is (view x.1) h.value (ap (λ (y : Entry). y.1) h.is)) in
    (h.is ∙ ap (λ (v : Value). (1, message (slots_of v))) (sym same), subst (λ (v : Value). HasForm scalar_lists 15 v) (sym same) h.form)

pub no_message : (m : Value) (es : List (ℕ × Element)) (i : ℕ) (x : ℕ × Element) → HasForm scalar_lists 16 m → entries_view es ≡ entries_in m 0 → i < length es → x ≡ get_or es i x
    → None ≡ message_of (view (get_or es i x).1) → ⊥
no_message m es i x f e lt is held =
    let all : FormEntries F (nested_member 1 15 ∷ []) (entries_view es) = subst (λ (ys : List Entry). FormEntries F (nested_member 1 15 ∷ []) ys) (sym e) (list_formed m f) in
    let h = holds_message F 1 15 (x.0, view x.1) (entry_form F (nested_member 1 15 ∷ []) es i x lt is all) in
    none-some h.value (held ∙ ap (λ (z : ℕ × Element). message_of (view z.1)) (sym is) ∙ message_is (view x.1) h.value (ap (λ (y : Entry). y.1) h.is))

-- ---- the parts of a union's message and of a scalar's

nothing_in : (w : Value) (es : List Entry) → es ≡ [] → Some w ≡ message_in es → ⊥
nothing_in w es e held = none-some w (sym (held ∙ ap message_in e))

nested_part : (n place : ℕ) (es : List Entry) (w : Value) → Has F (nested n place) es → Some w ≡ message_in es → (es ≡ one_message n w) × F place w
nested_part n place es w h held = go (nested_holds F n place es h)
  where
    go : (es ≡ []) ⊎ HoldsMember F (field n (Message place)) es → (es ≡ one_message n w) × F place w
    go (inl e) = absurd (nothing_in w es e held)
    go (inr k) =
        let same : w ≡ k.form.0 = same_Some w k.form.0 (held ∙ ap message_in k.is ∙ message_is k.element k.form.0 k.form.1) in
        (k.is ∙ ap (λ (c : Content). (n, c) ∷ []) k.form.1 ∙ ap (λ (v : Value). one_message n v) (sym same), subst (λ (v : Value). F place v) (sym same) k.form.2)

pub union_parts : (m w : Value) (n : ℕ) → HasForm scalar_lists 17 m → Some n ≡ number_in (entries_in m 0) → Some w ≡ message_in (entries_in m 1)
    → (m ≡ one_number 1 n ∷ one_message 2 w ∷ []) × HasForm scalar_lists 15 w
union_parts m w n f a b =
    let t = two_of F (plain 1 Uint32) (nested 2 15) m (slots_of_form scalar_lists 17 m f) in
    let k = plain_holds F 1 Uint32 t.a t.has_a in
    let number_is : n ≡ k.form.0 = same_Some n k.form.0 (a ∙ ap (λ (v : Value). number_in (entries_in v 0)) t.is ∙ ap number_in (k.is ∙ ap (λ (c : Content). (1, c) ∷ []) k.form.1)) in
    let p = nested_part 2 15 t.b w t.has_b (b ∙ ap (λ (v : Value). message_in (entries_in v 1)) t.is) in
    let first : t.a ≡ one_number 1 n = k.is ∙ ap (λ (c : Content). (1, c) ∷ []) k.form.1 ∙ ap (λ (x : ℕ). one_number 1 x) (sym number_is) in
    (t.is ∙ ap (λ (es : List Entry). es ∷ t.b ∷ []) first ∙ ap (λ (es : List Entry). one_number 1 n ∷ es ∷ []) p.0, p.1)

-- A union's message has a tag.
pub no_tag : (m : Value) → HasForm scalar_lists 17 m → None ≡ number_in (entries_in m 0) → ⊥
no_tag m f a =
    let t = two_of F (plain 1 Uint32) (nested 2 15) m (slots_of_form scalar_lists 17 m f) in
    let k = plain_holds F 1 Uint32 t.a t.has_a in
    none-some k.form.0 (a ∙ ap (λ (v : Value). number_in (entries_in v 0)) t.is ∙ ap number_in (k.is ∙ ap (λ (c : Content). (1, c) ∷ []) k.form.1))

pub scalar_parts : (m d w : Value) → HasForm scalar_lists 14 m → Some d ≡ message_in (entries_in m 0) → Some w ≡ message_in (entries_in m 1)
    → (m ≡ one_message 1 d ∷ one_message 2 w ∷ []) × HasForm type_lists 0 d × HasForm scalar_lists 15 w
scalar_parts m d w f a b =
    let t = two_of F (nested 1 0) (nested 2 15) m (slots_of_form scalar_lists 14 m f) in
    let p = nested_part 1 0 t.a d t.has_a (a ∙ ap (λ (v : Value). message_in (entries_in v 0)) t.is) in
    let q = nested_part 2 15 t.b w t.has_b (b ∙ ap (λ (v : Value). message_in (entries_in v 1)) t.is) in (
      t.is ∙ ap (λ (es : List Entry). es ∷ t.b ∷ []) p.0 ∙ ap (λ (es : List Entry). one_message 1 d ∷ es ∷ []) q.0,
      (same_form type_lists (scalar_list ∷ value_list ∷ list_list ∷ union_list ∷ []) 0 d type_lists_lawful (omega arith)).1 p.1,
      q.1,
    )
