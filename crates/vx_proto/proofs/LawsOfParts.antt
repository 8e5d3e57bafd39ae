-- Combinators: the value that a slot of each form stands for, with its laws proved once; and messages as their slots,
-- one after the other. A message type gives one part for each slot. It gets its plain value, its form both ways, and
-- the law that the plain value determines it.
use Rattle.std.specs.Prelude.{◌≡◌, ◌<◌, ◌^◌, ◌⊎◌, ℕ, List, [], ◌∷◌, Option, Some, None, refl}
use Rattle.std.proofs.Common.{sym, ap, subst, ◌∙◌, inl, inr, arith}
use Rattle.std.proofs.lemmas.Bool.{eq-eqb}
use Rattle.vx_proto.specs.declared.schema.ScalarKind.{ScalarKind}
use Rattle.vx_proto.specs.declared.schema.ScalarKind.TheVariants.{Uint32, Uint64, Int32, Sint64, Flag, Enum, Fixed32, Fixed64, String, Bytes}
use Rattle.vx_proto.specs.declared.schema.Kind.TheVariants.{Scalar, Message}
use Rattle.vx_proto.specs.Schema.{Slot, plain, optional, nested, Schema, field, list_at}
use Rattle.vx_proto.specs.Value.{Content, number, octets, message, Entry, Value, slots_of}
use Rattle.vx_proto.specs.Form.{FormScalar, FormSlots, HasForm}
use Rattle.vx_proto.specs.Parts.{number_in, octets_in, message_in}
use Rattle.vx_proto.specs.Codes.{value_again}
use Rattle.vx_proto.proofs.LawsOfForms.{HoldsMember, none_or_one, form_of_slots, slots_of_form, same_content, same_number, same_octets, same_message, same_slot, same_rest}
use Rattle.vx_proto.proofs.LawsOfSlots.{Has, plain_holds, has_plain, has_none, has_nested, nested_holds}
-- Elements from a place on are the one there and those after it.
pub use Rattle.vx_proto.proofs.Suffixes.{entries_at}

-- A slot as a value: its members for a value that fits, the value of its members, and that the members determine it.
pub record Part (F : ℕ → Value → Type 0) (s : Slot) (T : Type 0) (Fits : T → Type 0) : Type 0 where
  pub entries : T → List Entry
  pub form : (t : T) → Fits t → Has F s (entries t)
  pub read : (es : List Entry) → Has F s es → (t : T) × (es ≡ entries t) × Fits t
  pub same : (t u : T) → entries t ≡ entries u → t ≡ u

-- Slots one after the other, as a value.
pub record Parts (F : ℕ → Value → Type 0) (ss : List Slot) (T : Type 0) (Fits : T → Type 0) : Type 0 where
  pub value : T → Value
  pub form : (t : T) → Fits t → FormSlots F ss (value t)
  pub read : (v : Value) → FormSlots F ss v → (t : T) × (v ≡ value t) × Fits t
  pub same : (t u : T) → value t ≡ value u → t ≡ u

-- ---- products

-- No slots.
abbrev pub nothing : {F : ℕ → Value → Type 0} → Parts F [] (Unit {0}) (λ _. Unit {0})
nothing = record { value = λ t. []; form = λ t h. refl; read = λ v f. (tt, f, tt); same = λ t u e. refl }

pub with_form : (F : ℕ → Value → Type 0) (s : Slot) (ss : List Slot) (a : List Entry) (v : Value) → Has F s a → FormSlots F ss v → FormSlots F (s ∷ ss) (a ∷ v)
with_form F s ss a v h f = (a, v, refl, h.count, h.form, f)

split_form : (F : ℕ → Value → Type 0) (s : Slot) (ss : List Slot) (v : Value) → FormSlots F (s ∷ ss) v → (a : List Entry) × (w : Value) × (v ≡ a ∷ w) × Has F s a × FormSlots F ss w
split_form F s ss v f = (f.0, f.1, f.2, record { count = f.3; form = f.4 }, f.5)

-- Each of the two fits.
abbrev pub Both : {T U : Type 0} → (T → Type 0) → (U → Type 0) → T × U → Type 0
Both P Q x = P x.0 × Q x.1

pub with_read : {T U : Type 0} {P : T → Type 0} {Q : U → Type 0} (F : ℕ → Value → Type 0) (s : Slot) (ss : List Slot) (a : T → List Entry) (b : U → Value)
    → ((es : List Entry) → Has F s es → (t : T) × (es ≡ a t) × P t) → ((v : Value) → FormSlots F ss v → (u : U) × (v ≡ b u) × Q u)
    → (v : Value) → FormSlots F (s ∷ ss) v → (x : T × U) × (v ≡ a x.0 ∷ b x.1) × (P x.0 × Q x.1)
with_read F s ss a b here there v f =
    let x = split_form F s ss v f in
    let t = here x.0 x.3 in
    let u = there x.1 x.4 in
    ((t.0, u.0), x.2 ∙ (λ i. t.1 i ∷ u.1 i), (t.2, u.2))

pub with_same : {T U : Type 0} (a : T → List Entry) (b : U → Value) → ((t u : T) → a t ≡ a u → t ≡ u) → ((t u : U) → b t ≡ b u → t ≡ u)
    → (x y : T × U) → a x.0 ∷ b x.1 ≡ a y.0 ∷ b y.1 → x ≡ y
with_same a b here there x y e = λ i. (here x.0 y.0 (same_slot (a x.0) (a y.0) (b x.1) (b y.1) e) i, there x.1 y.1 (same_rest (a x.0) (a y.0) (b x.1) (b y.1) e) i)

infixr 5 ◌and◌
-- A slot before others.
abbrev pub ◌and◌ : {F : ℕ → Value → Type 0} {s : Slot} {ss : List Slot} {T U : Type 0} {P : T → Type 0} {Q : U → Type 0} → Part F s T P → Parts F ss U Q → Parts F (s ∷ ss) (T × U) (Both P Q)
◌and◌ {F = F} {s = s} {ss = ss} a b = record {
  value = λ x. a.entries x.0 ∷ b.value x.1;
  form = λ x h. with_form F s ss (a.entries x.0) (b.value x.1) (a.form x.0 h.0) (b.form x.1 h.1);
  read = with_read F s ss a.entries b.value a.read b.read;
  same = with_same a.entries b.value a.same b.same;
}

-- ---- numbers, texts and bytes

-- A kind of numbers, and one of texts or bytes.
abbrev pub IsNumeric : ScalarKind → Type 0
IsNumeric String = ⊥
IsNumeric Bytes = ⊥
IsNumeric k = Unit {0}

abbrev pub IsOctets : ScalarKind → Type 0
IsOctets String = Unit {0}
IsOctets Bytes = Unit {0}
IsOctets k = ⊥

-- What a member of a kind of numbers holds is a number in its range.
pub number_held : (k : ScalarKind) (e : Content) → IsNumeric k → FormScalar k e → (n : ℕ) × (e ≡ number n) × FormScalar k (number n)
number_held Uint32 e h f = (f.0, f.1, (f.0, refl, f.2))
number_held Uint64 e h f = (f.0, f.1, (f.0, refl, f.2))
number_held Int32 e h f = (f.0, f.1, (f.0, refl, f.2))
number_held Sint64 e h f = (f.0, f.1, (f.0, refl, f.2))
number_held Flag e h f = (f.0, f.1, (f.0, refl, f.2))
number_held (Enum codes) e h f = (f.0, f.1, (f.0, refl, f.2))
number_held Fixed32 e h f = (f.0, f.1, (f.0, refl, f.2))
number_held Fixed64 e h f = (f.0, f.1, (f.0, refl, f.2))
number_held String e h f = absurd h
number_held Bytes e h f = absurd h

-- What a member of a kind of texts or bytes holds is bytes of that kind.
pub octets_held : (k : ScalarKind) (e : Content) → IsOctets k → FormScalar k e → (s : List ℕ) × (e ≡ octets s) × FormScalar k (octets s)
octets_held Uint32 e h f = absurd h
octets_held Uint64 e h f = absurd h
octets_held Int32 e h f = absurd h
octets_held Sint64 e h f = absurd h
octets_held Flag e h f = absurd h
octets_held (Enum codes) e h f = absurd h
octets_held Fixed32 e h f = absurd h
octets_held Fixed64 e h f = absurd h
octets_held String e h f = (f.0, f.1, (f.0, refl, f.2))
octets_held Bytes e h f = (f.0, f.1, (f.0, refl))

-- What a member of a kind holds, as the values of a type that lie in a range.
pub record Held (k : ScalarKind) (T : Type 0) : Type 0 where
  pub content : T → Content
  pub held : (e : Content) → FormScalar k e → (t : T) × (e ≡ content t) × FormScalar k (content t)
  pub same : (t u : T) → content t ≡ content u → t ≡ u

-- The numbers of a kind, and the texts or bytes of one.
abbrev pub numbers : (k : ScalarKind) → IsNumeric k → Held k ℕ
numbers k h = record { content = number; held = λ e f. number_held k e h f; same = same_number }

abbrev pub strings : (k : ScalarKind) → IsOctets k → Held k (List ℕ)
strings k h = record { content = octets; held = λ e f. octets_held k e h f; same = same_octets }

-- The range of a kind's values.
abbrev pub InRange : {k : ScalarKind} {T : Type 0} → Held k T → T → Type 0
InRange {k = k} h t = FormScalar k (h.content t)

-- The member of this number, or none.
abbrev pub slot_with : {T : Type 0} → (T → Content) → ℕ → Option T → List Entry
slot_with content i None = []
slot_with content i (Some t) = (i, content t) ∷ []

-- A fact of a value, where one stands.
abbrev pub IfStands : {T : Type 0} → (T → Type 0) → Option T → Type 0
IfStands P None = Unit {0}
IfStands P (Some t) = P t

pub slot_same : {T : Type 0} (content : T → Content) (i : ℕ) → ((t u : T) → content t ≡ content u → t ≡ u) → (x y : Option T) → slot_with content i x ≡ slot_with content i y → x ≡ y
slot_same content i same None None e = refl
slot_same content i same None (Some u) e = absurd cc
slot_same content i same (Some t) None e = absurd cc
slot_same {T = T} content i same (Some t) (Some u) e = ap (λ (x : T). Some x) (same t u (same_content i i (content t) (content u) [] [] e))

pub plain_same : {T : Type 0} (content : T → Content) (i : ℕ) → ((t u : T) → content t ≡ content u → t ≡ u) → (t u : T) → slot_with content i (Some t) ≡ slot_with content i (Some u) → t ≡ u
plain_same content i same t u e = same t u (same_content i i (content t) (content u) [] [] e)

pub plain_read : {T : Type 0} (F : ℕ → Value → Type 0) (i : ℕ) (k : ScalarKind) (h : Held k T) (es : List Entry) → Has F (plain i k) es → (t : T) × (es ≡ slot_with h.content i (Some t)) × InRange h t
plain_read F i k h es w =
    let m = plain_holds F i k es w in
    let r = h.held m.element m.form in
    (r.0, m.is ∙ ap (λ (e : Content). (i, e) ∷ []) r.1, r.2)

pub optional_form : {T : Type 0} (F : ℕ → Value → Type 0) (i : ℕ) (k : ScalarKind) (h : Held k T) (x : Option T) → IfStands (InRange h) x → Has F (optional i k) (slot_with h.content i x)
optional_form F i k h None r = record { count = omega arith; form = tt }
optional_form F i k h (Some t) r = record { count = omega arith; form = ((Scalar k, rw (eq-eqb i i refl) refl, r), tt) }

pub optional_read : {T : Type 0} (F : ℕ → Value → Type 0) (i : ℕ) (k : ScalarKind) (h : Held k T) (es : List Entry) → Has F (optional i k) es → (x : Option T) × (es ≡ slot_with h.content i x) × IfStands (InRange h) x
optional_read {T = T} F i k h es w = go (none_or_one F (field i (Scalar k)) es w.count w.form)
  where
    go : (es ≡ []) ⊎ HoldsMember F (field i (Scalar k)) es → (x : Option T) × (es ≡ slot_with h.content i x) × IfStands (InRange h) x
    go (inl e) = (None, e, tt)
    go (inr m) = let r = h.held m.element m.form in (Some r.0, m.is ∙ ap (λ (e : Content). (i, e) ∷ []) r.1, r.2)

-- A plain slot.
abbrev pub plain_part : {F : ℕ → Value → Type 0} {T : Type 0} (i : ℕ) {k : ScalarKind} (h : Held k T) → Part F (plain i k) T (InRange h)
plain_part {F = F} i {k = k} h = record {
  entries = λ t. slot_with h.content i (Some t);
  form = λ t r. has_plain F i k (h.content t) r;
  read = plain_read F i k h;
  same = plain_same h.content i h.same;
}

-- An optional slot.
abbrev pub optional_part : {F : ℕ → Value → Type 0} {T : Type 0} (i : ℕ) {k : ScalarKind} (h : Held k T) → Part F (optional i k) (Option T) (IfStands (InRange h))
optional_part {F = F} i {k = k} h = record {
  entries = slot_with h.content i;
  form = optional_form F i k h;
  read = optional_read F i k h;
  same = slot_same h.content i h.same;
}

pub seen_held : {k : ScalarKind} {T U : Type 0} (h : Held k T) (to : U → T) (of : T → U) → ((t : T) → InRange h t → to (of t) ≡ t) → (e : Content) → FormScalar k e → (u : U) × (e ≡ h.content (to u)) × FormScalar k (h.content (to u))
seen_held {k = k} {T = T} h to of again e f =
    let r = h.held e f in
    let p = sym (again r.0 r.2) in
    (of r.0, r.1 ∙ ap h.content p, subst (λ (t : T). FormScalar k (h.content t)) p r.2)

-- Values seen as those of another type, each in its range: an enum as its codes, a flag as its numbers.
abbrev pub seen_as : {k : ScalarKind} {T U : Type 0} (h : Held k T) (to : U → T) (of : T → U) → ((u : U) → of (to u) ≡ u) → ((t : T) → InRange h t → to (of t) ≡ t) → Held k U
seen_as {k = k} {T = T} {U = U} h to of back again = record {
  content = λ u. h.content (to u);
  held = seen_held h to of again;
  same = λ t u e. sym (back t) ∙ ap of (h.same (to t) (to u) e) ∙ back u;
}

-- ---- messages

-- A message that need not stand, of a type that has its own plain value.
abbrev pub message_of : {M : Type 0} → (M → Value) → M → Content
message_of value m = message (slots_of (value m))

pub nested_form : {M : Type 0} (F : ℕ → Value → Type 0) (i place : ℕ) (value : M → Value) (P : M → Type 0) → ((m : M) → P m → F place (value m)) → (x : Option M) → IfStands P x → Has F (nested i place) (slot_with (message_of value) i x)
nested_form F i place value P formed None h = has_none F i place
nested_form F i place value P formed (Some m) h = has_nested F i place (value m) (formed m h)

pub nested_read : {M : Type 0} (F : ℕ → Value → Type 0) (i place : ℕ) (value : M → Value) (P : M → Type 0) → ((v : Value) → F place v → (m : M) × (v ≡ value m) × P m)
    → (es : List Entry) → Has F (nested i place) es → (x : Option M) × (es ≡ slot_with (message_of value) i x) × IfStands P x
nested_read {M = M} F i place value P inside es h = go (nested_holds F i place es h)
  where
    go : (es ≡ []) ⊎ HoldsMember F (field i (Message place)) es → (x : Option M) × (es ≡ slot_with (message_of value) i x) × IfStands P x
    go (inl e) = (None, e, tt)
    go (inr w) =
        let r = inside w.form.0 w.form.2 in
        (Some r.0, w.is ∙ ap (λ (e : Content). (i, e) ∷ []) (w.form.1 ∙ ap (λ (v : Value). message (slots_of v)) r.1), r.2)

-- A message that need not stand: values that fit have the form, each value of the form comes from one that fits, and it
-- determines that one.
abbrev pub nested_part : {F : ℕ → Value → Type 0} {M : Type 0} (i place : ℕ) (value : M → Value) (P : M → Type 0) → ((m : M) → P m → F place (value m)) → ((v : Value) → F place v → (m : M) × (v ≡ value m) × P m)
    → ((m n : M) → value m ≡ value n → m ≡ n) → Part F (nested i place) (Option M) (IfStands P)
nested_part {F = F} i place value P formed inside same = record {
  entries = slot_with (message_of value) i;
  form = nested_form F i place value P formed;
  read = nested_read F i place value P inside;
  same = slot_same (message_of value) i (λ m n e. same m n (same_message (value m) (value n) e));
}

-- ---- whole messages

-- The form of a message, both ways.
pub whole_form : {T : Type 0} {P : T → Type 0} (schema : Schema) (place : ℕ) (parts : Parts (HasForm schema) (list_at schema place) T P) (t : T) → P t → HasForm schema place (parts.value t)
whole_form schema place parts t h = form_of_slots schema place (parts.value t) (parts.form t h)

pub whole_read : {T : Type 0} {P : T → Type 0} (schema : Schema) (place : ℕ) (parts : Parts (HasForm schema) (list_at schema place) T P) (v : Value) → HasForm schema place v → (t : T) × (v ≡ parts.value t) × P t
whole_read schema place parts v f = parts.read v (slots_of_form schema place v f)

-- The number in a slot that was made of an optional number is that number.
pub number_is : (i : ℕ) (x : Option ℕ) → number_in (slot_with number i x) ≡ x
number_is i None = refl
number_is i (Some n) = refl

pub octets_is : (i : ℕ) (x : Option (List ℕ)) → octets_in (slot_with octets i x) ≡ x
octets_is i None = refl
octets_is i (Some s) = refl

pub message_is_held : (i : ℕ) (x : Option Value) → message_in (slot_with (message_of (λ (v : Value). v)) i x) ≡ x
message_is_held i None = refl
message_is_held i (Some v) = ap (λ (w : Value). Some w) (value_again v)

-- ---- ranges of numbers

pub uint32_range : (n : ℕ) → FormScalar Uint32 (number n) → n < 2 ^ 32
uint32_range n f = omega (arith, same_number n f.0 f.1, f.2)

pub uint64_range : (n : ℕ) → FormScalar Uint64 (number n) → n < 2 ^ 64
uint64_range n f = omega (arith, same_number n f.0 f.1, f.2)

pub flag_range : (n : ℕ) → FormScalar Flag (number n) → n < 2
flag_range n f = omega (arith, same_number n f.0 f.1, f.2)

pub enum_range : (codes n : ℕ) → FormScalar (Enum codes) (number n) → n < codes
enum_range codes n f = omega (arith, same_number n f.0 f.1, f.2)
