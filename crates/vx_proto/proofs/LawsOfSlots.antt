-- The form of a message slot by slot: taken apart, and put together.
use Rattle.std.specs.Prelude.{◌≡◌, ◌⊎◌, ℕ, List, [], ◌∷◌, refl}
use Rattle.std.proofs.Common.{ap, ◌∙◌, arith}
use Rattle.std.proofs.lemmas.Bool.{eq-eqb}
use Rattle.vx_proto.specs.declared.schema.ScalarKind.{ScalarKind}
use Rattle.vx_proto.specs.declared.schema.Kind.{Kind}
use Rattle.vx_proto.specs.declared.schema.Kind.TheVariants.{Scalar, Message}
use Rattle.vx_proto.specs.Schema.{Slot, field, plain, nested, repeated, members_of}
use Rattle.vx_proto.specs.Value.{Content, message, Entry, Value, slots_of}
use Rattle.vx_proto.specs.Form.{FormScalar, FormContent, FormEntries, FormCount, FormSlots}
use Rattle.vx_proto.proofs.LawsOfForms.{HoldsMember, exactly_one, none_or_one}
use Rattle.vx_proto.specs.Repeated.{members}

-- The members of a slot have its form: as many as it keeps, each of its kind.
pub record Has (F : ℕ → Value → Type 0) (s : Slot) (es : List Entry) : Type 0 where
  pub count : FormCount s es
  pub form : FormEntries F (members_of s) es

-- ---- taken apart

-- Messages of one slot, of two, three and four.
pub record One (F : ℕ → Value → Type 0) (s : Slot) (v : Value) : Type 0 where
  pub a : List Entry
  pub is : v ≡ a ∷ []
  pub has : Has F s a

pub record Two (F : ℕ → Value → Type 0) (s r : Slot) (v : Value) : Type 0 where
  pub a : List Entry
  pub b : List Entry
  pub is : v ≡ a ∷ b ∷ []
  pub has_a : Has F s a
  pub has_b : Has F r b

pub record Three (F : ℕ → Value → Type 0) (s r q : Slot) (v : Value) : Type 0 where
  pub a : List Entry
  pub b : List Entry
  pub c : List Entry
  pub is : v ≡ a ∷ b ∷ c ∷ []
  pub has_a : Has F s a
  pub has_b : Has F r b
  pub has_c : Has F q c

pub record Four (F : ℕ → Value → Type 0) (s r q p : Slot) (v : Value) : Type 0 where
  pub a : List Entry
  pub b : List Entry
  pub c : List Entry
  pub d : List Entry
  pub is : v ≡ a ∷ b ∷ c ∷ d ∷ []
  pub has_a : Has F s a
  pub has_b : Has F r b
  pub has_c : Has F q c
  pub has_d : Has F p d

-- Slots of a list, one after the other.
first : (F : ℕ → Value → Type 0) (s : Slot) (ss : List Slot) (v : Value) → FormSlots F (s ∷ ss) v → (a : List Entry) × (more : Value) × (v ≡ a ∷ more) × Has F s a × FormSlots F ss more
first F s ss v f = (f.0, f.1, f.2, record { count = f.3; form = f.4 }, f.5)

pub none_of : (F : ℕ → Value → Type 0) (v : Value) → FormSlots F [] v → v ≡ []
none_of F v f = f

pub one_of : (F : ℕ → Value → Type 0) (s : Slot) (v : Value) → FormSlots F (s ∷ []) v → One F s v
one_of F s v f = let x = first F s [] v f in record { a = x.0; is = x.2 ∙ ap (λ (z : Value). x.0 ∷ z) x.4; has = x.3 }

pub two_of : (F : ℕ → Value → Type 0) (s r : Slot) (v : Value) → FormSlots F (s ∷ r ∷ []) v → Two F s r v
two_of F s r v f =
    let x = first F s (r ∷ []) v f in
    let y = one_of F r x.1 x.4 in
    record { a = x.0; b = y.a; is = x.2 ∙ ap (λ (z : Value). x.0 ∷ z) y.is; has_a = x.3; has_b = y.has }

pub three_of : (F : ℕ → Value → Type 0) (s r q : Slot) (v : Value) → FormSlots F (s ∷ r ∷ q ∷ []) v → Three F s r q v
three_of F s r q v f =
    let x = first F s (r ∷ q ∷ []) v f in
    let y = two_of F r q x.1 x.4 in
    record { a = x.0; b = y.a; c = y.b; is = x.2 ∙ ap (λ (z : Value). x.0 ∷ z) y.is; has_a = x.3; has_b = y.has_a; has_c = y.has_b }

pub four_of : (F : ℕ → Value → Type 0) (s r q p : Slot) (v : Value) → FormSlots F (s ∷ r ∷ q ∷ p ∷ []) v → Four F s r q p v
four_of F s r q p v f =
    let x = first F s (r ∷ q ∷ p ∷ []) v f in
    let y = three_of F r q p x.1 x.4 in
    record { a = x.0; b = y.a; c = y.b; d = y.c; is = x.2 ∙ ap (λ (z : Value). x.0 ∷ z) y.is; has_a = x.3; has_b = y.has_a; has_c = y.has_b; has_d = y.has_c }

-- What a plain slot holds: its one member. What a slot of a message holds: no member, or its own.
pub plain_holds : (F : ℕ → Value → Type 0) (n : ℕ) (k : ScalarKind) (es : List Entry) → Has F (plain n k) es → HoldsMember F (field n (Scalar k)) es
plain_holds F n k es h = exactly_one F (field n (Scalar k)) es h.count h.form

pub nested_holds : (F : ℕ → Value → Type 0) (n place : ℕ) (es : List Entry) → Has F (nested n place) es → (es ≡ []) ⊎ HoldsMember F (field n (Message place)) es
nested_holds F n place es h = none_or_one F (field n (Message place)) es h.count h.form

-- Each member of a repeated slot is its member.
pub record IsMember (F : ℕ → Value → Type 0) (n : ℕ) (k : Kind) (x : Entry) : Type 0 where
  pub element : Content
  pub is : x ≡ (n, element)
  pub form : FormContent F k element

head_entry : Entry → List Entry → Entry
head_entry d [] = d
head_entry d (x ∷ xs) = x

pub repeated_member : (F : ℕ → Value → Type 0) (n : ℕ) (k : Kind) (x : Entry) (xs : List Entry) → FormEntries F (field n k ∷ []) (x ∷ xs) → IsMember F n k x
unfolding head_entry
repeated_member F n k x xs f =
    let h = exactly_one F (field n k) (x ∷ []) refl (f.0, tt) in
    record { element = h.element; is = ap (head_entry x) h.is; form = h.form }

-- ---- put together

pub has_plain : (F : ℕ → Value → Type 0) (n : ℕ) (k : ScalarKind) (e : Content) → FormScalar k e → Has F (plain n k) ((n, e) ∷ [])
has_plain F n k e f = record { count = refl; form = ((Scalar k, rw (eq-eqb n n refl) refl, f), tt) }

pub has_nested : (F : ℕ → Value → Type 0) (n place : ℕ) (v : Value) → F place v → Has F (nested n place) ((n, message (slots_of v)) ∷ [])
has_nested F n place v f = record { count = omega arith; form = ((Message place, rw (eq-eqb n n refl) refl, (v, refl, f)), tt) }

pub has_none : (F : ℕ → Value → Type 0) (n place : ℕ) → Has F (nested n place) []
has_none F n place = record { count = omega arith; form = tt }

-- The members of a repeated slot, one for each of some values.
abbrev pub Each : {T : Type 0} → (T → Type 0) → List T → Type 0
Each P [] = Unit {0}
Each P (t ∷ ts) = P t × Each P ts

entries_form : {T : Type 0} (F : ℕ → Value → Type 0) (n : ℕ) (k : Kind) (content : T → Content) (ts : List T) → Each (λ t. FormContent F k (content t)) ts → FormEntries F (field n k ∷ []) (members content n ts)
entries_form F n k content [] h = tt
entries_form F n k content (t ∷ ts) h = ((k, rw (eq-eqb n n refl) refl, h.0), entries_form F n k content ts h.1)

pub has_repeated : {T : Type 0} (F : ℕ → Value → Type 0) (n : ℕ) (k : Kind) (content : T → Content) (ts : List T) → Each (λ t. FormContent F k (content t)) ts → Has F (repeated n k) (members content n ts)
has_repeated F n k content ts h = record { count = tt; form = entries_form F n k content ts h }

-- Messages of one slot, of two, three and four.
pub form_one : {F : ℕ → Value → Type 0} {s : Slot} {a : List Entry} → Has F s a → FormSlots F (s ∷ []) (a ∷ [])
form_one {a = a} h = (a, [], refl, h.count, h.form, refl)

pub form_two : {F : ℕ → Value → Type 0} {s r : Slot} {a b : List Entry} → Has F s a → Has F r b → FormSlots F (s ∷ r ∷ []) (a ∷ b ∷ [])
form_two {a = a} {b = b} h i = (a, b ∷ [], refl, h.count, h.form, form_one i)

pub form_three : {F : ℕ → Value → Type 0} {s r q : Slot} {a b c : List Entry} → Has F s a → Has F r b → Has F q c → FormSlots F (s ∷ r ∷ q ∷ []) (a ∷ b ∷ c ∷ [])
form_three {a = a} {b = b} {c = c} h i j = (a, b ∷ c ∷ [], refl, h.count, h.form, form_two i j)

pub form_four : {F : ℕ → Value → Type 0} {s r q p : Slot} {a b c d : List Entry} → Has F s a → Has F r b → Has F q c → Has F p d → FormSlots F (s ∷ r ∷ q ∷ p ∷ []) (a ∷ b ∷ c ∷ d ∷ [])
form_four {a = a} {b = b} {c = c} {d = d} h i j k = (a, b ∷ c ∷ d ∷ [], refl, h.count, h.form, form_three i j k)
