-- What the form of a value says, one message at a time, for the types whose plain values have it.
use Rattle.std.specs.Prelude.{◌≡◌, ◌≤◌, ℕ, zero, suc, ◌⊎◌, Bool, true, false, cond, eqb, List, [], ◌∷◌, length, Some, None, refl}
use Rattle.std.proofs.Common.{sym, ap, subst, ◌∙◌, inl, inr, arith}
use Rattle.std.proofs.lemmas.Bool.{eqb-true}
use Rattle.std.proofs.lemmas.Option.{none-some}
use Rattle.vx_proto.specs.declared.schema.Kind.{Kind}
use Rattle.vx_proto.specs.declared.schema.Kind.TheVariants.{Scalar, Message}
use Rattle.vx_proto.specs.declared.schema.Member.{Member}
use Rattle.vx_proto.specs.Schema.{Slot, Schema, list_at, kind_in, members_of}
use Rattle.vx_proto.specs.Value.{Content, number, octets, message, Slots, Entry, Value, entries_of, slots_of, list_of, value_of}
use Rattle.vx_proto.specs.Form.{FormContent, FormEntries, FormSlots, FormWithin, HasForm}
use Rattle.vx_proto.specs.Written.{content_depth, entries_depth, slots_depth, nested}
-- A value has a form in a message of a schema exactly where it has it in the schema with more messages after it.
pub use Rattle.vx_proto.proofs.Longer.{same_form}

-- ---- a form within n messages

elem_within : (F G : ℕ → Value → Type 0) (m : ℕ) (k : Kind) (e : Content) → ((p : ℕ) (v : Value) → F p v → nested v ≤ m → G p v) → FormContent F k e → content_depth e ≤ m → FormContent G k e
elem_within F G m (Scalar k) e h f le = f
elem_within F G m (Message p) e h f le = (f.0, f.1, h p f.0 f.2 (subst (λ t. content_depth t ≤ m) f.1 le))

entries_within : (F G : ℕ → Value → Type 0) (m : ℕ) (members : List Member) (es : List Entry) → ((p : ℕ) (v : Value) → F p v → nested v ≤ m → G p v) → FormEntries F members es → entries_depth (entries_of es) ≤ m → FormEntries G members es
entries_within F G m members [] h f le = tt
entries_within F G m members (x ∷ xs) h f le = ((f.0.0, f.0.1, elem_within F G m f.0.0 x.1 h f.0.2 (omega arith)), entries_within F G m members xs h f.1 (omega arith))

slots_within : (F G : ℕ → Value → Type 0) (m : ℕ) (ss : List Slot) (v : Value) → ((p : ℕ) (w : Value) → F p w → nested w ≤ m → G p w) → FormSlots F ss v → slots_depth (slots_of v) ≤ m → FormSlots G ss v
slots_within F G m [] v h f le = f
slots_within F G m (s ∷ ss) v h f le =
    let both : slots_depth (slots_of (f.0 ∷ f.1)) ≤ m = subst (λ t. slots_depth (slots_of t) ≤ m) f.2 le in
    (f.0, f.1, f.2, f.3, entries_within F G m (members_of s) f.0 h f.4 (omega (arith, both)), slots_within F G m ss f.1 h f.5 (omega (arith, both)))

-- A value in which at most n messages nest has its form within n.
pub form_within : (schema : Schema) (left m place : ℕ) (v : Value) → FormWithin schema left place v → nested v ≤ m → FormWithin schema m place v
unfolding FormWithin
form_within schema zero m place v f le = absurd f
form_within schema (suc left) zero place v f le = absurd (omega arith)
form_within schema (suc left) (suc m) place v f le =
    slots_within (FormWithin schema left) (FormWithin schema m) m (list_at schema place) v (λ p w x y. form_within schema left m p w x y) f (omega arith)

-- A message has the form of its schema where its slots have it, including the messages in them.
pub form_of_slots : (schema : Schema) (place : ℕ) (v : Value) → FormSlots (HasForm schema) (list_at schema place) v → HasForm schema place v
unfolding HasForm FormWithin
form_of_slots schema place v f =
    let m = slots_depth (slots_of v) in
    (suc m, slots_within (HasForm schema) (FormWithin schema m) m (list_at schema place) v (λ p w x le. form_within schema x.0 m p w x.1 le) f (omega arith))

-- Where a message has the form of its schema, its slots have it, including the messages in them.
pub slots_of_form : (schema : Schema) (place : ℕ) (v : Value) → HasForm schema place v → FormSlots (HasForm schema) (list_at schema place) v
unfolding HasForm FormWithin
slots_of_form schema place v f = go f.0 f.1
  where
    go : (left : ℕ) → FormWithin schema left place v → FormSlots (HasForm schema) (list_at schema place) v
    go zero w = absurd w
    go (suc left) w = slots_within (FormWithin schema left) (HasForm schema) (slots_depth (slots_of v)) (list_at schema place) v (λ p u x le. (left, x)) w (omega arith)

-- A slot that holds one member of these: which one, of which kind, and what it holds.
pub record HoldsOne (F : ℕ → Value → Type 0) (members : List Member) (es : List Entry) : Type 0 where
  pub name : ℕ
  pub element : Content
  pub kind : Kind
  pub is : es ≡ (name, element) ∷ []
  pub has : kind_in members name ≡ Some kind
  pub form : FormContent F kind element

-- A slot that keeps one member at most is empty or holds one.
pub at_most_one : (F : ℕ → Value → Type 0) (members : List Member) (es : List Entry) → length es ≤ 1 → FormEntries F members es → (es ≡ []) ⊎ HoldsOne F members es
at_most_one F members [] le f = inl refl
at_most_one F members (x ∷ []) le f = inr (record { name = x.0; element = x.1; kind = f.0.0; is = refl; has = f.0.1; form = f.0.2 })
at_most_one F members (x ∷ y ∷ es) le f = absurd (omega arith)

-- A plain slot holds its one member, whose number and kind are known.
pub record HoldsMember (F : ℕ → Value → Type 0) (m : Member) (es : List Entry) : Type 0 where
  pub element : Content
  pub is : es ≡ (m.number, element) ∷ []
  pub form : FormContent F m.kind element

known : (F : ℕ → Value → Type 0) (m : Member) (n : ℕ) (k : Kind) (e : Content) → kind_in (m ∷ []) n ≡ Some k → FormContent F k e → (n ≡ m.number) × FormContent F m.kind e
known F m n k e h f = go (eqb m.number n) refl h
  where
    go : (b : Bool) → eqb m.number n ≡ b → cond b (Some m.kind) None ≡ Some k → (n ≡ m.number) × FormContent F m.kind e
    go true is q = (sym (eqb-true m.number n is), (let same : k ≡ m.kind = cc in subst (λ j. FormContent F j e) same f))
    go false is q = absurd cc

-- A slot that keeps exactly one member, and knows only this one, holds it.
pub exactly_one : (F : ℕ → Value → Type 0) (m : Member) (es : List Entry) → length es ≡ 1 → FormEntries F (m ∷ []) es → HoldsMember F m es
exactly_one F m [] one f = absurd (omega arith)
exactly_one F m (x ∷ []) one f = let w = known F m x.0 f.0.0 x.1 f.0.1 f.0.2 in record { element = x.1; is = ap (λ (n : ℕ). (n, x.1) ∷ []) w.0; form = w.1 }
exactly_one F m (x ∷ y ∷ es) one f = absurd (omega arith)

-- The member that a oneof holds is the first of its members or one of the later ones; with no members there is none.
pub first_or_later : (F : ℕ → Value → Type 0) (m : Member) (ms : List Member) (es : List Entry) → HoldsOne F (m ∷ ms) es → HoldsMember F m es ⊎ HoldsOne F ms es
first_or_later F m ms es h = go (eqb m.number h.name) refl h.has
  where
    go : (b : Bool) → eqb m.number h.name ≡ b → cond b (Some m.kind) (kind_in ms h.name) ≡ Some h.kind → HoldsMember F m es ⊎ HoldsOne F ms es
    go true is q =
        let same : m.kind ≡ h.kind = cc in
        inl (record { element = h.element; is = h.is ∙ ap (λ (n : ℕ). (n, h.element) ∷ []) (sym (eqb-true m.number h.name is)); form = subst (λ k. FormContent F k h.element) (sym same) h.form })
    go false is q = inr (record { name = h.name; element = h.element; kind = h.kind; is = h.is; has = q; form = h.form })

-- A slot without members holds none.
pub holds_none : (F : ℕ → Value → Type 0) (es : List Entry) → HoldsOne F [] es → ⊥
holds_none F es h = absurd (none-some h.kind h.has)

-- A slot with one optional member is empty or holds that member.
pub none_or_one : (F : ℕ → Value → Type 0) (m : Member) (es : List Entry) → length es ≤ 1 → FormEntries F (m ∷ []) es → (es ≡ []) ⊎ HoldsMember F m es
none_or_one F m [] le f = inl refl
none_or_one F m (x ∷ []) le f = inr (exactly_one F m (x ∷ []) refl f)
none_or_one F m (x ∷ y ∷ es) le f = absurd (omega arith)

-- ---- equal lists have equal parts

-- The number of the first member, or 0.
first_name : List Entry → ℕ
first_name [] = 0
first_name (x ∷ xs) = x.0

-- What the first member holds, or 0.
first_content : List Entry → Content
first_content [] = number 0
first_content (x ∷ xs) = x.1

-- The first members have the same number.
pub same_name : (m n : ℕ) (a b : Content) (xs ys : List Entry) → (m, a) ∷ xs ≡ (n, b) ∷ ys → m ≡ n
unfolding first_name
same_name m n a b xs ys e = ap first_name e

-- The first members hold the same.
pub same_content : (m n : ℕ) (a b : Content) (xs ys : List Entry) → (m, a) ∷ xs ≡ (n, b) ∷ ys → a ≡ b
unfolding first_content
same_content m n a b xs ys e = ap first_content e

-- The members after the first are equal.
pub same_others : (m n : ℕ) (a b : Content) (xs ys : List Entry) → (m, a) ∷ xs ≡ (n, b) ∷ ys → xs ≡ ys
same_others m n a b xs ys e = cc

-- The first slots are equal.
pub same_slot : (xs ys : List Entry) (v w : Value) → xs ∷ v ≡ ys ∷ w → xs ≡ ys
same_slot xs ys v w e = cc

-- The slots after the first are equal.
pub same_rest : (xs ys : List Entry) (v w : Value) → xs ∷ v ≡ ys ∷ w → v ≡ w
same_rest xs ys v w e = cc

-- Members of equal numbers hold the same number.
pub same_number : (a b : ℕ) → number a ≡ number b → a ≡ b
same_number a b e = cc

-- Members of equal bytes hold the same bytes.
pub same_octets : (a b : List ℕ) → octets a ≡ octets b → a ≡ b
same_octets a b e = cc

-- Members of equal messages hold the same value.
pub same_message : (v w : Value) → message (slots_of v) ≡ message (slots_of w) → v ≡ w
same_message v w e = sym (slots_back v) ∙ ap value_of (go (slots_of v) (slots_of w) e) ∙ slots_back w
  where
    go : (a b : Slots) → message a ≡ message b → a ≡ b
    go a b q = cc

    list_back : (es : List Entry) → list_of (entries_of es) ≡ es
    list_back [] = refl
    list_back (x ∷ xs) = ap (λ (t : List Entry). x ∷ t) (list_back xs)

    slots_back : (u : Value) → value_of (slots_of u) ≡ u
    slots_back [] = refl
    slots_back (es ∷ u) = ap (λ (t : List Entry). t ∷ value_of (slots_of u)) (list_back es) ∙ ap (λ (t : Value). es ∷ t) (slots_back u)

-- Slots of one member each have the same member.
pub same_entry : (x y : Entry) → x ∷ [] ≡ y ∷ [] → x ≡ y
same_entry x y e = cc
