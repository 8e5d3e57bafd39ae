-- The steps of a loop that writes the values of a type as members of a repeated slot, and of one that reads them.
use Rattle.std.specs.Prelude.{◌≡◌, ◌+◌, ◌<◌, ◌≤◌, ℕ, zero, suc, List, [], ◌∷◌, ◌++◌, length, get_or, drop, refl}
use Rattle.std.specs.Global.{Vec}
use Rattle.std.proofs.Common.{sym, ap, subst, ◌∙◌, append_assoc, arith}
use Rattle.std.proofs.lemmas.Bool.{eq-eqb}
use Rattle.std.proofs.lemmas.List.{append-nil, drop_more}
use Rattle.vx_proto.specs.declared.schema.Kind.{Kind}
use Rattle.vx_proto.specs.declared.element.Element.{Element}
use Rattle.vx_proto.specs.declared.element.Element.TheViews.{Message}
use Rattle.vx_proto.specs.Schema.{field}
use Rattle.vx_proto.specs.Value.{Content, message, Entry, Value, slots_of, view, entries_view, value_view}
use Rattle.vx_proto.specs.Form.{FormContent, FormEntries}
use Rattle.vx_proto.specs.Repeated.{members, seen, nested_member}
use Rattle.vx_proto.proofs.LawsOfForms.{exactly_one, same_entry}
use Rattle.vx_proto.proofs.LawsOfViews.{view_message, view_append, form_append}

past : {A : Type 0} (xs : List A) (i : ℕ) → length xs ≤ i → drop i xs ≡ []
past [] zero le = refl
past [] (suc i) le = refl
past (x ∷ xs) zero le = absurd (omega arith)
past (x ∷ xs) (suc i) le = past xs i (omega arith)

-- What slots show as a member, where their value is known.
pub shows_message : (slots : Vec (Vec (ℕ × Element))) (v : Value) → value_view slots.items ≡ v → view (Message slots) ≡ message (slots_of v)
shows_message slots v is = view_message slots ∙ ap (λ (w : Value). message (slots_of w)) is

-- ---- writing

one_more : (n : ℕ) (out : List (ℕ × Element)) (e : Element) (c : Content) → view e ≡ c → entries_view (out ++ (n, e) ∷ []) ≡ entries_view out ++ (n, c) ∷ []
one_more n out e c is = view_append out ((n, e) ∷ []) ∙ ap (λ (d : Content). entries_view out ++ (n, d) ∷ []) is

-- The members so far and those of the values that are left are all; the same holds with one value more.
pub member_written : {T : Type 0} (content : T → Content) (n : ℕ) (out : List (ℕ × Element)) (e : Element) (ts : List T) (i : ℕ) (t : T) → i < length ts → t ≡ get_or ts i t → view e ≡ content t
    → entries_view out ++ members content n (drop i ts) ≡ members content n ts → entries_view (out ++ (n, e) ∷ []) ++ members content n (drop (i + 1) ts) ≡ members content n ts
member_written {T = T} content n out e ts i t lt is same so_far =
    ap (λ (z : List Entry). z ++ members content n (drop (i + 1) ts)) (one_more n out e (content t) same)
    ∙ append_assoc (entries_view out) ((n, content t) ∷ []) (members content n (drop (i + 1) ts))
    ∙ ap (λ (z : List T). entries_view out ++ members content n z) (sym (drop_more ts i t lt ∙ ap (λ (y : T). y ∷ drop (i + 1) ts) (sym is)))
    ∙ so_far

-- The loop that writes is done: the members are those of the whole list.
pub all_written : {T : Type 0} (content : T → Content) (n : ℕ) (out : List (ℕ × Element)) (ts : List T) (i : ℕ) → length ts ≤ i → entries_view out ++ members content n (drop i ts) ≡ members content n ts → entries_view out ≡ members content n ts
all_written {T = T} content n out ts i le so_far = sym (append-nil (entries_view out)) ∙ ap (λ (z : List T). entries_view out ++ members content n z) (sym (past ts i le)) ∙ so_far

-- Where the members so far have the form, they have it with one more.
pub form_written : (F : ℕ → Value → Type 0) (n : ℕ) (k : Kind) (out : List (ℕ × Element)) (e : Element) (c : Content) → view e ≡ c → FormContent F k c
    → FormEntries F (field n k ∷ []) (entries_view out) → FormEntries F (field n k ∷ []) (entries_view (out ++ (n, e) ∷ []))
form_written F n k out e c is f so_far =
    subst (FormEntries F (field n k ∷ [])) (sym (one_more n out e c is))
    (form_append F (field n k ∷ []) (entries_view out) ((n, c) ∷ []) so_far ((k, rw (eq-eqb n n refl) refl, f), tt))

-- ---- reading

members_append : {T : Type 0} (content : T → Content) (n : ℕ) (ts us : List T) → members content n (ts ++ us) ≡ members content n ts ++ members content n us
members_append content n [] us = refl
members_append content n (t ∷ ts) us = ap (λ (z : List Entry). (n, content t) ∷ z) (members_append content n ts us)

-- The members of the values so far and the members that are left are all; the same holds with one value more.
pub member_read : {T : Type 0} (content : T → Content) (n : ℕ) (ts : List T) (t : T) (es : List (ℕ × Element)) (i : ℕ) (x : ℕ × Element) → i < length es → x ≡ get_or es i x → seen x ≡ (n, content t)
    → members content n ts ++ entries_view (drop i es) ≡ entries_view es → members content n (ts ++ t ∷ []) ++ entries_view (drop (i + 1) es) ≡ entries_view es
member_read content n ts t es i x lt is same so_far =
    ap (λ (z : List Entry). z ++ entries_view (drop (i + 1) es)) (members_append content n ts (t ∷ []))
    ∙ append_assoc (members content n ts) ((n, content t) ∷ []) (entries_view (drop (i + 1) es))
    ∙ ap (λ (z : Entry). members content n ts ++ z ∷ entries_view (drop (i + 1) es)) (sym same)
    ∙ ap (λ (z : List (ℕ × Element)). members content n ts ++ entries_view z) (sym (drop_more es i x lt ∙ ap (λ (y : ℕ × Element). y ∷ drop (i + 1) es) (sym is)))
    ∙ so_far

-- The loop that reads is done: the list's members are those that were read.
pub all_read : {T : Type 0} (content : T → Content) (n : ℕ) (ts : List T) (es : List (ℕ × Element)) (i : ℕ) → length es ≤ i → members content n ts ++ entries_view (drop i es) ≡ entries_view es → members content n ts ≡ entries_view es
all_read content n ts es i le so_far = sym (append-nil (members content n ts)) ∙ ap (λ (z : List (ℕ × Element)). members content n ts ++ entries_view z) (sym (past es i le)) ∙ so_far

-- A member of the form: its number, and a message of the form.
pub record HoldsMessage (F : ℕ → Value → Type 0) (n place : ℕ) (x : Entry) : Type 0 where
  pub value : Value
  pub is : x ≡ (n, message (slots_of value))
  pub form : F place value

-- Each member of the form is a message of the form.
pub holds_message : (F : ℕ → Value → Type 0) (n place : ℕ) (x : Entry) → FormEntries F (nested_member n place ∷ []) (x ∷ []) → HoldsMessage F n place x
holds_message F n place x f =
    let h = exactly_one F (nested_member n place) (x ∷ []) refl f in
    record { value = h.form.0; is = same_entry x (n, h.element) h.is ∙ ap (λ (e : Content). (n, e)) h.form.1; form = h.form.2 }
