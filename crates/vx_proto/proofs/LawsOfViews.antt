-- What the code holds as plain values, put together and taken apart, for the types that are messages.
use Rattle.std.specs.Prelude.{◌≡◌, ◌<◌, ◌≤◌, ℕ, zero, suc, List, [], ◌∷◌, ◌++◌, length, get_or, map, Some, refl}
use Rattle.std.specs.Global.{Vec}
use Rattle.std.proofs.Common.{sym, ap, subst, ◌∙◌, arith}
use Rattle.std.proofs.lemmas.Option.{same_Some}
use Rattle.vx_proto.specs.declared.element.Element.{Element, fold-roll-Element}
use Rattle.vx_proto.specs.declared.element.Element.TheOpen.{Element-F}
use Rattle.vx_proto.specs.declared.element.Element.TheVariants.{rolls-Message}
use Rattle.vx_proto.specs.declared.element.Element.TheViews.{Message}
use Rattle.vx_proto.specs.declared.schema.Member.{Member}
use Rattle.vx_proto.specs.Value.{Content, number, octets, message, Slots, no_slots, slot, Entries, no_entries, entry, Entry, Value, entries_of, slots_of, list_of, value_of, view, view_step, entries_view, value_view}
use Rattle.vx_proto.specs.Codes.{value_again}
use Rattle.vx_proto.specs.Parts.{message_of, entries_in}
use Rattle.vx_proto.specs.Form.{FormEntries}
use Rattle.vx_proto.specs.Written.{content_depth, entries_depth, slots_depth}

map_twice : {A B C : Type 0} (f : A → B) (g : B → C) (xs : List A) → map g (map f xs) ≡ map (λ x. g (f x)) xs
map_twice f g [] = refl
map_twice {C = C} f g (x ∷ xs) = ap (λ (t : List C). g (f x) ∷ t) (map_twice f g xs)

-- A member that holds slots shows the message of their value.
pub view_message : (slots : Vec (Vec (ℕ × Element))) → view (Message slots) ≡ message (slots_of (value_view slots.items))
view_message slots = ap view (sym (rolls-Message slots)) ∙ fold-roll-Element Content view_step (Element-F.Message slots) ∙ ap (λ (l : Value). message (slots_of l)) (map_twice _ (λ es. es.items) slots.items)

-- What members one after the other show is what the two lists show, one after the other.
pub view_append : (xs ys : List (ℕ × Element)) → entries_view (xs ++ ys) ≡ entries_view xs ++ entries_view ys
view_append [] ys = refl
view_append (x ∷ xs) ys = ap (λ (t : List Entry). (x.0, view x.1) ∷ t) (view_append xs ys)

-- ---- what is nested

list_back : (es : Entries) → entries_of (list_of es) ≡ es
list_back no_entries = refl
list_back (entry n e es) = ap (entry n e) (list_back es)

slots_back : (v : Slots) → slots_of (value_of v) ≡ v
slots_back no_slots = refl
slots_back (slot es v) = ap (λ x. slot x (slots_of (value_of v))) (list_back es) ∙ ap (slot es) (slots_back v)

-- The message that a member holds, where it is known.
pub message_is : (e : Content) (v : Value) → e ≡ message (slots_of v) → message_of e ≡ Some v
message_is e v is = ap message_of is ∙ ap (λ (w : Value). Some w) (value_again v)

-- ---- how deep

-- A message that a member holds has one level less than the member.
pub held_depth : (e : Content) (w : Value) → message_of e ≡ Some w → suc (slots_depth (slots_of w)) ≡ content_depth e
held_depth (number n) w h = absurd cc
held_depth (octets s) w h = absurd cc
held_depth (message v) w h = ap (λ (u : Slots). suc (slots_depth u)) (ap slots_of (sym (same_Some (value_of v) w h)) ∙ slots_back v)

-- A member nests no deeper than its slot.
pub entry_depth_le : (es : List (ℕ × Element)) (i : ℕ) (x : ℕ × Element) → i < length es → x ≡ get_or es i x → content_depth (view x.1) ≤ entries_depth (entries_of (entries_view es))
entry_depth_le [] i x lt is = absurd (omega arith)
entry_depth_le (y ∷ es) zero x lt is = subst (λ (z : ℕ × Element). content_depth (view z.1) ≤ entries_depth (entries_of (entries_view (y ∷ es)))) (sym is) (omega arith)
entry_depth_le (y ∷ es) (suc i) x lt is = omega (arith, entry_depth_le es i x (omega arith) is)

-- A slot nests no deeper than its message.
pub slot_depth_in : (v : Value) (i : ℕ) → entries_depth (entries_of (entries_in v i)) ≤ slots_depth (slots_of v)
slot_depth_in [] i = omega arith
slot_depth_in (es ∷ v) zero = omega arith
slot_depth_in (es ∷ v) (suc i) = omega (arith, slot_depth_in v i)

-- ---- the form of members

-- Members one after the other have the form that the two lists have.
pub form_append : (F : ℕ → Value → Type 0) (members : List Member) (xs ys : List Entry) → FormEntries F members xs → FormEntries F members ys → FormEntries F members (xs ++ ys)
form_append F members [] ys f g = g
form_append F members (x ∷ xs) ys f g = (f.0, form_append F members xs ys f.1 g)

-- Each member of a slot has the form that all have.
pub entry_form : (F : ℕ → Value → Type 0) (members : List Member) (es : List (ℕ × Element)) (i : ℕ) (x : ℕ × Element) → i < length es → x ≡ get_or es i x → FormEntries F members (entries_view es) → FormEntries F members ((x.0, view x.1) ∷ [])
entry_form F members [] i x lt is f = absurd (omega arith)
entry_form F members (y ∷ es) zero x lt is f = subst (λ (z : ℕ × Element). FormEntries F members ((z.0, view z.1) ∷ [])) (sym is) (f.0, tt)
entry_form F members (y ∷ es) (suc i) x lt is f = entry_form F members es i x (omega arith) is f.1
