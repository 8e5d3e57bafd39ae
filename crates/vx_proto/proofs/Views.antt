-- What the code holds, as values: one more member in a slot.
use Rattle.std.proofs.Common.{◌≡◌, ℕ, zero, suc, ◌<◌, List, [], ◌∷◌, ◌++◌, length, get_or, set, refl, Some, option_and_then, sym, ap, ◌∙◌, arith}
use Rattle.std.specs.Global.{Vec}
use Rattle.vx_proto.specs.declared.element.Element.{Element}
use Rattle.vx_proto.specs.Value.{Entry, Value, view, entries_view, value_view}
use Rattle.vx_proto.proofs.LawsOfViews.{view_append, view_message, message_is}
use Rattle.vx_proto.specs.declared.element.Element.TheViews.{Message}
use Rattle.vx_proto.specs.Parts.{message_of, message_in, entries_in, first_in}
use Rattle.vx_proto.specs.Reading.{push_at}

view_set : (slots : List (Vec (ℕ × Element))) (i : ℕ) (x : Vec (ℕ × Element)) → value_view (set slots i x) ≡ set (value_view slots) i (entries_view x.items)
view_set [] i x = refl
view_set (s ∷ slots) zero x = refl
view_set (s ∷ slots) (suc i) x = ap (λ (t : Value). entries_view s.items ∷ t) (view_set slots i x)

pub view_get : (slots : List (Vec (ℕ × Element))) (i : ℕ) (x : Vec (ℕ × Element)) → i < length slots → x ≡ get_or slots i x → get_or (value_view slots) i [] ≡ entries_view x.items
view_get [] i x lt e = absurd (omega arith)
view_get (s ∷ slots) zero x lt e = ap (λ (y : Vec (ℕ × Element)). entries_view y.items) (sym e)
view_get (s ∷ slots) (suc i) x lt e = view_get slots i x (omega arith) e

-- One more entry in a slot.
pub view_push : (slots : List (Vec (ℕ × Element))) (i : ℕ) (old new : Vec (ℕ × Element)) (e : ℕ × Element) → i < length slots → old ≡ get_or slots i old → new.items ≡ old.items ++ e ∷ []
    → value_view (set slots i new) ≡ push_at i (e.0, view e.1) (value_view slots)
view_push slots i old new e lt was more = view_set slots i new ∙ ap (set (value_view slots) i) (ap entries_view more ∙ view_append old.items (e ∷ []) ∙ ap (λ (t : List Entry). t ++ (e.0, view e.1) ∷ []) (sym (view_get slots i old lt was)))

-- The first entry of a slot, taken out.
head_view : (es : List (ℕ × Element)) (x : ℕ × Element) → 0 < length es → x ≡ get_or es 0 x → first_in (entries_view es) ≡ Some (view x.1)
head_view [] x lt e = absurd (omega arith)
head_view (y ∷ es) x lt e = ap (λ (z : ℕ × Element). Some (view z.1)) (sym e)

pub taken : (slots : List (Vec (ℕ × Element))) (i : ℕ) (es : Vec (ℕ × Element)) (x : ℕ × Element) (inner : Vec (Vec (ℕ × Element))) → i < length slots → es ≡ get_or slots i es → 0 < length es.items → x ≡ get_or es.items 0 x → x.1 ≡ Message inner
    → Some (value_view inner.items) ≡ message_in (entries_in (value_view slots) i)
taken slots i es x inner lt is some first held =
    sym (message_is (view x.1) (value_view inner.items) (ap view held ∙ view_message inner))
    ∙ ap (option_and_then message_of) (sym (head_view es.items x some first))
    ∙ ap message_in (sym (view_get slots i es lt is))
