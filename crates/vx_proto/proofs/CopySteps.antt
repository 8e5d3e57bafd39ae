-- The steps of the loops that copy plain values.
use Rattle.std.proofs.Common.{◌≡◌, ℕ, ◌+◌, ◌<◌, ◌≤◌, List, [], ◌∷◌, ◌++◌, length, get_or, drop, refl, sym, ap, ◌∙◌, append_assoc}
use Rattle.std.proofs.lemmas.List.{append-nil, drop_all}
use Rattle.std.specs.Global.{Vec}
use Rattle.vx_proto.specs.declared.element.Element.{Element}
use Rattle.vx_proto.specs.Value.{Content, Entry, Value, view, entries_view, value_view}
use Rattle.vx_proto.proofs.LawsOfViews.{view_append}
use Rattle.vx_proto.proofs.Suffixes.{entries_at, slots_at}

slots_append : (u v : List (Vec (ℕ × Element))) → value_view (u ++ v) ≡ value_view u ++ value_view v
slots_append [] v = refl
slots_append (x ∷ u) v = ap (λ (t : Value). entries_view x.items ∷ t) (slots_append u v)

-- One more member copied: the members copied so far, then those that are left, are all.
pub entry_copied : (copy es : List (ℕ × Element)) (i : ℕ) (x : ℕ × Element) (e : Element) → i < length es → x ≡ get_or es i x → view e ≡ view x.1
    → entries_view copy ++ entries_view (drop i es) ≡ entries_view es → entries_view (copy ++ (x.0, e) ∷ []) ++ entries_view (drop (i + 1) es) ≡ entries_view es
entry_copied copy es i x e lt is same so_far =
    ap (λ (z : List Entry). z ++ entries_view (drop (i + 1) es)) (view_append copy ((x.0, e) ∷ []) ∙ ap (λ (d : Content). entries_view copy ++ (x.0, d) ∷ []) same)
    ∙ append_assoc (entries_view copy) ((x.0, view x.1) ∷ []) (entries_view (drop (i + 1) es))
    ∙ ap (λ (z : List Entry). entries_view copy ++ z) (sym (entries_at es i x lt is))
    ∙ so_far

-- The same for slots.
pub entries_copied : (copy v : List (Vec (ℕ × Element))) (i : ℕ) (x y : Vec (ℕ × Element)) → i < length v → x ≡ get_or v i x → entries_view y.items ≡ entries_view x.items
    → value_view copy ++ value_view (drop i v) ≡ value_view v → value_view (copy ++ y ∷ []) ++ value_view (drop (i + 1) v) ≡ value_view v
entries_copied copy v i x y lt is same so_far =
    ap (λ (z : Value). z ++ value_view (drop (i + 1) v)) (slots_append copy (y ∷ []) ∙ ap (λ (d : List Entry). value_view copy ++ d ∷ []) same)
    ∙ append_assoc (value_view copy) (entries_view x.items ∷ []) (value_view (drop (i + 1) v))
    ∙ ap (λ (z : Value). value_view copy ++ z) (sym (slots_at v i x lt is))
    ∙ so_far

pub all_entries : (copy es : List (ℕ × Element)) (i : ℕ) → length es ≤ i → entries_view copy ++ entries_view (drop i es) ≡ entries_view es → entries_view copy ≡ entries_view es
all_entries copy es i le so_far = sym (append-nil (entries_view copy)) ∙ ap (λ (z : List (ℕ × Element)). entries_view copy ++ entries_view z) (sym (drop_all i es le)) ∙ so_far

pub all_slots : (copy v : List (Vec (ℕ × Element))) (i : ℕ) → length v ≤ i → value_view copy ++ value_view (drop i v) ≡ value_view v → value_view copy ≡ value_view v
all_slots copy v i le so_far = sym (append-nil (value_view copy)) ∙ ap (λ (z : List (Vec (ℕ × Element))). value_view copy ++ value_view z) (sym (drop_all i v le)) ∙ so_far
