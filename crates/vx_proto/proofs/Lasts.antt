-- The last of a slot's members.
use Rattle.std.proofs.Common.{◌≡◌, ℕ, ◌<◌, List, [], ◌∷◌, ◌++◌, length, refl, ap, ◌∙◌, arith}
use Rattle.std.proofs.Common.{sym}
use Rattle.vx_proto.specs.declared.element.Element.{Element}
use Rattle.vx_proto.specs.Value.{Entry, view, entries_view}
use Rattle.vx_proto.specs.Reads.{last_of}

last_at_end : (before xs : List Entry) (x : Entry) → last_of before (xs ++ x ∷ []) ≡ x ∷ []
last_at_end before [] x = refl
last_at_end before (y ∷ xs) x = last_at_end (y ∷ []) xs x

view_at_end : (xs : List (ℕ × Element)) (x : ℕ × Element) → entries_view (xs ++ x ∷ []) ≡ entries_view xs ++ (x.0, view x.1) ∷ []
view_at_end [] x = refl
view_at_end (y ∷ xs) x = ap (λ (t : List Entry). (y.0, view y.1) ∷ t) (view_at_end xs x)

-- Where all members but the last are dropped, the last one is left.
pub last_alone : (old rest cleared new : List (ℕ × Element)) (x : ℕ × Element) → old ≡ rest ++ x ∷ [] → cleared ≡ [] → new ≡ cleared ++ x ∷ [] → entries_view new ≡ last_of [] (entries_view old)
last_alone old rest cleared new x was none is =
    ap entries_view (is ∙ ap (λ (t : List (ℕ × Element)). t ++ x ∷ []) none)
    ∙ sym (ap (λ (t : List (ℕ × Element)). last_of [] (entries_view t)) was ∙ ap (last_of []) (view_at_end rest x) ∙ last_at_end [] (entries_view rest) (x.0, view x.1))

-- At most one member is its own last.
pub last_is : (es : List (ℕ × Element)) → length es < 2 → entries_view es ≡ last_of [] (entries_view es)
last_is [] lt = refl
last_is (x ∷ []) lt = refl
last_is (x ∷ y ∷ es) lt = absurd (omega arith)

-- Where some members occur, what stood before makes no difference.
pub last_some : (before : List Entry) (es : List (ℕ × Element)) → 0 < length es → last_of before (entries_view es) ≡ last_of [] (entries_view es)
last_some before [] lt = absurd (omega arith)
last_some before (x ∷ es) lt = refl
