-- The names of the statistics that a table has, one after the other.
use Rattle.std.proofs.Common.{ℕ, zero, suc, ◌≡◌, ◌<◌, ◌≤◌, ◌+◌, Bool, true, false, List, [], ◌∷◌, ◌++◌, length, drop, get_or, refl, sym, ap, ◌∙◌, append_assoc, append-nil, drop-cons, add-one, arith}
use Rattle.std.specs.Prelude.{if◌then◌else◌}
use Rattle.vx_flat.specs.Value.{Fields}
use Rattle.vx_scalars.specs.declared.stat.Stat.{Stat}
use Rattle.vx_serialized.specs.StatNames.{stat_name, is_standing, names_standing}

first : (b : Bool) (x : List ℕ) (xs : List (List ℕ)) → (if b then x ∷ xs else xs) ≡ (if b then x ∷ [] else []) ++ xs
first true x xs = refl
first false x xs = refl

-- The names of one statistic come before those of the others.
names-cons : (vs : Fields) (s : Stat) (ss : List Stat) → names_standing vs (s ∷ ss) ≡ names_standing vs (s ∷ []) ++ names_standing vs ss
names-cons vs s ss = first (is_standing vs s) (stat_name s) (names_standing vs ss)

-- One statistic more.
pub names-next : (vs : Fields) (names new : List (List ℕ)) (all : List Stat) (i : ℕ) (s d : Stat) → i < length all → s ≡ get_or all i d → names ++ names_standing vs (drop i all) ≡ names_standing vs all
    → new ≡ names ++ names_standing vs (s ∷ []) → new ++ names_standing vs (drop (i + 1) all) ≡ names_standing vs all
names-next vs names new all i s d lt is h e =
    ap (λ z. z ++ names_standing vs (drop (i + 1) all)) e
    ∙ append_assoc names (names_standing vs (s ∷ [])) (names_standing vs (drop (i + 1) all))
    ∙ ap (λ z. names ++ z) (sym (names-cons vs s (drop (i + 1) all)))
    ∙ (λ j. names ++ names_standing vs (is j ∷ drop (add-one i j) all))
    ∙ ap (λ z. names ++ names_standing vs z) (sym (drop-cons all i d lt))
    ∙ h

past : (all : List Stat) (i : ℕ) → length all ≤ i → drop i all ≡ []
past [] zero h = refl
past [] (suc i) h = refl
past (s ∷ all) zero h = absurd (omega (arith, h))
past (s ∷ all) (suc i) h = past all i (omega (arith, h))

-- All of them.
pub names-end : (vs : Fields) (names : List (List ℕ)) (all : List Stat) (i : ℕ) → length all ≤ i → names ++ names_standing vs (drop i all) ≡ names_standing vs all → names ≡ names_standing vs all
names-end vs names all i h e = sym (append-nil names) ∙ ap (λ z. names ++ names_standing vs z) (sym (past all i h)) ∙ e
