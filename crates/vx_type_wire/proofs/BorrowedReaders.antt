-- Readers that are borrowed mean what they mean where they stand.
use Rattle.std.specs.Prelude.{ℕ, ◌≡◌, Bool, true, false, List, [], ◌∷◌, ◌++◌, Option, Some, cond, map, option_map, bytes_eq, refl}
use Rattle.std.specs.Map.{lookup}
use Rattle.std.proofs.Common.{sym, ap, ◌∙◌}
use Rattle.std.proofs.Math.Path.{fun_ext}
use Rattle.std.proofs.lemmas.List.{append-nil}
use Rattle.vx_types.specs.Known.{ExtMeaning}
use Rattle.vx_types.specs.Typ.{Typ}

-- A function of each entry's value.
abbrev pub each_value : {A B : Type 0} → (A → B) → List (List ℕ × A) → List (List ℕ × B)
each_value f es = map (λ p. (p.0, f p.1)) es

found_at : {A B : Type 0} (f : A → B) (b : Bool) (a : A) (o : Option A) (p : Option B) → p ≡ option_map f o → cond b (Some (f a)) p ≡ option_map f (cond b (Some a) o)
found_at f true a o p e = refl
found_at f false a o p e = e

-- What is found among the values of a function is the function of what is found.
pub found_each : {A B : Type 0} (f : A → B) (test : List ℕ → Bool) (es : List (List ℕ × A)) → lookup test (each_value f es) ≡ option_map f (lookup test es)
found_each f test [] = refl
found_each f test (e ∷ es) = found_at f (test e.0) e.1 (lookup test es) (lookup test (each_value f es)) (found_each f test es)

-- Entries that are borrowed one by one mean what the entries mean where they stand.
pub borrowed_alike : {A : Type 0} (f : A → List ℕ → Typ → Bool) (es rest : List (List ℕ × A)) (borrowed : List (List ℕ × (List ℕ → Typ → Bool))) (unknown : Bool) → rest ≡ [] → borrowed ++ each_value f rest ≡ each_value f es
    → ◌≡◌ {A = ExtMeaning} (record { reader = λ id. lookup (bytes_eq id) borrowed; unknown = unknown }) (record { reader = λ id. option_map f (lookup (bytes_eq id) es); unknown = unknown })
borrowed_alike f es rest borrowed unknown none e =
    let all : borrowed ≡ each_value f es = sym (append-nil borrowed) ∙ ap (λ z. borrowed ++ each_value f z) (sym none) ∙ e in
    let with : (List ℕ → Option (List ℕ → Typ → Bool)) → ExtMeaning = λ r. record { reader = r; unknown = unknown } in
    ap with (fun_ext (λ id. ap (λ z. lookup (bytes_eq id) z) all ∙ found_each f (bytes_eq id) es))

-- Before the first nothing is borrowed, and all are left.
pub none_borrowed : {A : Type 0} (f : A → List ℕ → Typ → Bool) (es rest : List (List ℕ × A)) (borrowed : List (List ℕ × (List ℕ → Typ → Bool))) → borrowed ≡ [] → rest ≡ es → borrowed ++ each_value f rest ≡ each_value f es
none_borrowed f es rest borrowed none all = λ i. none i ++ each_value f (all i)
