-- The field tables that a builder knows, found by their bytes.
use Rattle.std.proofs.Common.{◌≡◌, ℕ, Bool, true, false, cond, ◌&&◌, List, [], ◌∷◌, ◌++◌, map, Some, None, Vec, Global}
use Rattle.std.proofs.Common.{refl, ap, ◌∙◌, arith}
use Rattle.std.specs.Prelude.{bytes_eq, nat_eq}
use Rattle.std.specs.Map.{lookup}
use Rattle.indexmap.specs.IndexMap.{insert_entry}
use Rattle.vx_flat.specs.BlockOffsets.{Known, known_at}
use Rattle.vx_flat.proofs.Parts.{both}

eqb_turned : (a b : ℕ) → nat_eq a b ≡ nat_eq b a
eqb_turned a b = grind arith

turned : (xs ys : List ℕ) → bytes_eq xs ys ≡ bytes_eq ys xs
turned [] [] = refl
turned [] (y ∷ ys) = refl
turned (x ∷ xs) [] = refl
turned (x ∷ xs) (y ∷ ys) = λ i. eqb_turned x y i && turned xs ys i

eqb_same : (a b : ℕ) → nat_eq a b ≡ true → a ≡ b
eqb_same a b e = grind arith

-- bytes that are found equal are the same
pub same_bytes : (xs ys : List ℕ) → bytes_eq xs ys ≡ true → xs ≡ ys
same_bytes [] [] e = refl
same_bytes [] (y ∷ ys) e = absurd cc
same_bytes (x ∷ xs) [] e = absurd cc
same_bytes (x ∷ xs) (y ∷ ys) e =
    let k = both (nat_eq x y) (bytes_eq xs ys) e in
    λ i. eqb_same x y k.0 i ∷ same_bytes xs ys k.1 i

-- the first entry with these bytes
pub lookup_known : (es : List (Vec ℕ Global × ℕ)) (bs : List ℕ)
    → lookup (λ k. bytes_eq bs k.items) es ≡ known_at (map {B = List ℕ × ℕ} (λ e. (e.0.items, e.1)) es) bs
lookup_known [] bs = refl
lookup_known (e ∷ es) bs = λ i. cond (turned bs e.0.items i) (Some e.1) (lookup_known es bs i)

map_end : (es : List (Vec ℕ Global × ℕ)) (k : Vec ℕ Global) (p : ℕ) → map {B = List ℕ × ℕ} (λ e. (e.0.items, e.1)) (es ++ (k, p) ∷ [])
    ≡ map {B = List ℕ × ℕ} (λ e. (e.0.items, e.1)) es ++ (k.items, p) ∷ []
map_end [] k p = refl
map_end (e ∷ es) k p = ap (λ z. (e.0.items, e.1) ∷ z) (map_end es k p)

-- a new field table comes last
pub interned : (old new : List (Vec ℕ Global × ℕ)) (k : Vec ℕ Global) (p : ℕ) (bs : List ℕ) (t : Known)
    → new ≡ insert_entry (λ x y. bytes_eq x.items y.items) old k p → k.items ≡ bs → map {B = List ℕ × ℕ} (λ e. (e.0.items, e.1)) old ≡ t
    → known_at t bs ≡ None → map {B = List ℕ × ℕ} (λ e. (e.0.items, e.1)) new ≡ t ++ (bs, p) ∷ []
interned old new k p bs t h e is none =
    let absent : lookup (λ y. bytes_eq k.items y.items) old ≡ None =
    lookup_known old k.items ∙ (ap (λ z. known_at z k.items) is ∙ (ap (λ b. known_at t b) e ∙ none)) in
    ap (λ z. map {B = List ℕ × ℕ} (λ e. (e.0.items, e.1)) z) (h ∙ last old absent)
    ∙ (map_end old k p ∙ (λ i. is i ++ (e i, p) ∷ []))
  where
    step : (b : Bool) (o : Vec ℕ Global × ℕ) (os : List (Vec ℕ Global × ℕ)) → cond b (Some o.1) (lookup (λ y. bytes_eq k.items y.items) os) ≡ None
        → (lookup (λ y. bytes_eq k.items y.items) os ≡ None → insert_entry (λ x y. bytes_eq x.items y.items) os k p ≡ os ++ (k, p) ∷ [])
        → cond b ((o.0, p) ∷ os) (o ∷ insert_entry (λ x y. bytes_eq x.items y.items) os k p) ≡ o ∷ (os ++ (k, p) ∷ [])
    step true o os n r = absurd cc
    step false o os n r = ap (λ z. o ∷ z) (r n)

    last : (os : List (Vec ℕ Global × ℕ)) → lookup (λ y. bytes_eq k.items y.items) os ≡ None
        → insert_entry (λ x y. bytes_eq x.items y.items) os k p ≡ os ++ (k, p) ∷ []
    last [] n = refl
    last (o ∷ os) n = step (bytes_eq k.items o.0.items) o os n (last os)
