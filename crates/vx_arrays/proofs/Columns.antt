-- Columns of structs, one by one.
use Rattle.std.proofs.Common.{ℕ, zero, suc, ◌≡◌, ◌<◌, ◌+◌, List, [], ◌∷◌, Bool, false, sym, ap, ◌∙◌, subst, length, take, get_or, add-one, arith}
use Rattle.std.specs.Prelude.{◌↔◌, IsTrue}
use Rattle.vx_trees.specs.Rose.{label, more, count, roses_of}
use Rattle.vx_trees.specs.Same.{same}
use Rattle.vx_trees.proofs.Lists.{count-roses_of}
use Rattle.vx_trees.proofs.Sameness.{same-decides}
use Rattle.vx_trees.proofs.LawsOfLists.{heads, tails}
use Rattle.vx_types.specs.Seen.{typ, typs}
use Rattle.vx_types.specs.Parts.{Fields}
use Rattle.vx_types.specs.Typ.{Typ, typ_code}
use Rattle.vx_types.specs.declared.dtype.DType.{DType}
use Rattle.vx_types.specs.declared.nullability.Nullability.{Nullability}
use Rattle.vx_types.specs.declared.nullability.Nullability.TheVariants.{Nullable}
use Rattle.vx_types.proofs.LawsOfTypes.{typs-length}
use Rattle.std.proofs.lemmas.Bool.{false≢true, iff_false}
use Rattle.vx_array_tree.specs.Place.{Place, place, places_at, validity_place}
use Rattle.vx_array_tree.specs.Refused.{IsWellShaped}
use Rattle.vx_array_tree.specs.Tree.{Tree, Trees, array_place, places}
use Rattle.vx_arrays.specs.Structs.{struct_head}
use Rattle.vx_array_tree.proofs.LawsOfPlaces.{places_count, places_length}
use Rattle.vx_arrays.proofs.Fielded.{no_children, front_decides, front_right}

-- A place is its type and its length.
both_parts : (d e : Typ) (m n : ℕ) → d ≡ e → m ≡ n → place d m ≡ place e n
both_parts d e m n p q = λ i. place (p i) (q i)

pub column_decides : (t : Tree) (d : Typ) (n : ℕ) (b : Bool) (e : Typ) (k : ℕ) → k ≡ (label t).len → k ≡ n → e ≡ (label t).dtype → b ≡ same typ_code e d → IsTrue b ↔ (array_place t ≡ place d n)
column_decides t d n b e k l m q h = (
  λ x. both_parts (label t).dtype d (label t).len n (sym q ∙ (same-decides typ_code e d).0 (sym h ∙ x)) (sym l ∙ m),
  λ x. h ∙ (same-decides typ_code e d).1 (q ∙ ap (λ (p : Place). p.dtype) x),
)

-- The same of its type alone.
pub type_decides : (t : Tree) (d : Typ) (b : Bool) (e : Typ) → e ≡ (label t).dtype → b ≡ same typ_code e d → IsTrue b ↔ ((label t).dtype ≡ d)
type_decides t d b e q h = (λ x. sym q ∙ (same-decides typ_code e d).0 (sym h ∙ x), λ x. h ∙ (same-decides typ_code e d).1 (q ∙ x))

-- ---- lists of them

both : (p q : Place) (ps qs : List Place) → p ≡ q → ps ≡ qs → p ∷ ps ≡ q ∷ qs
both p q ps qs e f = λ i. e i ∷ f i

columns-more_suc : (ds : List DType) (us : List Tree) (n i : ℕ) (d : DType) (u : Tree) → i < length ds → i < length us → places (roses_of (take i us)) ≡ places_at (roses_of (typs (take i ds))) n
    → array_place (get_or us i u) ≡ place (typ (get_or ds i d)) n → places (roses_of (take (suc i) us)) ≡ places_at (roses_of (typs (take (suc i) ds))) n
columns-more_suc [] us n i d u h k p q = absurd (omega (arith, h))
columns-more_suc (x ∷ ds) [] n i d u h k p q = absurd (omega (arith, k))
columns-more_suc (x ∷ ds) (y ∷ us) n zero d u h k p q = ap (λ (t : Place). t ∷ []) q
columns-more_suc (x ∷ ds) (y ∷ us) n (suc i) d u h k p q =
    let g : i < length ds = omega (arith, h) in
    let f : i < length us = omega (arith, k) in
    both _ _ _ _ (heads _ _ _ _ p) (columns-more_suc ds us n i d u g f (tails _ _ _ _ p) q)

-- Columns that are right as far as i, and at i, are right as far as i + 1.
pub columns-more : (ds : List DType) (us : List Tree) (n i : ℕ) (d : DType) (u : Tree) → i < length ds → i < length us → places (roses_of (take i us)) ≡ places_at (roses_of (typs (take i ds))) n
    → array_place (get_or us i u) ≡ place (typ (get_or ds i d)) n → places (roses_of (take (i + 1) us)) ≡ places_at (roses_of (typs (take (i + 1) ds))) n
columns-more ds us n i d u h k p q = rw (add-one i) (columns-more_suc ds us n i d u h k p q)

pub columns-at : (ds : List DType) (us : List Tree) (n i : ℕ) (d : DType) (u : Tree) → i < length ds → i < length us → places (roses_of us) ≡ places_at (roses_of (typs ds)) n
    → array_place (get_or us i u) ≡ place (typ (get_or ds i d)) n
columns-at [] us n i d u h k p = absurd (omega (arith, h))
columns-at (x ∷ ds) [] n i d u h k p = absurd (omega (arith, k))
columns-at (x ∷ ds) (y ∷ us) n zero d u h k p = heads _ _ _ _ p
columns-at (x ∷ ds) (y ∷ us) n (suc i) d u h k p =
    let g : i < length ds = omega (arith, h) in
    let f : i < length us = omega (arith, k) in
    columns-at ds us n i d u g f (tails _ _ _ _ p)

-- There are as many columns as types.
pub columns-length : (ds : List DType) (us : List Tree) (n : ℕ) → places (roses_of us) ≡ places_at (roses_of (typs ds)) n → length ds ≡ length us
columns-length ds us n e =
    sym (typs-length ds) ∙ sym (count-roses_of (typs ds)) ∙ sym (places_length (roses_of (typs ds)) n)
    ∙ ap (λ (ps : List Place). length ps) (sym e) ∙ places_count (roses_of us) ∙ count-roses_of us

-- ---- the shape of a node of structures

module _ (f : Fields) (m : Nullability) (n : ℕ) where
  -- No children are columns of some fields.
  pub none_right : (ts : List Tree) → length ts < 1 → (length ts ≡ length f.types → ⊥) → IsTrue false ↔ IsWellShaped (struct_head f m n) (roses_of ts)
  none_right [] h k = (λ x. absurd (false≢true x), λ w. absurd (no_children f m n k w))
  none_right (t ∷ ts) h k = absurd (omega (arith, h))

  -- After a validity it is the columns that decide, and without one none do.
  pub front_and_columns : (ts : Trees) (v : Tree) (us : Trees) (r : Bool) → ts ≡ more v us → (count (more v us) ≡ length f.types → ⊥) → (m ≡ Nullable) × (array_place v ≡ validity_place n)
      → (IsTrue r ↔ (places us ≡ places_at (roses_of f.types) n)) → IsTrue r ↔ IsWellShaped (struct_head f m n) ts
  front_and_columns ts v us r e k p g = (
    λ x. subst (λ (zs : Trees). IsWellShaped (struct_head f m n) zs) (sym e) (front_right f m n v us p.0 p.1 (g.0 x)),
    λ w. g.1 (front_decides f m n v us k (subst (λ (zs : Trees). IsWellShaped (struct_head f m n) zs) e w)).2,
  )

  pub without_front : (ts : Trees) (v : Tree) (us : Trees) (b : Bool) → ts ≡ more v us → (count (more v us) ≡ length f.types → ⊥) → (IsTrue b ↔ ((m ≡ Nullable) × (array_place v ≡ validity_place n)))
      → b ≡ false → IsTrue b ↔ IsWellShaped (struct_head f m n) ts
  without_front ts v us b e k g q = (
    λ x. absurd (false≢true (sym q ∙ x)),
    λ w.
        let d = front_decides f m n v us k (subst (λ (zs : Trees). IsWellShaped (struct_head f m n) zs) e w) in
        absurd (iff_false g q (d.0, d.1)),
  )
