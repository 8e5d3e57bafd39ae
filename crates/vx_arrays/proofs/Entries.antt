-- The type of a map's entries, part by part.
use Rattle.std.proofs.Common.{ℕ, ◌≡◌, List, [], ◌∷◌, Bool, sym, ap, ◌∙◌, subst, length, get_or, map, arith}
use Rattle.std.specs.Prelude.{◌↔◌, IsTrue}
use Rattle.vx_trees.specs.Rose.{node, below, roses_of, roses_list}
use Rattle.vx_trees.proofs.Lists.{roses_list-roses_of}
use Rattle.vx_trees.proofs.LawsOfLists.{heads, tails}
use Rattle.vx_types.specs.Kind.{structure}
use Rattle.vx_types.specs.Parts.{Entries, Fields}
use Rattle.vx_types.specs.Seen.{typ}
use Rattle.vx_types.specs.Typ.{Typ}
use Rattle.vx_types.specs.Words.{entries, key_name, value_name}
use Rattle.vx_types.specs.declared.dtype.DType.{DType}
use Rattle.vx_types.specs.declared.dtype.DType.TheVariants as D
use Rattle.vx_types.specs.declared.nullability.Nullability.{Nullability}
use Rattle.vx_types.specs.declared.nullability.Nullability.TheVariants.{NonNullable}

-- Two items are a list of them.
two_items : {A : Type 0} (xs : List A) (k v : A) → length xs ≡ 2 → k ≡ get_or xs 0 k → v ≡ get_or xs 1 v → xs ≡ k ∷ v ∷ []
two_items [] k v l p q = absurd (omega (arith, l))
two_items (x ∷ []) k v l p q = absurd (omega (arith, l))
two_items (x ∷ y ∷ []) k v l p q = λ i. sym p i ∷ sym q i ∷ []
two_items (x ∷ y ∷ z ∷ xs) k v l p q = absurd (omega (arith, l))

-- Of a pair whose first is right the second decides.
second_decides : {A : Type 0} (k v x y : A) (b : Bool) → k ≡ x → (IsTrue b ↔ (v ≡ y)) → IsTrue b ↔ (k ∷ v ∷ [] ≡ x ∷ y ∷ [])
second_decides k v x y b e d = (λ t i. e i ∷ d.0 t i ∷ [], λ h. d.1 (heads _ _ _ _ (tails _ _ _ _ h)))

module _ (xs : List (List ℕ)) (k v : List ℕ) (l : length xs ≡ 2) (p : k ≡ get_or xs 0 k) (q : v ≡ get_or xs 1 v) where
  pub names_decide : (x y : List ℕ) (b : Bool) → k ≡ x → (IsTrue b ↔ (v ≡ y)) → IsTrue b ↔ (xs ≡ x ∷ y ∷ [])
  names_decide x y b e d = subst (λ (zs : List (List ℕ)). IsTrue b ↔ (zs ≡ x ∷ y ∷ [])) (sym (two_items xs k v l p q)) (second_decides k v x y b e d)

  pub names_differ : (x y : List ℕ) → (k ≡ x → ⊥) → xs ≡ x ∷ y ∷ [] → ⊥
  names_differ x y n e = n (heads _ _ _ _ (sym (two_items xs k v l p q) ∙ e))

module _ (ds : List DType) (k v : DType) (l : length ds ≡ 2) (p : k ≡ get_or ds 0 k) (q : v ≡ get_or ds 1 v) where
  pub types_decide : (x y : Typ) (b : Bool) → typ k ≡ x → (IsTrue b ↔ (typ v ≡ y)) → IsTrue b ↔ (map typ ds ≡ x ∷ y ∷ [])
  types_decide x y b e d = subst (λ (zs : List DType). IsTrue b ↔ (map typ zs ≡ x ∷ y ∷ [])) (sym (two_items ds k v l p q)) (second_decides (typ k) (typ v) x y b e d)

  pub types_differ : (x y : Typ) → (typ k ≡ x → ⊥) → map typ ds ≡ x ∷ y ∷ [] → ⊥
  types_differ x y n e = n (heads _ _ _ _ (ap (λ (zs : List DType). map typ zs) (sym (two_items ds k v l p q)) ∙ e))

-- A struct that is not nullable and has the names of an entry is one exactly where its types are those.
pub entry_decides : (d : DType) (f : Fields) (m : Nullability) (e : Entries) (ns : List (List ℕ)) (ts : List Typ) (b : Bool) → d ≡ D.Struct f m → m ≡ NonNullable → ns ≡ f.names → ns ≡ key_name ∷ value_name ∷ [] → ts ≡ f.types
    → (IsTrue b ↔ (ts ≡ e.key ∷ e.value ∷ [])) → IsTrue b ↔ (typ d ≡ entries e)
entry_decides d f m e ns ts b s n p q r h =
    let w : typ d ≡ node (structure f.names m) (roses_of f.types) = ap typ s in (
      λ t. w ∙ (λ i. node (structure ((sym p ∙ q) i) (n i)) (roses_of ((sym r ∙ h.0 t) i))),
      λ x. h.1 (r ∙ sym (roses_list-roses_of f.types) ∙ ap (λ (y : Typ). roses_list (below y)) (sym w ∙ x)),
    )
