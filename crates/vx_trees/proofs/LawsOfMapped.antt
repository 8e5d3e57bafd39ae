-- Lists that are seen through a function: what a loop over one list, or over two that are compared, needs.
use Rattle.std.specs.Prelude.{ℕ, zero, suc, ◌+◌, ◌≤◌, ◌<◌, ◌≡◌, List, [], ◌∷◌, length, map, take, refl}
use Rattle.std.proofs.Common.{arith, get_or, sym, ap, ◌∙◌, subst, add-one}
use Rattle.std.proofs.lemmas.List.{length-map}
use Rattle.vx_trees.specs.Rose.{Rose, roses_of, roses_list}
use Rattle.vx_trees.specs.Walks.{nodes, nodes_of}
use Rattle.vx_trees.proofs.Counting.{nodes-at}
use Rattle.vx_trees.proofs.Lists.{roses_list-roses_of}
use Rattle.vx_trees.proofs.LawsOfLists.{heads, tails}

module _ {A B : Type 0} (f : A → B) where
  pub mapped-at : (xs : List A) (i : ℕ) (x : A) → get_or (map f xs) i (f x) ≡ f (get_or xs i x)
  mapped-at [] i x = refl
  mapped-at (y ∷ xs) zero x = refl
  mapped-at (y ∷ xs) (suc i) x = mapped-at xs i x

  both : (x y : B) (xs ys : List B) → x ≡ y → xs ≡ ys → x ∷ xs ≡ y ∷ ys
  both x y xs ys p q = λ i. p i ∷ q i

  mapped-more_suc : (xs ys : List A) (i : ℕ) (x y : A) → i < length xs → i < length ys → map f (take i xs) ≡ map f (take i ys)
      → f (get_or xs i x) ≡ f (get_or ys i y) → map f (take (suc i) xs) ≡ map f (take (suc i) ys)
  mapped-more_suc [] ys i x y h k p q = absurd (omega (arith, h))
  mapped-more_suc (a ∷ xs) [] i x y h k p q = absurd (omega (arith, k))
  mapped-more_suc (a ∷ xs) (b ∷ ys) zero x y h k p q = ap (λ t. t ∷ []) q
  mapped-more_suc (a ∷ xs) (b ∷ ys) (suc i) x y h k p q =
      let g : i < length xs = omega (arith, h) in
      let e : i < length ys = omega (arith, k) in
      both _ _ _ _ (heads _ _ _ _ p) (mapped-more_suc xs ys i x y g e (tails _ _ _ _ p) q)

  -- Lists that agree below index i and at i agree below i + 1.
  pub mapped-more : (xs ys : List A) (i : ℕ) (x y : A) → i < length xs → i < length ys → map f (take i xs) ≡ map f (take i ys)
      → f (get_or xs i x) ≡ f (get_or ys i y) → map f (take (i + 1) xs) ≡ map f (take (i + 1) ys)
  mapped-more xs ys i x y h k p q = rw (add-one i) (mapped-more_suc xs ys i x y h k p q)

  -- Lists that agree do so at each index.
  pub mapped-same : (xs ys : List A) (i : ℕ) (x y : A) → i < length xs → i < length ys → map f xs ≡ map f ys → f (get_or xs i x) ≡ f (get_or ys i y)
  mapped-same [] ys i x y h k p = absurd (omega (arith, h))
  mapped-same (a ∷ xs) [] i x y h k p = absurd (omega (arith, k))
  mapped-same (a ∷ xs) (b ∷ ys) zero x y h k p = heads _ _ _ _ p
  mapped-same (a ∷ xs) (b ∷ ys) (suc i) x y h k p =
      let g : i < length xs = omega (arith, h) in
      let e : i < length ys = omega (arith, k) in
      mapped-same xs ys i x y g e (tails _ _ _ _ p)

module _ {A L : Type 0} (f : A → Rose L) where
  -- An element's tree is no larger than the trees of the list.
  pub mapped-nodes : (xs : List A) (i : ℕ) (x : A) → i < length xs → nodes (f (get_or xs i x)) ≤ nodes_of (roses_of (map f xs))
  mapped-nodes xs i x h =
      let g : i < length (map f xs) = omega (arith, h, length-map xs f) in
      subst (λ t. nodes t ≤ nodes_of (roses_of (map f xs))) (mapped-at f xs i x) (nodes-at (map f xs) i (f x) g)

module _ {L : Type 0} where
  pub roses_of-injective : (ts us : List (Rose L)) → roses_of ts ≡ roses_of us → ts ≡ us
  roses_of-injective ts us e = sym (roses_list-roses_of ts) ∙ ap roses_list e ∙ roses_list-roses_of us
