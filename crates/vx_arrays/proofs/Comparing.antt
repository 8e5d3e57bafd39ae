-- Arrays as they are compared, part by part.
use Rattle.std.proofs.Common.{ℕ, zero, suc, ◌≡◌, ◌<◌, ◌≤◌, ◌+◌, List, [], ◌∷◌, length, take, get_or, map, Bool, true, false, refl, sym, ap, ◌∙◌, add-one, arith}
use Rattle.std.proofs.lemmas.Bool.{false≢true}
use Rattle.std.proofs.lemmas.List.{take_all}
use Rattle.std.specs.Prelude.{◌↔◌, IsTrue}
use Rattle.vx_buffer.specs.Buffer.{Buffer}
use Rattle.vx_trees.specs.Rose.{node, end, more, label, below, count, roses_of, roses_list}
use Rattle.vx_trees.proofs.Lists.{roses_list-roses_of, count-roses_of}
use Rattle.vx_trees.proofs.LawsOfLists.{heads, tails}
use Rattle.vx_array_tree.specs.Tree.{Tree, Trees, Head, untold}
use Rattle.vx_arrays.specs.Plain.{plain_body}
use Rattle.vx_arrays.specs.declared.body.Body.{Body as DeclaredBody}
use Rattle.vx_arrays.specs.Compared.{bare, compared_body, compared_head, compared, each_compared, IsSame}

-- A test that says no decides what does not hold.
pub decides_no : {P : Type 0} → (P → ⊥) → IsTrue false ↔ P
decides_no h = (λ e. absurd (false≢true e), λ p. absurd (h p))

-- One that says yes decides what holds.
pub decides_yes : {P : Type 0} → P → IsTrue true ↔ P
decides_yes p = (λ _. p, λ _. refl)

-- ---- buffers

pub bare-same : (a b : Buffer) → a.bytes ≡ b.bytes → bare a ≡ bare b
bare-same a b e = ap (λ (bytes : List ℕ). let c : Buffer = record { bytes = bytes; exponent = 0 } in c) e

pub same-bare : (a b : Buffer) → bare a ≡ bare b → a.bytes ≡ b.bytes
same-bare a b e = ap (λ (c : Buffer). c.bytes) e

-- ---- lists, element by element

module _ {A C : Type 0} (f : A → C) where
  more_same_suc : (xs ys : List A) (i : ℕ) (d e : A) → i < length xs → i < length ys → map f (take i xs) ≡ map f (take i ys) → f (get_or xs i d) ≡ f (get_or ys i e)
      → map f (take (suc i) xs) ≡ map f (take (suc i) ys)
  more_same_suc [] ys i d e h k p q = absurd (omega (arith, h))
  more_same_suc (x ∷ xs) [] i d e h k p q = absurd (omega (arith, k))
  more_same_suc (x ∷ xs) (y ∷ ys) zero d e h k p q = ap (λ z. z ∷ []) q
  more_same_suc (x ∷ xs) (y ∷ ys) (suc i) d e h k p q =
      let g : i < length xs = omega (arith, h) in
      let l : i < length ys = omega (arith, k) in
      λ j. heads _ _ _ _ p j ∷ more_same_suc xs ys i d e g l (tails _ _ _ _ p) q j

  -- Lists that are the same up to i, and at i, are the same up to i + 1.
  pub more_same : (xs ys : List A) (i : ℕ) (d e : A) → i < length xs → i < length ys → map f (take i xs) ≡ map f (take i ys) → f (get_or xs i d) ≡ f (get_or ys i e)
      → map f (take (i + 1) xs) ≡ map f (take (i + 1) ys)
  more_same xs ys i d e h k p q = rw (add-one i) (more_same_suc xs ys i d e h k p q)

  -- Lists that are the same are so at i.
  pub same_at : (xs ys : List A) (i : ℕ) (d e : A) → i < length xs → i < length ys → map f xs ≡ map f ys → f (get_or xs i d) ≡ f (get_or ys i e)
  same_at [] ys i d e h k p = absurd (omega (arith, h))
  same_at (x ∷ xs) [] i d e h k p = absurd (omega (arith, k))
  same_at (x ∷ xs) (y ∷ ys) zero d e h k p = heads _ _ _ _ p
  same_at (x ∷ xs) (y ∷ ys) (suc i) d e h k p =
      let g : i < length xs = omega (arith, h) in
      let l : i < length ys = omega (arith, k) in
      same_at xs ys i d e g l (tails _ _ _ _ p)

  -- They are as long.
  pub same_length : (xs ys : List A) → map f xs ≡ map f ys → length xs ≡ length ys
  same_length [] [] p = refl
  same_length [] (y ∷ ys) p = absurd (cc)
  same_length (x ∷ xs) [] p = absurd (cc)
  same_length (x ∷ xs) (y ∷ ys) p = ap (λ n. suc n) (same_length xs ys (tails _ _ _ _ p))

-- For loops over two lists of buffers.
pub ruleset alike = (more_same, same_at, same_length, bare-same, same-bare)

-- ---- nodes without their children

module _ (h g : Head) where
  pub heads-same : h.dtype ≡ g.dtype → h.len ≡ g.len → compared_body h.body ≡ compared_body g.body → compared_head h ≡ compared_head g
  heads-same p q r = λ i. untold (p i) (q i) (r i)

  pub same-types : compared_head h ≡ compared_head g → h.dtype ≡ g.dtype
  same-types e = ap (λ (k : Head). k.dtype) e

  pub same-lens : compared_head h ≡ compared_head g → h.len ≡ g.len
  same-lens e = ap (λ (k : Head). k.len) e

  pub same-bodies : compared_head h ≡ compared_head g → compared_body h.body ≡ compared_body g.body
  same-bodies e = ap (λ (k : Head). k.body) e

-- For the roots of two arrays.
pub ruleset roots = (heads-same, same-types, same-lens, same-bodies, count-roses_of)

-- ---- arrays

each_is : (ts : List Tree) → each_compared (roses_of ts) ≡ roses_of (map compared ts)
each_is [] = refl
each_is (t ∷ ts) = ap (λ z. more (compared t) z) (each_is ts)

count-each : (ts : Trees) → count (each_compared ts) ≡ count ts
count-each end = refl
count-each (more t ts) = ap (λ n. suc n) (count-each ts)

-- Equal arrays have equal roots and as many children.
pub root_of_same : (t u : Tree) → IsSame t u → (compared_head (label t) ≡ compared_head (label u)) × (count (below t) ≡ count (below u))
root_of_same (node h ts) (node g us) e = (ap label e, sym (count-each ts) ∙ ap (λ v. count (below v)) e ∙ count-each us)

-- Roots of equal types and lengths over as many children are equal exactly where their bodies are.
pub root_decided : (t u : Tree) (ts us : List Tree) (x y : DeclaredBody) (b : Bool) → (label t).dtype ≡ (label u).dtype → (label t).len ≡ (label u).len → roses_of ts ≡ below t → roses_of us ≡ below u
    → length ts ≡ length us → plain_body x ≡ (label t).body → plain_body y ≡ (label u).body → (IsTrue b ↔ (compared_body (plain_body x) ≡ compared_body (plain_body y)))
    → IsTrue b ↔ ((compared_head (label t) ≡ compared_head (label u)) × (count (below t) ≡ count (below u)))
root_decided t u ts us x y b d n p q l e f h = (
  λ s. (heads-same (label t) (label u) d n (ap compared_body (sym e) ∙ h.0 s ∙ ap compared_body f), sym (ap count p) ∙ count-roses_of ts ∙ l ∙ sym (count-roses_of us) ∙ ap count q),
  λ s. h.1 (ap compared_body e ∙ same-bodies (label t) (label u) (s.0) ∙ ap compared_body (sym f)),
)

module _ (t u : Tree) (ts us : List Tree) (p : roses_of ts ≡ below t) (q : roses_of us ≡ below u) where
  -- Roots over as many children have lists of them that are as long.
  pub as_many : count (below t) ≡ count (below u) → length ts ≡ length us
  as_many e = sym (count-roses_of ts) ∙ ap count p ∙ e ∙ ap count (sym q) ∙ count-roses_of us

  -- Equal arrays have equal children.
  pub children_of_same : IsSame t u → map compared ts ≡ map compared us
  children_of_same e =
      let f : roses_of (map compared ts) ≡ roses_of (map compared us) = sym (each_is ts) ∙ ap each_compared p ∙ ap below (split_first t u e) ∙ ap each_compared (sym q) ∙ each_is us in
      sym (roses_list-roses_of (map compared ts)) ∙ ap roses_list f ∙ roses_list-roses_of (map compared us)
    where
      split_first : (t u : Tree) → IsSame t u → node (compared_head (label t)) (each_compared (below t)) ≡ node (compared_head (label u)) (each_compared (below u))
      split_first (node h ts) (node g us) e = e

  -- Arrays with equal roots and children are equal.
  pub same_of_parts : compared_head (label t) ≡ compared_head (label u) → map compared ts ≡ map compared us → IsSame t u
  same_of_parts e f = joined t u (λ i. node (e i) (g i))
    where
      joined : (t u : Tree) → node (compared_head (label t)) (each_compared (below t)) ≡ node (compared_head (label u)) (each_compared (below u)) → IsSame t u
      joined (node h ts) (node g us) e = e

      g : each_compared (below t) ≡ each_compared (below u)
      g = ap each_compared (sym p) ∙ each_is ts ∙ ap roses_of f ∙ sym (each_is us) ∙ ap each_compared q

  -- Children that differ are of arrays that differ.
  pub differ_at : (i : ℕ) (d e : Tree) → i < length ts → i < length us → d ≡ get_or ts i d → e ≡ get_or us i e → (IsSame d e → ⊥) → IsSame t u → ⊥
  differ_at i d e h k r s n z = n (ap compared r ∙ same_at compared ts us i d e h k (children_of_same z) ∙ ap compared (sym s))

  -- All children being equal, the arrays are.
  pub same_of_all : (i : ℕ) → length ts ≡ length us → length ts ≤ i → compared_head (label t) ≡ compared_head (label u) → map compared (take i ts) ≡ map compared (take i us) → IsSame t u
  same_of_all i l k e f =
      same_of_parts e (ap (λ z. map compared z) (sym (take_all i ts (omega (arith, k)))) ∙ f ∙ ap (λ z. map compared z) (take_all i us (omega (arith, l, k))))
