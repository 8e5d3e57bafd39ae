-- What says where a node's rows are, and whether it is known.
use Rattle.std.proofs.Common.{ℕ, zero, suc, ◌≡◌, ◌<◌, ◌≤◌, ◌+◌, List, [], ◌∷◌, Bool, IsTrue, Some, slice_get, length, take, get_or, refl, sym, ap, ◌∙◌, subst, arith, add-one, replicate}
use Rattle.std.proofs.lemmas.Bool.{false≢true}
use borrow.Author.Count.{below_more}
use Rattle.std.proofs.lemmas.List.{take_all}
use Rattle.std.proofs.lemmas.Option.{same_Some, slice_get_read}
use Rattle.vx_types.specs.Typ.{Typ}
use Rattle.vx_trees.specs.Everywhere.{EverywhereBelow}
use Rattle.vx_trees.specs.Rose.{end, label, below, roses_of}
use Rattle.vx_trees.proofs.Lists.{count-roses_of, roses_list-roses_of}
use Rattle.vx_trees.proofs.Holding.{everywhere-at, everywhere-node, everywhere-parts}
use Rattle.vx_array_tree.specs.Body.{Body}
use Rattle.vx_array_tree.specs.Body as B
use Rattle.vx_array_tree.specs.Encoding.{Encoding}
use Rattle.vx_array_tree.specs.Encodings.Foreigns as Foreigns
use Rattle.vx_array_tree.specs.Place.{place}
use Rattle.vx_array_tree.specs.Refused.{IsWellShaped}
use Rattle.vx_array_tree.specs.Sound.{HasNativeControls, HasNativeEntries, HasNoForeign, IsControlled, IsControlledBy, IsNativeNode, IsSoundNode}
use Rattle.vx_array_tree.specs.Table.{encoding_of, is_control, IsNative}
use Rattle.vx_array_tree.specs.Tree.{Tree, Trees, untold}
use Rattle.vx_array_tree.proofs.LawsOfPlaces.{places_count}
use Rattle.vx_arrays.proofs.Untold.{untold_sound}

-- ---- without children

nothing_there : (i : ℕ) (t : Tree) → slice_get [] i ≡ Some t → ⊥
nothing_there i t e = absurd (cc)

-- Of a node without children it is known where its rows are.
pub bare_controlled : (f : Encoding) (d : Typ) → HasNativeEntries f end → IsControlledBy f d end
bare_controlled f d e = record { controls = λ i t q k. absurd (nothing_there i t q); entries = e }

-- ---- foreign nodes

-- A foreign node is of the right shape over any children, none of which says where its rows are.
pub foreign_shaped : (d : Typ) (n : ℕ) (x : Foreigns.Data) (ts : Trees) → IsWellShaped (untold d n (B.foreign x)) ts
foreign_shaped d n x ts = record { fair = tt; planned = ap (λ k. Some (replicate k (place d n))) (sym (places_count ts)); allows = tt; takes = tt; holds = tt }

pub foreign_controlled : (d : Typ) (n : ℕ) (x : Foreigns.Data) (ts : Trees) → IsControlled (untold d n (B.foreign x)) ts
foreign_controlled d n x ts = record { controls = λ i t q k. absurd (false≢true k); entries = tt }

-- So it is sound over any that are.
pub foreign_sound : (d : Typ) (n : ℕ) (x : Foreigns.Data) (ts : Trees) → IsSoundNode (untold d n (B.foreign x)) ts
foreign_sound d n x ts = untold_sound d n (B.foreign x) ts (foreign_shaped d n x ts) (foreign_controlled d n x ts) tt

-- ---- child by child

-- Of the first n children those that are control children hold no foreign node.
abbrev pub IsKnownAt : (ℕ → Bool) → List Tree → ℕ → Type 0
IsKnownAt f us j = (t : Tree) → slice_get us j ≡ Some t → IsTrue (f j) → HasNoForeign t

abbrev pub AreKnown : (ℕ → Bool) → List Tree → ℕ → Type 0
AreKnown f us n = (j : ℕ) → j < n → IsKnownAt f us j

slice_get_inside : (us : List Tree) (i : ℕ) (t : Tree) → slice_get us i ≡ Some t → i < length us
slice_get_inside [] i t e = absurd (nothing_there i t e)
slice_get_inside (u ∷ us) zero t e = omega arith
slice_get_inside (u ∷ us) (suc i) t e = let l = slice_get_inside us i t e in omega (arith, l)

got : (us : List Tree) (i : ℕ) (t d : Tree) → slice_get us i ≡ Some t → get_or us i d ≡ t
got [] i t d e = absurd (nothing_there i t e)
got (u ∷ us) zero t d e = same_Some u t e
got (u ∷ us) (suc i) t d e = got us i t d e

-- One child more.
pub known_more : (f : ℕ → Bool) (us : List Tree) (i : ℕ) (d : Tree) → d ≡ get_or us i d → AreKnown f us i → (IsTrue (f i) → HasNoForeign d) → AreKnown f us (i + 1)
known_more f us i d q a n = below_more (IsKnownAt f us) i a (λ t e k. subst (λ (u : Tree). HasNoForeign u) (q ∙ got us i t d e) (n k))

-- One that says nothing of where rows are.
pub known_past : (f : ℕ → Bool) (us : List Tree) (i : ℕ) → AreKnown f us i → (IsTrue (f i) → ⊥) → AreKnown f us (i + 1)
known_past f us i a n = below_more (IsKnownAt f us) i a (λ t e k. absurd (n k))

module _ (d : Typ) (n : ℕ) (b : Body) (us : List Tree) where
  known_controls : (i : ℕ) → length us ≤ i → AreKnown (λ j. is_control (encoding_of b) d (length us) j) us i → HasNativeControls (encoding_of b) d (roses_of us)
  known_controls i l a j t e k =
      let x : slice_get us j ≡ Some t = ap (λ (ts : List Tree). slice_get ts j) (sym (roses_list-roses_of us)) ∙ e in
      a j (omega (arith, l, slice_get_inside us j t x)) t x (subst (λ (m : ℕ). IsTrue (is_control (encoding_of b) d m j)) (count-roses_of us) k)

  -- All of them being looked at, control children are known.
  pub all_known : (i : ℕ) → length us ≤ i → HasNativeEntries (encoding_of b) (roses_of us) → AreKnown (λ j. is_control (encoding_of b) d (length us) j) us i → IsControlled (untold d n b) (roses_of us)
  all_known i l e a = record { controls = known_controls i l a; entries = e }

  -- One that holds a foreign node says that it is not.
  pub one_foreign : (i : ℕ) (u : Tree) → i < length us → u ≡ get_or us i u → IsTrue (is_control (encoding_of b) d (length us) i) → (HasNoForeign u → ⊥) → IsControlled (untold d n b) (roses_of us) → ⊥
  one_foreign i u l q k f c =
      f
      (c.controls i u
      (ap (λ (ts : List Tree). slice_get ts i) (roses_list-roses_of us) ∙ slice_get_read us (length us) i u refl l q)
      (subst (λ (m : ℕ). IsTrue (is_control (encoding_of b) d m i)) (sym (count-roses_of us)) k))

-- ---- all the nodes of an array

-- One child more.
pub native_more : (us : List Tree) (i : ℕ) (d : Tree) → i < length us → d ≡ get_or us i d → EverywhereBelow IsNativeNode (roses_of (take i us)) → HasNoForeign d → EverywhereBelow IsNativeNode (roses_of (take (i + 1) us))
native_more us i d l q g h = rw (add-one i) (more_suc us i l q g)
  where
    more_suc : (us : List Tree) (i : ℕ) → i < length us → d ≡ get_or us i d → EverywhereBelow IsNativeNode (roses_of (take i us)) → EverywhereBelow IsNativeNode (roses_of (take (suc i) us))
    more_suc [] i l q g = absurd (omega (arith, l))
    more_suc (u ∷ us) zero l q g = (subst (λ (t : Tree). HasNoForeign t) q h, tt)
    more_suc (u ∷ us) (suc i) l q g = (g.0, more_suc us i (omega (arith, l)) q g.1)

-- An array has a foreign node where its root is one.
pub root_foreign : (t : Tree) → (IsNative (label t).body → ⊥) → HasNoForeign t → ⊥
root_foreign t f h = f (everywhere-parts IsNativeNode t h).0

module _ (t : Tree) (us : List Tree) (e : roses_of us ≡ below t) where
  -- The root and all children being looked at, no node is foreign.
  pub all_native : (i : ℕ) → length us ≤ i → IsNative (label t).body → EverywhereBelow IsNativeNode (roses_of (take i us)) → HasNoForeign t
  all_native i l r g =
      everywhere-node IsNativeNode t r
      (subst (λ (ts : Trees). EverywhereBelow IsNativeNode ts) (ap (λ (vs : List Tree). roses_of vs) (take_all i us l) ∙ e) g)

  -- It has one where a child has.
  pub child_foreign : (i : ℕ) (d : Tree) → i < length us → d ≡ get_or us i d → (HasNoForeign d → ⊥) → HasNoForeign t → ⊥
  child_foreign i d l q f h =
      let g : EverywhereBelow IsNativeNode (roses_of us) = subst (λ (ts : Trees). EverywhereBelow IsNativeNode ts) (sym e) (everywhere-parts IsNativeNode t h).1 in
      f (subst (λ (u : Tree). HasNoForeign u) (sym q) (everywhere-at IsNativeNode us i d l g))

pub ruleset foreign_nodes = (foreign_shaped, foreign_controlled, foreign_sound)
