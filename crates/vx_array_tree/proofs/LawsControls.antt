-- Where no node is foreign, it is known where rows are.
use Rattle.std.proofs.Common.{ℕ, zero, suc, ◌≡◌, Some, subst, slice_get}
use Rattle.std.proofs.lemmas.Option.{same_Some}
use Rattle.vx_trees.specs.Everywhere.{EverywhereBelow}
use Rattle.vx_trees.specs.Rose.{node, end, more, roses_list}
use Rattle.vx_types.specs.Typ.{Typ}
use Rattle.vx_array_tree.specs.Encoding.{Encoding}
use Rattle.vx_array_tree.specs.Encoding as E
use Rattle.vx_array_tree.specs.Sound.{IsNativeNode, HasNoForeign, HasNativeEntries, IsControlledBy}
use Rattle.vx_array_tree.specs.Tree.{Tree, Trees}

native_child : (ts : Trees) (i : ℕ) (t : Tree) → EverywhereBelow IsNativeNode ts → slice_get (roses_list ts) i ≡ Some t → HasNoForeign t
native_child end zero t f e = absurd (cc)
native_child end (suc i) t f e = absurd (cc)
native_child (more u us) zero t f e = subst (λ (z : Tree). HasNoForeign z) (same_Some u t e) f.0
native_child (more u us) (suc i) t f e = native_child us i t f.1 e

native_entries : (e : Encoding) (ts : Trees) → EverywhereBelow IsNativeNode ts → HasNativeEntries e ts
native_entries E.map end f = tt
native_entries E.map (more (node h us) ts) f = f.0.0
native_entries _ ts f = tt

-- It is known where the rows are of a node over children without foreign nodes.
pub native_controlled : (e : Encoding) (d : Typ) (ts : Trees) → EverywhereBelow IsNativeNode ts → IsControlledBy e d ts
native_controlled e d ts f = record { controls = λ i t q k. native_child ts i t f q; entries = native_entries e ts f }

-- What shows that an array of a known encoding and without children has no foreign node, and that one such child has
-- none.
abbrev pub leaf : Unit {0} × Unit {0}
leaf = (tt, tt)

abbrev pub one_leaf : (Unit {0} × Unit {0}) × Unit {0}
one_leaf = (leaf, tt)
