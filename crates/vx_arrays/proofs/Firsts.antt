-- Lists of arrays with one taken out in front, or put there.
use Rattle.std.proofs.Common.{◌≡◌, ◌≤◌, List, [], ◌∷◌, get_or, sym, ap, ◌∙◌, subst, length, arith}
use Rattle.std.specs.List.{insert, remove}
use Rattle.vx_trees.specs.Everywhere.{EverywhereBelow}
use Rattle.vx_trees.specs.Rose.{more, roses_of}
use Rattle.vx_array_tree.specs.Sound.{IsSound, IsSoundNode}
use Rattle.vx_array_tree.specs.Tree.{Tree}

-- The first and the others are the list.
pub first_out : (ts us : List Tree) (t : Tree) → t ≡ get_or ts 0 t → us ≡ remove ts 0 → 1 ≤ length ts → more t (roses_of us) ≡ roses_of ts
first_out [] us t e q h = absurd (omega (arith, h))
first_out (u ∷ ts) us t e q h = ap (λ (v : Tree). more v (roses_of us)) e ∙ ap (λ (vs : List Tree). more u (roses_of vs)) q

pub sound_without_first : (ts us : List Tree) → EverywhereBelow IsSoundNode (roses_of ts) → us ≡ remove ts 0 → EverywhereBelow IsSoundNode (roses_of us)
sound_without_first [] us h q = subst (λ (vs : List Tree). EverywhereBelow IsSoundNode (roses_of vs)) (sym q) tt
sound_without_first (t ∷ ts) us h q = subst (λ (vs : List Tree). EverywhereBelow IsSoundNode (roses_of vs)) (sym q) h.1

-- One more in front.
pub first_in : (ts us : List Tree) (t : Tree) → us ≡ insert ts 0 t → roses_of us ≡ more t (roses_of ts)
first_in ts us t q = ap (λ (vs : List Tree). roses_of vs) q

pub sound_with_first : (ts us : List Tree) (t : Tree) → EverywhereBelow IsSoundNode (roses_of ts) → IsSound t → us ≡ insert ts 0 t → EverywhereBelow IsSoundNode (roses_of us)
sound_with_first ts us t h g q = subst (λ (vs : List Tree). EverywhereBelow IsSoundNode (roses_of vs)) (sym q) (g, h)
