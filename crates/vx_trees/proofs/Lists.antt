-- The trees below a node as a list.
use Rattle.std.specs.Prelude.{ℕ, suc, ◌+◌, ◌≡◌, ◌<◌, List, [], ◌∷◌, length, take, refl}
use Rattle.std.proofs.Common.{ap, arith, ◌∙◌}
use Rattle.std.proofs.lemmas.List.{take_all}
use Rattle.vx_trees.specs.Rose.{Rose, Roses, node, end, more, label, below, roses_of, roses_list, count}

module _ {L : Type 0} where
  pub roses_list-roses_of : (ts : List (Rose L)) → roses_list (roses_of ts) ≡ ts
  roses_list-roses_of [] = refl
  roses_list-roses_of (t ∷ ts) = ap (λ r. t ∷ r) (roses_list-roses_of ts)

  pub roses_of-roses_list : (ts : Roses L) → roses_of (roses_list ts) ≡ ts
  roses_of-roses_list end = refl
  roses_of-roses_list (more t ts) = ap (λ r. more t r) (roses_of-roses_list ts)

  pub roses_of-empty : (ts : List (Rose L)) → length ts ≡ 0 → roses_of ts ≡ end
  roses_of-empty [] e = refl
  roses_of-empty (t ∷ ts) e = absurd (omega (arith, e))

  pub length-roses_of_end : (ts : List (Rose L)) → roses_of ts ≡ end → length ts ≡ 0
  length-roses_of_end [] e = refl
  length-roses_of_end (t ∷ ts) e = absurd (cc)

  pub count-roses_of : (ts : List (Rose L)) → count (roses_of ts) ≡ length ts
  count-roses_of [] = refl
  count-roses_of (t ∷ ts) = ap (λ n. suc n) (count-roses_of ts)

  pub length-roses_list : (ts : Roses L) → length (roses_list ts) ≡ count ts
  length-roses_list end = refl
  length-roses_list (more t ts) = ap (λ n. suc n) (length-roses_list ts)

  -- A node rebuilt from as many trees as stand below it is the node.
  pub node-again : (t : Rose L) (ts us : List (Rose L)) (i : ℕ) → roses_of ts ≡ below t → us ≡ take i ts → length ts < i + 1 → node (label t) (roses_of us) ≡ t
  node-again (node l rs) ts us i p q h = ap (λ r. node l (roses_of r)) (q ∙ take_all i ts (omega (arith, h))) ∙ ap (λ r. node l r) p
