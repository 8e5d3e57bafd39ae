-- What is made of a head over children is made of those that they are.
use Rattle.std.proofs.Common.{◌≡◌, Bool, Result, IfOk, IfErr, IsTrue, sym, subst}
use Rattle.std.specs.Prelude.{◌↔◌}
use Rattle.vx_trees.specs.Everywhere.{EverywhereBelow}
use Rattle.vx_trees.specs.Rose.{node}
use Rattle.vx_array_tree.specs.Refused.{IsWellShaped}
use Rattle.vx_array_tree.specs.Sound.{IsControlled, IsSound, IsSoundNode}
use Rattle.vx_array_tree.specs.Table.{Content}
use Rattle.vx_array_tree.specs.Tree.{Head, Tree, Trees, rows_below}
use Rattle.vx_arrays.specs.Refused.{RefusesMaking, IsOkOrMemory}
use Rattle.vx_rows.specs.declared.error.ArrayError.{ArrayError}

module _ (g h : Head) (ts us : Trees) (p : g ≡ h) (e : ts ≡ us) where
  same_node : node g ts ≡ node h us
  same_node = λ i. node (p i) (e i)

  pub made_over : (r : Result Tree ArrayError) → IfOk r (λ a. a ≡ node g ts) → IfOk r (λ a. a ≡ node h us)
  made_over r q = subst (λ (t : Tree). IfOk r (λ a. a ≡ t)) same_node q

  pub unmade_over : (r : Result Tree ArrayError) → IfErr r (λ x. RefusesMaking x (node g ts)) → IfErr r (λ x. RefusesMaking x (node h us))
  unmade_over r q = subst (λ (t : Tree). IfErr r (λ x. RefusesMaking x t)) same_node q

  pub complete_over : (r : Result Tree ArrayError) → (IsSound (node g ts) → IsOkOrMemory r) → IsSound (node h us) → IsOkOrMemory r
  complete_over r q = subst (λ (t : Tree). IsSound t → IsOkOrMemory r) same_node q

  pub shaped_over : (b : Bool) → (IsTrue b ↔ IsWellShaped h us) → IsTrue b ↔ IsWellShaped g ts
  shaped_over b q = subst (λ (k : Head). IsTrue b ↔ IsWellShaped k ts) (sym p) (subst (λ (vs : Trees). IsTrue b ↔ IsWellShaped h vs) (sym e) q)

  pub content_over :
      (b r : Bool) → (IsTrue b → IsControlled h us → IsTrue r ↔ Content h.dtype h.len h.body (rows_below us)) →
      IsTrue b → IsControlled g ts → IsTrue r ↔ Content g.dtype g.len g.body (rows_below ts)
  content_over b r q =
      subst (λ (k : Head). IsTrue b → IsControlled k ts → IsTrue r ↔ Content k.dtype k.len k.body (rows_below ts)) (sym p)
      (subst (λ (vs : Trees). IsTrue b → IsControlled h vs → IsTrue r ↔ Content h.dtype h.len h.body (rows_below vs)) (sym e) q)

  pub below_over : (b : Bool) → (IsTrue b → EverywhereBelow IsSoundNode us) → IsTrue b → EverywhereBelow IsSoundNode ts
  below_over b q = subst (λ (vs : Trees). IsTrue b → EverywhereBelow IsSoundNode vs) (sym e) q
