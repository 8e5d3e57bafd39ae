-- What stands after a node's other children.
use Rattle.std.proofs.Common.{ℕ, ◌≡◌, ◌≤◌, List, [], ◌∷◌, ◌++◌, Some, Result, Ok, IfOk, sym, ap, ◌∙◌, subst, length, arith}
use Rattle.std.specs.Prelude.{OnOk}
use Rattle.vx_trees.specs.Rose.{end, more, count, roses_list, roses_of}
use Rattle.vx_trees.proofs.Lists.{roses_of-roses_list}
use Rattle.vx_array_tree.specs.Place.{before_validity}
use Rattle.vx_array_tree.specs.Tree.{Tree, Trees, places}

-- Two arrays or more are no validity.
pub never_two : (n : ℕ) (us : List Tree) → 2 ≤ length us → before_validity [] n (count (roses_of us)) ≡ Some (places (roses_of us)) → ⊥
never_two n [] l e = omega (arith, l)
never_two n (u ∷ []) l e = omega (arith, l)
never_two n (u ∷ v ∷ us) l e = absurd (cc)

-- What is put after others stands after them: after none, one, two and three.
listed_are : (ts us : Trees) → roses_list ts ≡ roses_list us → ts ≡ us
listed_are ts us e = sym (roses_of-roses_list ts) ∙ ap (λ (xs : List Tree). roses_of xs) e ∙ roses_of-roses_list us

one_put : (none xs : Trees) (a : Tree) → none ≡ end → roses_list xs ≡ roses_list none ++ a ∷ [] → roses_list xs ≡ a ∷ []
one_put none xs a e f = f ∙ ap (λ (ts : Trees). roses_list ts ++ a ∷ []) e

next_put : (xs ys : Trees) (us : List Tree) (a : Tree) → roses_list xs ≡ us → roses_list ys ≡ roses_list xs ++ a ∷ [] → roses_list ys ≡ us ++ a ∷ []
next_put xs ys us a e f = f ∙ ap (λ (ts : List Tree). ts ++ a ∷ []) e

last_put : (xs ys vs : Trees) (us : List Tree) → roses_list xs ≡ us → roses_list ys ≡ roses_list xs ++ roses_list vs → roses_list ys ≡ us ++ roses_list vs
last_put xs ys vs us e f = f ∙ ap (λ (ts : List Tree). ts ++ roses_list vs) e

pub on_ok : {A B P : Type 0} (r : Result A B) (x : A) → r ≡ Ok x → OnOk r P → P
on_ok {A} {B} {P} r x e h = subst (λ (q : Result A B). OnOk q P) e h

pub if_ok : {A B : Type 0} (P : A → Type 0) (r : Result A B) (x : A) → r ≡ Ok x → IfOk r P → P x
if_ok {A} {B} P r x e h = subst (λ (q : Result A B). IfOk q P) e h

module _ (none zs vs : Trees) (e : none ≡ end) where
  pub after_none : roses_list zs ≡ roses_list none ++ roses_list vs → zs ≡ vs
  after_none h = listed_are zs vs (h ∙ ap (λ (ts : Trees). roses_list ts ++ roses_list vs) e)

  module _ (xs : Trees) (a : Tree) (f : roses_list xs ≡ roses_list none ++ a ∷ []) where
    pub after_one : roses_list zs ≡ roses_list xs ++ roses_list vs → zs ≡ more a vs
    after_one h = listed_are zs (more a vs) (last_put xs zs vs (a ∷ []) (one_put none xs a e f) h)

    module _ (ys : Trees) (b : Tree) (g : roses_list ys ≡ roses_list xs ++ b ∷ []) where
      two : roses_list ys ≡ a ∷ b ∷ []
      two = next_put xs ys (a ∷ []) b (one_put none xs a e f) g

      pub after_two : roses_list zs ≡ roses_list ys ++ roses_list vs → zs ≡ more a (more b vs)
      after_two h = listed_are zs (more a (more b vs)) (last_put ys zs vs (a ∷ b ∷ []) two h)

      pub after_three : (ws : Trees) (d : Tree) → roses_list ws ≡ roses_list ys ++ d ∷ [] → roses_list zs ≡ roses_list ws ++ roses_list vs → zs ≡ more a (more b (more d vs))
      after_three ws d k h = listed_are zs (more a (more b (more d vs))) (last_put ws zs vs (a ∷ b ∷ d ∷ []) (next_put ys ws (a ∷ b ∷ []) d two k) h)
