-- The laws of a plugin that writes an array over itself, or not at all.
use Rattle.std.proofs.Common.{ℕ, ◌≡◌, Bool, List, [], ◌∷◌, Some, None, length, nat_eq, if◌then◌else◌, refl, ap, sym, ◌∙◌}
use Rattle.std.proofs.lemmas.Bool.{eqb-true}
use Rattle.vx_trees.specs.Rose.{node, end, more, label}
use Rattle.vx_array_tree.specs.Place.{Place, place}
use Rattle.vx_array_tree.specs.Tree.{Tree, Trees, places, with_stats}
use Rattle.vx_wire_tree.specs.Plugin.{NodeHead, Parts, given, head_of}
use Rattle.vx_plugin_tests.specs.declared.odd.Oddity.{Oddity}
use Rattle.vx_plugin_tests.specs.declared.odd.Oddity.TheVariants.{Formless, Unwilling, Undeclared, Endless}
use Rattle.vx_plugin_tests.specs.Tested.{test_holds}
use Rattle.vx_plugin_tests.specs.Odd.{over, odd_answer, odd_plan, odd_build}

-- A list of one place has the length 1.
pub one_long : (p : Place) (ps : List Place) → Some (p ∷ []) ≡ Some ps → length ps ≡ 1
one_long p ps e = let same : p ∷ [] ≡ ps = cc in sym (ap (λ (z : List Place). length z) same)

pub one_each : (h : NodeHead) (ps : List Place) → odd_plan h ≡ Some ps → length ps ≡ h.nchildren
one_each h ps e =
    let k = test_holds (nat_eq h.nchildren 1) (Some (place h.dtype h.len ∷ [])) ps e in
    one_long (place h.dtype h.len) ps k.1 ∙ sym (eqb-true h.nchildren 1 k.0)

first : (p : Place) (ps : List Place) (q : Place) (qs : List Place) → Some (p ∷ ps) ≡ Some (q ∷ qs) → p ≡ q
first p ps q qs e = cc

-- Where one child is planned at a place, it stands there.
pub one_child : (b : Bool) (p : Place) (ts : Trees) (t : Tree) → (if b then Some (p ∷ []) else None) ≡ Some (places ts) → odd_build ts ≡ Some t → ((label t).dtype ≡ p.dtype) × ((label t).len ≡ p.len)
one_child b p end t e k = absurd (cc)
one_child b p (more u us) t e k =
    let same : u ≡ t = cc in
    let q = first p [] (place (label u).dtype (label u).len) (places us) (test_holds b (Some (p ∷ [])) (places (more u us)) e).1 in
    (ap (λ (z : Tree). (label z).dtype) (sym same) ∙ sym (ap (λ (z : Place). z.dtype) q), ap (λ (z : Tree). (label z).len) (sym same) ∙ sym (ap (λ (z : Place). z.len) q))

pub as_asked : (h : NodeHead) (ts : Trees) (t : Tree) → odd_plan h ≡ Some (places ts) → odd_build ts ≡ Some t → ((label t).dtype ≡ h.dtype) × ((label t).len ≡ h.len)
as_asked h ts t e b = one_child (nat_eq h.nchildren 1) (place h.dtype h.len) ts t e b

parts_are : (o : Oddity) (id other : List ℕ) (t : Tree) (y : Parts) → odd_answer o id other t ≡ given y → (i : List ℕ) × (over i t ≡ y)
parts_are Formless id other t y e = absurd (cc)
parts_are Unwilling id other t y e = absurd (cc)
parts_are Undeclared id other t y e = (other, cc)
parts_are Endless id other t y e = (id, cc)

pub plans_again : (o : Oddity) (id other : List ℕ) (t : Tree) (y : Parts) → odd_answer o id other t ≡ given y → odd_plan (head_of y t) ≡ Some (places y.children)
plans_again o id other t y e =
    let k = parts_are o id other t y e in
    ap (λ (z : Parts). odd_plan (head_of z t)) (sym k.1) ∙ ap (λ (z : Parts). Some (places z.children)) k.1

pub own_stats : (t : Tree) → t ≡ with_stats (label t).stats t
own_stats (node h ts) = refl

pub builds_again : (o : Oddity) (id other : List ℕ) (t : Tree) (y : Parts) → odd_answer o id other t ≡ given y → (b : Tree) × (odd_build y.children ≡ Some b) × (t ≡ with_stats (label t).stats b)
builds_again o id other t y e = (t, ap (λ (z : Parts). odd_build z.children) (sym (parts_are o id other t y e).1), own_stats t)
