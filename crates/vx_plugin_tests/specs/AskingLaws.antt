-- The laws of a plugin that reads a node as its one child.
use Rattle.std.proofs.Common.{◌≡◌, ◌&&◌, Bool, true, false, List, [], ◌∷◌, Some, length, nat_eq, sym, ◌∙◌}
use Rattle.std.proofs.lemmas.Bool.{eqb-true}
use Rattle.vx_trees.specs.Rose.{label}
use Rattle.vx_types.specs.Known.{ExtMeaning}
use Rattle.vx_array_tree.specs.Place.{Place, place}
use Rattle.vx_array_tree.specs.Tree.{Tree, Trees, places}
use Rattle.vx_wire_tree.specs.Plugin.{NodeHead, Parts, refused, given}
use Rattle.vx_plugin_tests.specs.Asking.{is_accepted, asking_plan}
use Rattle.vx_plugin_tests.specs.Odd.{odd_build}
use Rattle.vx_plugin_tests.specs.OddLaws.{one_child, one_long}
use Rattle.vx_plugin_tests.specs.Tested.{test_holds}

-- A refusal is not a form.
pub never_given : (y : Parts) → refused ≡ given y → ⊥
never_given y e = absurd (cc)

second : (a b : Bool) → (a && b) ≡ true → b ≡ true
second true b e = e
second false b e = absurd (cc)

pub one_each : (h : NodeHead) (x : ExtMeaning) (ps : List Place) → asking_plan h x ≡ Some ps → length ps ≡ h.nchildren
one_each h x ps e =
    let k = test_holds (is_accepted x h.dtype && nat_eq h.nchildren 1) (Some (place h.dtype h.len ∷ [])) ps e in
    one_long (place h.dtype h.len) ps k.1 ∙ sym (eqb-true h.nchildren 1 (second (is_accepted x h.dtype) (nat_eq h.nchildren 1) k.0))

pub as_asked : (h : NodeHead) (x : ExtMeaning) (ts : Trees) (t : Tree) → asking_plan h x ≡ Some (places ts) → odd_build ts ≡ Some t → ((label t).dtype ≡ h.dtype) × ((label t).len ≡ h.len)
as_asked h x ts t e b = one_child (is_accepted x h.dtype && nat_eq h.nchildren 1) (place h.dtype h.len) ts t e b
