-- Arrays that are the same again.
use Rattle.std.proofs.Common.{ℕ, ◌≡◌, ◌≤◌, List, length, take, sym, ap, ◌∙◌, subst}
use Rattle.std.proofs.lemmas.List.{take_all}
use Rattle.vx_trees.specs.Rose.{node, label, below, roses_of}
use Rattle.vx_types.specs.Typ.{Typ}
use Rattle.vx_scalars.specs.Stats.{Stats}
use Rattle.vx_array_tree.specs.Sound.{IsSound, IsSoundNode}
use Rattle.vx_array_tree.specs.Tree.{Tree, Trees}
use Rattle.vx_arrays.specs.Plain.{plain_body, plain_head}
use Rattle.vx_arrays.specs.declared.body.Body.{Body}

-- All of the first children are the children.
pub all_of_them : (cs us : List Tree) (i : ℕ) (ts : Trees) → cs ≡ take i us → length us ≤ i → roses_of us ≡ ts → roses_of cs ≡ ts
all_of_them cs us i ts p h q = ap (λ (xs : List Tree). roses_of xs) (p ∙ take_all i us h) ∙ q

-- A node of the same parts is the same.
pub same_again : (t : Tree) (d : Typ) (n : ℕ) (x : Stats) (b : Body) (ts : Trees) → d ≡ (label t).dtype → n ≡ (label t).len → x ≡ (label t).stats → plain_body b ≡ (label t).body → ts ≡ below t
    → node (plain_head d n x b) ts ≡ t
same_again (node h us) d n x b ts p q r w e = λ i. node (record { dtype = p i; len = q i; stats = r i; body = w i }) (e i)

-- It is sound as that is.
pub sound_again : (t : Tree) (d : Typ) (n : ℕ) (x : Stats) (b : Body) (ts : Trees) → node (plain_head d n x b) ts ≡ t → IsSound t → IsSoundNode (plain_head d n x b) ts
sound_again t d n x b ts e s =
    let g : IsSound (node (plain_head d n x b) ts) = subst (λ (u : Tree). IsSound u) (sym e) s in
    g.0
