-- That a root's metadata fits its message, by what the root holds.
use Rattle.std.proofs.Common.{◌≡◌, Bool as Truth, sym, ap, ◌∙◌, subst}
use Rattle.std.specs.Prelude.{IsTrue, IsFalse}
use Rattle.vx_trees.specs.Rose.{label, below}
use Rattle.vx_array_tree.specs.Body as B
use Rattle.vx_array_tree.specs.Table.{metadata_of}
use Rattle.vx_array_tree.specs.Tree.{Tree, Trees, places}
use Rattle.vx_wire_tree.specs.Fields.{FitsMessage}
use Rattle.vx_wire_tree.specs.Limits.{HasMessage}
use Rattle.vx_arrays.specs.Plain.{plain_body}
use Rattle.vx_arrays.specs.declared.body.Body.{Body}

-- The metadata of a node that holds this, over these children, fits its message.
abbrev pub KeepsFit : B.Body → Trees → Type 0
KeepsFit b ts = FitsMessage (metadata_of b (places ts))

module _ (t : Tree) (b c : Body) (e : b ≡ c) (p : plain_body b ≡ (label t).body) where
  same : plain_body c ≡ (label t).body
  same = ap (λ (x : Body). plain_body x) (sym e) ∙ p

  -- It does where the body and the children at hand say so.
  pub root_fits : KeepsFit (plain_body c) (below t) → HasMessage (label t) (below t)
  root_fits h =
      let P : B.Body → Type 0 = λ x. KeepsFit x (below t) in
      subst P same h

  module _ (us : Trees) (u : us ≡ below t) where
    -- Where the root's metadata fits, that of the body over the children at hand does.
    pub fits_over : HasMessage (label t) (below t) → KeepsFit (plain_body c) us
    fits_over h =
        let P : B.Body → Type 0 = λ x. KeepsFit x (below t) in
        subst (λ (ts : Trees). KeepsFit (plain_body c) ts) (sym u) (subst P (sym same) h)

    -- For some encodings a test of the children decides it.
    pub tested_fits : (r : Truth) → (IsTrue r → KeepsFit (plain_body c) us) → IsTrue r → HasMessage (label t) (below t)
    tested_fits r h x = root_fits (subst (λ (ts : Trees). KeepsFit (plain_body c) ts) u (h x))

    pub tested_over : (r : Truth) → (IsFalse r → KeepsFit (plain_body c) us → ⊥) → IsFalse r → HasMessage (label t) (below t) → ⊥
    tested_over r h x m = h x (fits_over m)

-- The lemmas for the test of a root's metadata.
pub ruleset fit = (root_fits, tested_fits, tested_over)
