-- The bytes that are written of a root's metadata, by what the root holds.
use Rattle.std.proofs.Common.{◌≡◌, List, [], Result, IfOk, refl, sym, ap, ◌∙◌, subst, ℕ}
use Rattle.vx_trees.specs.Rose.{label, below}
use Rattle.vx_array_tree.specs.Body as B
use Rattle.vx_array_tree.specs.Sound.{metadata_in}
use Rattle.vx_array_tree.specs.Table.{metadata_of}
use Rattle.vx_array_tree.specs.Tree.{Tree, Trees, places}
use Rattle.vx_wire_tree.specs.Fields.{told}
use Rattle.vx_arrays.specs.Plain.{plain_body}
use Rattle.vx_arrays.specs.declared.body.Body.{Body}
use Rattle.vx_encodings.specs.Messages.{message_bytes}
use Rattle.vx_plans.specs.declared.error.EncodingError.{EncodingError}

-- The bytes that are written of the metadata of a node that holds this, over these children.
abbrev pub kept_bytes : B.Body → Trees → List ℕ
kept_bytes b ts = message_bytes (told (metadata_of b (places ts)))

module _ (t : Tree) (b c : Body) (e : b ≡ c) (p : plain_body b ≡ (label t).body) where
  root : (us : Trees) → us ≡ below t → kept_bytes (plain_body c) us ≡ message_bytes (told (metadata_in (label t) (below t)))
  root us u = (λ i. kept_bytes (plain_body (sym e i)) (u i)) ∙ ap (λ (x : B.Body). kept_bytes x (below t)) p

  -- Where there is no metadata, no byte is written.
  pub nothing_kept : (bytes : List ℕ) → bytes ≡ [] → kept_bytes (plain_body c) (below t) ≡ [] → bytes ≡ message_bytes (told (metadata_in (label t) (below t)))
  nothing_kept bytes q n = q ∙ sym n ∙ root (below t) refl

  -- Else it is what the encoding writes over the children.
  pub message_kept : (us : Trees) (r : Result (List ℕ) EncodingError) → us ≡ below t → IfOk r (λ bytes. bytes ≡ kept_bytes (plain_body c) us)
      → IfOk r (λ bytes. bytes ≡ message_bytes (told (metadata_in (label t) (below t))))
  message_kept us r u q = subst (λ (z : List ℕ). IfOk r (λ bytes. bytes ≡ z)) (root us u) q

-- The lemmas for writing metadata.
pub ruleset kept = (nothing_kept, message_kept)
