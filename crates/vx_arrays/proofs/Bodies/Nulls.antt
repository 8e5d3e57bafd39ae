-- Nodes of nulls with other buffers.
use Rattle.std.proofs.Common.{ℕ, ◌≡◌, List, [], Some, refl, ap, ◌∙◌}
use Rattle.vx_buffer.specs.Buffer.{Buffer}
use Rattle.vx_trees.specs.Rose.{node, end, more, count}
use Rattle.vx_types.specs.Kind as K
use Rattle.vx_types.specs.Typ.{Typ}
use Rattle.vx_array_tree.specs.Body as B
use Rattle.vx_array_tree.specs.Encodings.Nulls as Nulls
use Rattle.vx_array_tree.specs.Sound.{IsSoundNode}
use Rattle.vx_array_tree.specs.Tree.{Trees, places, untold}
use Rattle.vx_arrays.specs.NewBuffers.{with_buffers}
use Rattle.vx_arrays.specs.Nulls.{null_tree}

nulls_alone : (d : Typ) (n : ℕ) (ts : Trees) → Nulls.plan d n (count ts) ≡ Some (places ts) → (d ≡ node K.null end) × (ts ≡ end)
nulls_alone (node K.null end) n end e = (refl, refl)
nulls_alone (node K.null end) n (more t ts) e = absurd (cc)
nulls_alone _ n ts e = absurd (cc)

-- Without buffers a node of nulls is what it was.
pub nulls_made : (d : Typ) (n : ℕ) (ts : Trees) (bs : List Buffer) → IsSoundNode (untold d n B.null) ts → bs ≡ [] → with_buffers (node (untold d n B.null) ts) bs ≡ Some (null_tree n)
nulls_made d n ts bs s e =
    let p = nulls_alone d n ts s.planned in
    ap (λ (cs : List Buffer). with_buffers (node (untold d n B.null) ts) cs) e ∙ (λ i. Some (node (untold (p.0 i) n B.null) (p.1 i)))
