-- What nodes of numbers hold, as it is compared and with other buffers.
use Rattle.std.proofs.Common.{ℕ, ◌≡◌, List, [], ◌∷◌, Option, Some, sym, ap, ◌∙◌}
use Rattle.vx_buffer.specs.Buffer.{Buffer}
use Rattle.vx_trees.specs.Rose.{node, end}
use Rattle.vx_types.specs.Kind as K
use Rattle.vx_types.specs.Typ.{Typ}
use Rattle.vx_types.specs.declared.nullability.Nullability.{Nullability}
use Rattle.vx_numbers.specs.declared.ptype.PType.{PType}
use Rattle.vx_array_tree.specs.Body.{Body}
use Rattle.vx_array_tree.specs.Body as B
use Rattle.vx_array_tree.specs.Encodings.Primitives as Primitives
use Rattle.vx_array_tree.specs.Tree.{Tree, Trees, option_trees, untold}
use Rattle.vx_arrays.specs.NewBuffers.{with_buffers}
use Rattle.vx_arrays.specs.Primitives.{primitive_tree}
use Rattle.vx_arrays.specs.Compared.{compared_body}
use Rattle.vx_arrays.proofs.Comparing.{bare-same}

-- ---- as it is compared

module _ (x y : Primitives.Data) where
  pub primitives-same : x.values.bytes ≡ y.values.bytes → compared_body (B.primitive x) ≡ compared_body (B.primitive y)
  primitives-same p = λ i. B.primitive (record { values = bare-same x.values y.values p i })

  primitive_in : Body → Primitives.Data
  primitive_in (B.primitive z) = z
  primitive_in _ = x

  pub same-primitives : compared_body (B.primitive x) ≡ compared_body (B.primitive y) → x.values.bytes ≡ y.values.bytes
  unfolding primitive_in
  same-primitives e = ap (λ b. (primitive_in b).values.bytes) e

pub ruleset primitive_bodies = (primitives-same, same-primitives)

-- ---- with other buffers

pub primitives_made : (d : Typ) (n : ℕ) (x : Primitives.Data) (ts : Trees) (bs : List Buffer) (b : Buffer) (k : PType) (m : Nullability) (v : Option Tree) → d ≡ node (K.primitive k m) end
    → option_trees v ≡ ts → bs ≡ b ∷ [] → with_buffers (node (untold d n (B.primitive x)) ts) bs ≡ Some (primitive_tree k m n b v)
primitives_made d n x ts bs b k m v p w e =
    ap (λ (cs : List Buffer). with_buffers (node (untold d n (B.primitive x)) ts) cs) e ∙ (λ i. Some (node (untold (p i) n (B.primitive (record { values = b }))) (sym w i)))
