-- What nodes of flags hold, as it is compared and with other buffers.
use Rattle.std.proofs.Common.{ℕ, ◌≡◌, List, [], ◌∷◌, Option, Some, sym, ap, ◌∙◌}
use Rattle.vx_buffer.specs.Buffer.{Buffer}
use Rattle.vx_trees.specs.Rose.{node, end}
use Rattle.vx_types.specs.Kind as K
use Rattle.vx_types.specs.Typ.{Typ}
use Rattle.vx_types.specs.declared.nullability.Nullability.{Nullability}
use Rattle.vx_array_tree.specs.Body.{Body}
use Rattle.vx_array_tree.specs.Body as B
use Rattle.vx_array_tree.specs.Encodings.Bools as Bools
use Rattle.vx_array_tree.specs.Tree.{Tree, Trees, option_trees, untold}
use Rattle.vx_arrays.specs.Bools.{bool_tree}
use Rattle.vx_arrays.specs.NewBuffers.{with_buffers}
use Rattle.vx_arrays.specs.Compared.{compared_body}
use Rattle.vx_arrays.proofs.Comparing.{bare-same}

-- ---- as it is compared

module _ (x y : Bools.Data) where
  pub bools-same : x.bits.bytes ≡ y.bits.bytes → x.offset ≡ y.offset → compared_body (B.bool x) ≡ compared_body (B.bool y)
  bools-same p q = λ i. B.bool (record { bits = bare-same x.bits y.bits p i; offset = q i })

  bool_in : Body → Bools.Data
  bool_in (B.bool z) = z
  bool_in _ = x

  pub same-bools_bytes : compared_body (B.bool x) ≡ compared_body (B.bool y) → x.bits.bytes ≡ y.bits.bytes
  unfolding bool_in
  same-bools_bytes e = ap (λ b. (bool_in b).bits.bytes) e

  pub same-bools_offset : compared_body (B.bool x) ≡ compared_body (B.bool y) → x.offset ≡ y.offset
  unfolding bool_in
  same-bools_offset e = ap (λ b. (bool_in b).offset) e

pub ruleset bool_bodies = (bools-same, same-bools_bytes, same-bools_offset)

-- ---- with other buffers

pub bools_made : (d : Typ) (n : ℕ) (x : Bools.Data) (ts : Trees) (bs : List Buffer) (b : Buffer) (k : ℕ) (m : Nullability) (v : Option Tree) → d ≡ node (K.boolean m) end → k ≡ x.offset
    → option_trees v ≡ ts → bs ≡ b ∷ [] → with_buffers (node (untold d n (B.bool x)) ts) bs ≡ Some (bool_tree b k n m v)
bools_made d n x ts bs b k m v p q w e =
    ap (λ (cs : List Buffer). with_buffers (node (untold d n (B.bool x)) ts) cs) e ∙ (λ i. Some (node (untold (p i) n (B.bool (record { bits = b; offset = sym q i }))) (sym w i)))
