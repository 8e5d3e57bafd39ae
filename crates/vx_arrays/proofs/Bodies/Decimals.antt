-- What nodes of decimals hold, as it is compared and with other buffers.
use Rattle.std.proofs.Common.{ℕ, ◌≡◌, List, [], ◌∷◌, Option, Some, sym, ap, ◌∙◌}
use Rattle.vx_buffer.specs.Buffer.{Buffer}
use Rattle.vx_trees.specs.Rose.{node, end}
use Rattle.vx_types.specs.Kind as K
use Rattle.vx_types.specs.Digits.{Digits}
use Rattle.vx_types.specs.Typ.{Typ}
use Rattle.vx_numbers.specs.declared.decimal_type.DecimalType.{DecimalType}
use Rattle.vx_types.specs.declared.nullability.Nullability.{Nullability}
use Rattle.vx_array_tree.specs.Body.{Body}
use Rattle.vx_array_tree.specs.Body as B
use Rattle.vx_array_tree.specs.Encodings.Decimals as Decimals
use Rattle.vx_array_tree.specs.Tree.{Tree, Trees, option_trees, untold}
use Rattle.vx_arrays.specs.Decimals.{decimal_tree}
use Rattle.vx_arrays.specs.NewBuffers.{with_buffers}
use Rattle.vx_arrays.specs.Compared.{compared_body}
use Rattle.vx_arrays.proofs.Comparing.{bare-same}

-- ---- as it is compared

module _ (x y : Decimals.Data) where
  pub decimals-same : x.values.bytes ≡ y.values.bytes → x.values_type ≡ y.values_type → compared_body (B.decimal x) ≡ compared_body (B.decimal y)
  decimals-same p q = λ i. B.decimal (record { values = bare-same x.values y.values p i; values_type = q i })

  decimal_in : Body → Decimals.Data
  decimal_in (B.decimal z) = z
  decimal_in _ = x

  pub same-decimals_bytes : compared_body (B.decimal x) ≡ compared_body (B.decimal y) → x.values.bytes ≡ y.values.bytes
  unfolding decimal_in
  same-decimals_bytes e = ap (λ b. (decimal_in b).values.bytes) e

  pub same-decimals_type : compared_body (B.decimal x) ≡ compared_body (B.decimal y) → x.values_type ≡ y.values_type
  unfolding decimal_in
  same-decimals_type e = ap (λ b. (decimal_in b).values_type) e

pub ruleset decimal_bodies = (decimals-same, same-decimals_bytes, same-decimals_type)

-- ---- with other buffers

pub decimals_made : (d : Typ) (n : ℕ) (x : Decimals.Data) (ts : Trees) (bs : List Buffer) (b : Buffer) (k : DecimalType) (digits : Digits) (m : Nullability) (v : Option Tree)
    → d ≡ node (K.decimal digits.precision digits.scale m) end → k ≡ x.values_type → option_trees v ≡ ts → bs ≡ b ∷ []
    → with_buffers (node (untold d n (B.decimal x)) ts) bs ≡ Some (decimal_tree b k digits m n v)
decimals_made d n x ts bs b k digits m v p q w e =
    ap (λ (cs : List Buffer). with_buffers (node (untold d n (B.decimal x)) ts) cs) e ∙ (λ i. Some (node (untold (p i) n (B.decimal (record { values = b; values_type = sym q i }))) (sym w i)))
