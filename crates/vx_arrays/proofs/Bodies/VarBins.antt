-- What nodes of texts and bytes by offsets hold, as it is compared and with other buffers.
use Rattle.std.proofs.Common.{ℕ, suc, ◌≡◌, ◌≤◌, ◌-◌, take, drop, List, [], ◌∷◌, Option, Some, length, get_or, sym, ap, ◌∙◌, arith}
use Rattle.vx_buffer.specs.Buffer.{Buffer}
use Rattle.vx_trees.specs.Rose.{node, more, label, roses_of}
use Rattle.vx_types.specs.Typ.{Typ}
use Rattle.vx_array_tree.specs.Body.{Body}
use Rattle.vx_array_tree.specs.Body as B
use Rattle.vx_array_tree.specs.Encodings.VarBins as VarBins
use Rattle.vx_array_tree.specs.Sound.{IsSoundNode}
use Rattle.vx_array_tree.specs.Tree.{Tree, option_trees, untold}
use Rattle.vx_arrays.specs.NewBuffers.{with_buffers}
use Rattle.vx_arrays.specs.VarBins.{varbin_tree}
use Rattle.vx_arrays.proofs.Split.{first_and_after, sound_counted}
use Rattle.vx_arrays.specs.Compared.{compared_body}
use Rattle.vx_arrays.proofs.Comparing.{bare-same}

-- ---- as it is compared

module _ (x y : VarBins.Data) where
  pub varbins-same : x.bytes.bytes ≡ y.bytes.bytes → compared_body (B.varbin x) ≡ compared_body (B.varbin y)
  varbins-same p = λ i. B.varbin (record { bytes = bare-same x.bytes y.bytes p i })

  varbin_in : Body → VarBins.Data
  varbin_in (B.varbin z) = z
  varbin_in _ = x

  pub same-varbins : compared_body (B.varbin x) ≡ compared_body (B.varbin y) → x.bytes.bytes ≡ y.bytes.bytes
  unfolding varbin_in
  same-varbins e = ap (λ b. (varbin_in b).bytes.bytes) e

pub ruleset varbin_bodies = (varbins-same, same-varbins)

-- ---- with other buffers

pub parts_made : (d c : Typ) (n : ℕ) (x : VarBins.Data) (ts : List Tree) (item o : Tree) (bs : List Buffer) (b : Buffer) (v : Option Tree) → IsSoundNode (untold d n (B.varbin x)) (roses_of ts)
    → 1 ≤ length ts → item ≡ get_or ts 0 item → o ≡ item → c ≡ d → option_trees v ≡ roses_of (take (length ts - 1) (drop 1 ts)) → bs ≡ b ∷ []
    → with_buffers (node (untold d n (B.varbin x)) (roses_of ts)) bs ≡ Some (varbin_tree c o b v)
parts_made d c n x ts item o bs b v s l is q p w e =
    let first : roses_of ts ≡ more item (roses_of (take (length ts - 1) (drop 1 ts))) = first_and_after ts item l is in
    let counted : (label o).len ≡ suc n = ap (λ (z : Tree). (label z).len) q ∙ sound_counted d n x (roses_of ts) item (roses_of (take (length ts - 1) (drop 1 ts))) first s in
    let len : n ≡ (label o).len - 1 = omega (arith, counted) in
    let children : roses_of ts ≡ more o (option_trees v) = first ∙ (λ i. more (sym q i) (sym w i)) in
    ap (λ (cs : List Buffer). with_buffers (node (untold d n (B.varbin x)) (roses_of ts)) cs) e ∙ (λ i. Some (node (untold (sym p i) (len i) (B.varbin (record { bytes = b }))) (children i)))
