-- What foreign nodes hold, as it is compared and with other buffers.
use Rattle.std.proofs.Common.{ℕ, ◌≡◌, List, Some, sym, ap, map}
use Rattle.vx_buffer.specs.Buffer.{Buffer}
use Rattle.vx_trees.specs.Rose.{node}
use Rattle.vx_types.specs.Typ.{Typ}
use Rattle.vx_array_tree.specs.Body.{Body}
use Rattle.vx_array_tree.specs.Body as B
use Rattle.vx_array_tree.specs.Encodings.Foreigns as Foreigns
use Rattle.vx_array_tree.specs.Tree.{Trees, untold}
use Rattle.vx_arrays.specs.NewBuffers.{with_buffers}
use Rattle.vx_arrays.specs.Compared.{bare, compared_body}

-- ---- as it is compared

module _ (x y : Foreigns.Data) where
  pub foreigns-same : x.id ≡ y.id → x.metadata ≡ y.metadata → map bare x.buffers ≡ map bare y.buffers → compared_body (B.foreign x) ≡ compared_body (B.foreign y)
  foreigns-same p q r = λ i. B.foreign (record { id = p i; metadata = q i; buffers = r i })

  foreign_in : Body → Foreigns.Data
  foreign_in (B.foreign z) = z
  foreign_in _ = x

  pub same-foreigns_id : compared_body (B.foreign x) ≡ compared_body (B.foreign y) → x.id ≡ y.id
  unfolding foreign_in
  same-foreigns_id e = ap (λ b. (foreign_in b).id) e

  pub same-foreigns_metadata : compared_body (B.foreign x) ≡ compared_body (B.foreign y) → x.metadata ≡ y.metadata
  unfolding foreign_in
  same-foreigns_metadata e = ap (λ b. (foreign_in b).metadata) e

  pub same-foreigns_buffers : compared_body (B.foreign x) ≡ compared_body (B.foreign y) → map bare x.buffers ≡ map bare y.buffers
  unfolding foreign_in
  same-foreigns_buffers e = ap (λ b. (foreign_in b).buffers) e

pub ruleset foreign_bodies = (foreigns-same, same-foreigns_id, same-foreigns_metadata, same-foreigns_buffers)

-- ---- with other buffers

-- A foreign node takes any buffers in place of its own.
pub foreigns_made : (d : Typ) (n : ℕ) (x y : Foreigns.Data) (ts : Trees) (bs : List Buffer) → y ≡ Foreigns.body_of (Foreigns.metadata_of x) bs
    → with_buffers (node (untold d n (B.foreign x)) ts) bs ≡ Some (node (untold d n (B.foreign y)) ts)
foreigns_made d n x y ts bs q = λ i. Some (node (untold d n (B.foreign (sym q i))) ts)
