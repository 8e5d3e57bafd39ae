-- Foreign nodes: opaque, but for their parts.
use Rattle.std.specs.Prelude.{ℕ, List, Option, Some, None, length, replicate, refl}
use Rattle.std.specs.Coded.{Coded, code_by, coded×, coded_list, coded_ℕ}
use Rattle.vx_buffer.specs.Buffer.{Buffer, coded_buffer}
use Rattle.vx_types.specs.Typ.{Typ}
use Rattle.vx_types.specs.Value.{lone, opaque}
use Rattle.vx_array_tree.specs.Place.{Place, place}
use Rattle.vx_array_tree.specs.Rows.{Rows}

-- A node keeps its identifier, its metadata as bytes, and its buffers.
pub record Data : Type 0 where
  pub id : List ℕ
  pub metadata : List ℕ
  pub buffers : List Buffer

-- The code by which what nodes keep is told apart.
abbrev pub data_code : Coded Data
data_code =
    code_by (List ℕ × (List ℕ × List Buffer)) (coded× (coded_list coded_ℕ) (coded× (coded_list coded_ℕ) (coded_list coded_buffer)))
    (λ x. (x.id, (x.metadata, x.buffers))) (λ p. record { id = p.0; metadata = p.1.0; buffers = p.1.1 }) (λ _. refl)

-- Beside its buffers a node is its identifier and the bytes of its metadata, whatever they mean.
pub record Metadata : Type 0 where
  pub id : List ℕ
  pub bytes : List ℕ

-- The metadata of a node that keeps this.
abbrev pub metadata_of : Data → Metadata
metadata_of x = record { id = x.id; bytes = x.metadata }

-- What a node of this metadata and these buffers keeps.
abbrev pub body_of : Metadata → List Buffer → Data
body_of v bs = record { id = v.id; metadata = v.bytes; buffers = bs }

-- Each child is read at the node's own type and length, since nothing else is known of it.
abbrev pub plan : Typ → ℕ → ℕ → Option (List Place)
plan d n k = Some (replicate k (place d n))

-- A plan is compared with no child's own place: in memory the children may stand anywhere.
abbrev pub lifted : Typ → ℕ → List Place → List Place
lifted d n ps = replicate (length ps) (place d n)

-- Opaque: any row.
abbrev pub rows : ℕ → Rows
rows n = record { len = n; valid = λ i. None; row = λ i. lone opaque; cells = λ i. 1 }
