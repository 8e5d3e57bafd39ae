-- The steps of one node, and when each is refused: its plan, its building, its metadata.
use Rattle.std.specs.Prelude.{ℕ, ◌≡◌, ◌⊎◌, List, Some, None}
use Rattle.vx_buffer.specs.Buffer.{Buffer}
use Rattle.vx_trees.specs.Rose.{node, count}
use Rattle.vx_types.specs.Known.{ExtMeaning}
use Rattle.vx_types.specs.Typ.{Typ}
use Rattle.vx_flat.specs.Value.{Field}
use Rattle.vx_scalars.specs.Stats.{Stats}
use Rattle.vx_array_tree.specs.Body.{Body}
use Rattle.vx_array_tree.specs.Encoding.{Encoding}
use Rattle.vx_array_tree.specs.Metadata.{Metadata}
use Rattle.vx_array_tree.specs.Place.{Place}
use Rattle.vx_array_tree.specs.Sound.{IsControlledBy}
use Rattle.vx_array_tree.specs.Table.{body_of, plan_of, Takes, Content, IsShaped}
use Rattle.vx_array_tree.specs.Tree.{Tree, Trees, encodings, rows_below, untold, with_stats}
use Rattle.vx_wire_tree.specs.Codec.{Codec}
use Rattle.vx_wire_tree.specs.Reads.{IsMetadata}

-- ---- a plan

-- Bytes are no metadata of an encoding's node of a type.
abbrev pub HasNoMetadata : Codec → ExtMeaning → Encoding → Typ → List ℕ → Type 0
HasNoMetadata c x e d bytes = (v : Metadata) → IsMetadata c x e d bytes v → ⊥

-- A node's metadata is read, and these places are planned for its k children.
pub record PlansChildren (c : Codec) (x : ExtMeaning) (e : Encoding) (d : Typ) (n : ℕ) (bytes : List ℕ) (k : ℕ) (ps : List Place) : Type 0 where
  pub value : Metadata
  pub metadata : IsMetadata c x e d bytes value
  pub plan : plan_of e d n value k ≡ Some ps

-- A node's metadata is read, and nothing is planned: its type is of another kind, k children do not fit, or a length
-- cannot be counted.
pub record HasNoPlan (c : Codec) (x : ExtMeaning) (e : Encoding) (d : Typ) (n : ℕ) (bytes : List ℕ) (k : ℕ) : Type 0 where
  pub value : Metadata
  pub metadata : IsMetadata c x e d bytes value
  pub none : plan_of e d n value k ≡ None

-- ---- building, where a plan was made: metadata that is read, and children that stand where they are planned

-- What is built: the node that metadata and buffers give, over these children and without statistics.
pub record HasParts (c : Codec) (x : ExtMeaning) (e : Encoding) (d : Typ) (n : ℕ) (bytes : List ℕ) (bs : List Buffer) (ts : Trees) (t : Tree) : Type 0 where
  pub value : Metadata
  pub metadata : IsMetadata c x e d bytes value
  pub body : Body
  pub body_is : body_of e value bs ≡ Some body
  pub tree_is : t ≡ node (untold d n body) ts

-- Parts break their encoding's row: their shape is wrong, or the children are of encodings that may not stand below the
-- node.
pub record HasWrongShape (c : Codec) (x : ExtMeaning) (e : Encoding) (d : Typ) (n : ℕ) (bytes : List ℕ) (bs : List Buffer) (ts : Trees) : Type 0 where
  pub value : Metadata
  pub metadata : IsMetadata c x e d bytes value
  pub wrong : (IsShaped e d n value bs (count ts) → ⊥) ⊎ (Takes e (encodings ts) → ⊥)

-- Metadata is read, and a child that says where rows are holds a foreign node, or the entries of a map are one.
pub record HasWrongControl (c : Codec) (x : ExtMeaning) (e : Encoding) (d : Typ) (n : ℕ) (bytes : List ℕ) (ts : Trees) : Type 0 where
  pub value : Metadata
  pub metadata : IsMetadata c x e d bytes value
  pub foreign : IsControlledBy e d ts → ⊥

-- Parts are as their encoding's row asks, it is known where the rows are, and their content is broken.
pub record HasWrongContent (c : Codec) (x : ExtMeaning) (e : Encoding) (d : Typ) (n : ℕ) (bytes : List ℕ) (bs : List Buffer) (ts : Trees) : Type 0 where
  pub value : Metadata
  pub metadata : IsMetadata c x e d bytes value
  pub shaped : IsShaped e d n value bs (count ts)
  pub controlled : IsControlledBy e d ts
  pub wrong : Content d n shaped.body (rows_below ts) → ⊥

-- ---- statistics, of what was built

-- No statistics are shown of arrays of a type.
abbrev pub HasNoStats : Codec → Typ → Field → Type 0
HasNoStats c d f = (x : Stats) → c.ShowsStats d f x → ⊥

-- An array of a type, with the statistics that a field shows at its root.
pub record IsToldBy (c : Codec) (d : Typ) (f : Field) (t u : Tree) : Type 0 where
  pub stats : Stats
  pub shown : c.ShowsStats d f stats
  pub tree_is : u ≡ with_stats stats t
