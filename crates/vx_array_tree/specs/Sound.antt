-- When an array is sound: each node's parts fit its type, its rows and one another.
use Rattle.std.specs.Prelude.{ℕ, ◌≡◌, Some, IsTrue, slice_get}
use Rattle.vx_trees.specs.Rose.{more, label, count, roses_list}
use Rattle.vx_trees.specs.Everywhere.{Everywhere}
use Rattle.vx_scalars.specs.Stats.{FitStats}
use Rattle.vx_types.specs.Typ.{Typ}
use Rattle.vx_array_tree.specs.Encoding.{Encoding}
use Rattle.vx_array_tree.specs.Encoding as E
use Rattle.vx_array_tree.specs.Metadata.{Metadata}
use Rattle.vx_array_tree.specs.Table.{encoding_of, metadata_of, IsNative, IsFair, plan_of, lifted, Allows, Holds, Takes, is_control, Content}
use Rattle.vx_array_tree.specs.Tree.{Tree, Trees, Head, places, encodings, rows_below}

-- A node's metadata: what its encoding keeps of it.
abbrev pub metadata_in : Head → Trees → Metadata
metadata_in h ts = metadata_of h.body (places ts)

-- A node is not foreign.
abbrev pub IsNativeNode : Head → Trees → Type 0
IsNativeNode h ts = IsNative h.body

-- No node of an array is foreign.
abbrev pub HasNoForeign : Tree → Type 0
HasNoForeign = Everywhere IsNativeNode

-- No child that says where the rows are of a node of this encoding and type holds a foreign node.
abbrev pub HasNativeControls : Encoding → Typ → Trees → Type 0
HasNativeControls e d ts = (i : ℕ) (t : Tree) → slice_get (roses_list ts) i ≡ Some t → IsTrue (is_control e d (count ts) i) → HasNoForeign t

-- The entries of a map are not foreign.
abbrev pub HasNativeEntries : Encoding → Trees → Type 0
HasNativeEntries E.map (more t ts) = IsNative (label t).body
HasNativeEntries _ ts = Unit {0}

-- It is known where the rows are of a node of this encoding and type over its children.
pub record IsControlledBy (e : Encoding) (d : Typ) (ts : Trees) : Type 0 where
  pub controls : HasNativeControls e d ts
  pub entries : HasNativeEntries e ts

-- A node's control children are known.
abbrev pub IsControlled : Head → Trees → Type 0
IsControlled h ts = IsControlledBy (encoding_of h.body) h.dtype ts

-- A node is sound over its children: its metadata is admitted; the children stand where they are planned, and may
-- stand; they are of encodings that may stand there; the buffers are right; control children are known; the content
-- is right; each statistic is of its type.
pub record IsSoundNode (h : Head) (ts : Trees) : Type 0 where
  pub fair : IsFair (encoding_of h.body) (metadata_in h ts)
  pub planned : plan_of (encoding_of h.body) h.dtype h.len (metadata_in h ts) (count ts) ≡ Some (lifted h.dtype h.len h.body (places ts))
  pub allows : Allows (encoding_of h.body) h.dtype (metadata_in h ts) (count ts)
  pub takes : Takes (encoding_of h.body) (encodings ts)
  pub holds : Holds h.dtype h.len h.body
  pub controlled : IsControlled h ts
  pub content : Content h.dtype h.len h.body (rows_below ts)
  pub stats : FitStats h.dtype h.stats

-- An array is sound if each of its nodes is.
abbrev pub IsSound : Tree → Type 0
IsSound = Everywhere IsSoundNode
