-- The meaning of a caller's plugin: plain functions, and the laws that they keep.
use Rattle.std.specs.Prelude.{ℕ, ◌≡◌, List, Option, Some, Bool, true, length}
use Rattle.vx_buffer.specs.Buffer.{Buffer}
use Rattle.vx_trees.specs.Rose.{label, count}
use Rattle.vx_trees.specs.Everywhere.{EverywhereBelow}
use Rattle.vx_types.specs.Known.{ExtMeaning}
use Rattle.vx_types.specs.Typ.{Typ}
use Rattle.vx_array_tree.specs.Normal.{IsNormal}
use Rattle.vx_array_tree.specs.Place.{Place}
use Rattle.vx_array_tree.specs.Sound.{IsSound, IsSoundNode}
use Rattle.vx_array_tree.specs.Table.{own_id}
use Rattle.vx_array_tree.specs.Tree.{Tree, Trees, places, with_stats}
use Rattle.vx_wire_tree.specs.KnownTypes.{KnowsTypes}
use Rattle.vx_wire_tree.specs.Wire.{WireHead}

-- What a plugin is given of a node before its children: its identifier, the type and the length at which it stands, the
-- bytes of its metadata, and the numbers of its buffers and children.
pub record NodeHead : Type 0 where
  pub id : List ℕ
  pub dtype : Typ
  pub len : ℕ
  pub metadata : List ℕ
  pub nbuffers : ℕ
  pub nchildren : ℕ

-- The head of a wire node of this identifier that has k children, at a type and a length.
abbrev pub head_at : List ℕ → WireHead → ℕ → Typ → ℕ → NodeHead
head_at id w k d n = record { id = id; dtype = d; len = n; metadata = w.metadata; nbuffers = length w.buffers; nchildren = k }

-- The parts as which an array is written: an identifier, the bytes of metadata, buffers, and the arrays below.
pub record Parts : Type 0 where
  pub id : List ℕ
  pub metadata : List ℕ
  pub buffers : List Buffer
  pub children : Trees

-- The head of a node of these parts, at a type and a length.
abbrev pub parts_head : Parts → Typ → ℕ → NodeHead
parts_head x d n = record { id = x.id; dtype = d; len = n; metadata = x.metadata; nbuffers = length x.buffers; nchildren = count x.children }

-- The head of an array that is written as these parts.
abbrev pub head_of : Parts → Tree → NodeHead
head_of x t = parts_head x (label t).dtype (label t).len

-- A plugin has no written form for an array, refuses it, or gives its parts.
pub data Answer : Type 0 where
  none : Answer
  refused : Answer
  given : Parts → Answer

-- The meaning of a plugin. It writes the arrays of one encoding, `id`, and declares the identifiers that it reads and
-- writes. What it makes of a head, and of a node's parts, may depend on which extension types are known; it refuses by
-- `None`.
pub record PluginMeaning : Type 0 where
  pub id : List ℕ
  pub declared : List (List ℕ)
  pub supported : List ℕ → Bool
  pub serialize : Tree → Answer
  pub plan : NodeHead → ExtMeaning → Option (List Place)
  pub build : NodeHead → List Buffer → Trees → ExtMeaning → Option Tree
  -- It plans one place for each child.
  pub one_each : (h : NodeHead) (x : ExtMeaning) (ps : List Place) → plan h x ≡ Some ps → length ps ≡ h.nchildren
  -- From sound children that stand where they are planned it builds arrays of the type and the length that were asked
  -- for, of an encoding that it supports.
  pub as_asked : (h : NodeHead) (bs : List Buffer) (ts : Trees) (x : ExtMeaning) (t : Tree) → plan h x ≡ Some (places ts) → EverywhereBelow IsSoundNode ts → build h bs ts x ≡ Some t
      → ((label t).dtype ≡ h.dtype) × ((label t).len ≡ h.len) × (supported (own_id (label t).body) ≡ true)
  -- For the parts that it gave for a sound and normal array, in which types are known, it plans the given children,
  pub plans_again : (t : Tree) (y : Parts) (x : ExtMeaning) → IsSound t → IsNormal t → KnowsTypes x t → serialize t ≡ given y → plan (head_of y t) x ≡ Some (places y.children)
  -- and builds that array again, but for its statistics.
  pub builds_again : (t : Tree) (y : Parts) (x : ExtMeaning) → IsSound t → IsNormal t → KnowsTypes x t → serialize t ≡ given y
      → (b : Tree) × (build (head_of y t) y.buffers y.children x ≡ Some b) × (t ≡ with_stats (label t).stats b)
