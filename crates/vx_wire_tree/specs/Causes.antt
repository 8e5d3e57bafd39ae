-- The cause of each refusal of a tree.
use Rattle.std.specs.Prelude.{ℕ, ◌≡◌, List, [], ◌∷◌, Option, Some, None, ◌⊎◌, slice_get, false, IsFalse}
use Rattle.vx_buffer.specs.Buffer.{Buffer}
use Rattle.vx_trees.specs.Rose.{label, below, count}
use Rattle.vx_trees.specs.Everywhere.{EverywhereBelow}
use Rattle.vx_types.specs.Typ.{Typ}
use Rattle.vx_array_tree.specs.Encoding.{Encoding}
use Rattle.vx_array_tree.specs.Metadata.{Metadata}
use Rattle.vx_array_tree.specs.Place.{Place}
use Rattle.vx_array_tree.specs.Sound.{IsSoundNode, IsControlledBy}
use Rattle.vx_array_tree.specs.Table.{plan_of, IsShaped, Takes, Content}
use Rattle.vx_array_tree.specs.Tree.{Trees, places, encodings, rows_below}
use Rattle.vx_wire_tree.specs.Codec.{Codec}
use Rattle.vx_wire_tree.specs.Matches.{AllMatch}
use Rattle.vx_wire_tree.specs.Placed.{Claim, HoldsSomewhere, Anywhere}
use Rattle.vx_wire_tree.specs.Plugin.{PluginMeaning, head_at}
use Rattle.vx_wire_tree.specs.Reads.{IsMetadata}
use Rattle.vx_wire_tree.specs.Revised.{revised_holds}
use Rattle.vx_wire_tree.specs.Session.{SessionMeaning, Reader, revised, plugin, encoding_by}
use Rattle.vx_wire_tree.specs.Steps.{HasNoMetadata, HasNoStats}
use Rattle.vx_wire_tree.specs.Wire.{Wire, Wires, all_present}

-- ---- any node

-- A node's identifier is missing.
abbrev pub LacksId : Wire → Type 0
LacksId w = (label w).id ≡ None

-- One of a node's buffers is missing.
abbrev pub LacksBuffer : Wire → Type 0
LacksBuffer w = (i : ℕ) × (slice_get (label w).buffers i ≡ Some None)

-- ---- placed nodes, by what reads them

-- A node's identifier is there, and this reads it, or nothing does.
pub record IsReadBy (s : SessionMeaning) (w : Wire) (r : Option Reader) : Type 0 where
  pub id : List ℕ
  pub id_is : (label w).id ≡ Some id
  pub reader_is : s.reader id ≡ r

-- A node's identifier is there, and an encoding reads it.
pub record IsOf (s : SessionMeaning) (w : Wire) (e : Encoding) : Type 0 where
  pub id : List ℕ
  pub id_is : (label w).id ≡ Some id
  pub encoding_is : encoding_by (s.reader id) ≡ Some e

-- Nothing reads a node, and such nodes are not allowed.
pub record IsUnknownNode (s : SessionMeaning) (w : Wire) : Type 0 where
  pub unregistered : IsReadBy s w None
  pub closed : s.ext.unknown ≡ false

abbrev pub IsUnregistered : SessionMeaning → Claim
IsUnregistered s w d n = IsUnknownNode s w

-- A node's metadata is none that its encoding reads.
pub record HasBadMetadata (c : Codec) (s : SessionMeaning) (w : Wire) (d : Typ) (n : ℕ) : Type 0 where
  pub encoding : Encoding
  pub by : IsOf s w encoding
  pub none : HasNoMetadata c s.ext encoding d (label w).metadata

-- These buffers may stand for a node's: each that is there is its own, and any buffer may stand for one that is
-- missing.
abbrev pub MayStandFor : List (Option Buffer) → List Buffer → Type 0
MayStandFor [] bs = bs ≡ []
MayStandFor (o ∷ os) [] = ⊥
MayStandFor (Some b ∷ os) (x ∷ xs) = (x ≡ b) × MayStandFor os xs
MayStandFor (None ∷ os) (x ∷ xs) = MayStandFor os xs

-- Wire trees match sound arrays one by one, which stand at these places.
pub record AllTell (c : Codec) (s : SessionMeaning) (ws : Wires) (ps : List Place) (ts : Trees) : Type 0 where
  pub matched : AllMatch c s ws ts
  pub sound : EverywhereBelow IsSoundNode ts
  pub placed : places ts ≡ ps

-- The same for a node's children.
abbrev pub HasChildren : Codec → SessionMeaning → Wire → List Place → Trees → Type 0
HasChildren c s w ps ts = AllTell c s (below w) ps ts

-- A node's children match sound arrays at the planned places, and these are of encodings that may not stand below the
-- node.
pub record HasOtherChildren (c : Codec) (s : SessionMeaning) (e : Encoding) (v : Metadata) (w : Wire) (d : Typ) (n : ℕ) : Type 0 where
  pub places_are : List Place
  pub plan : plan_of e d n v (count (below w)) ≡ Some places_are
  pub children : Trees
  pub matched : HasChildren c s w places_are children
  pub untaken : Takes e (encodings children) → ⊥

-- Primitives under two identifiers read a node, and its identifier does not hold n rows.
pub record IsPastLength (s : SessionMeaning) (w : Wire) (n : ℕ) : Type 0 where
  pub by : IsReadBy s w (Some revised)
  pub past : IsFalse (revised_holds by.id n)

-- The parts of a node whose metadata is read break its encoding's row: nothing is planned for its type and its number
-- of children; what is planned may not stand, or the buffers are wrong, by their number or by one that is there,
-- whatever stands for those that are missing; its children are of encodings that may not stand below it; or its
-- identifier does not hold its length.
abbrev pub IsBroken : Codec → SessionMeaning → Encoding → Metadata → Claim
IsBroken c s e v w d n =
    (plan_of e d n v (count (below w)) ≡ None)
    ⊎ ((bs : List Buffer) → MayStandFor (label w).buffers bs → IsShaped e d n v bs (count (below w)) → ⊥)
    ⊎ HasOtherChildren c s e v w d n
    ⊎ IsPastLength s w n

-- A node's metadata is read, and its parts break its encoding's row.
pub record HasBadShape (c : Codec) (s : SessionMeaning) (w : Wire) (d : Typ) (n : ℕ) : Type 0 where
  pub encoding : Encoding
  pub by : IsOf s w encoding
  pub value : Metadata
  pub metadata : IsMetadata c s.ext encoding d (label w).metadata value
  pub broken : IsBroken c s encoding value w d n

-- A node's metadata is read, its children match sound arrays, and a child that says where the node's rows are holds a
-- foreign node, or the entries of a map are one.
pub record HasForeignControl (c : Codec) (s : SessionMeaning) (w : Wire) (d : Typ) (n : ℕ) : Type 0 where
  pub encoding : Encoding
  pub by : IsOf s w encoding
  pub value : Metadata
  pub metadata : IsMetadata c s.ext encoding d (label w).metadata value
  pub places_are : List Place
  pub plan : plan_of encoding d n value (count (below w)) ≡ Some places_are
  pub children : Trees
  pub matched : HasChildren c s w places_are children
  pub foreign : IsControlledBy encoding d children → ⊥

-- A node's parts are right, its children match sound arrays, it is known where its rows are, and its content over them
-- is broken.
pub record HasBadContent (c : Codec) (s : SessionMeaning) (w : Wire) (d : Typ) (n : ℕ) : Type 0 where
  pub encoding : Encoding
  pub by : IsOf s w encoding
  pub value : Metadata
  pub metadata : IsMetadata c s.ext encoding d (label w).metadata value
  pub places_are : List Place
  pub plan : plan_of encoding d n value (count (below w)) ≡ Some places_are
  pub buffers : List Buffer
  pub buffers_are : (label w).buffers ≡ all_present buffers
  pub shaped : IsShaped encoding d n value buffers (count (below w))
  pub children : Trees
  pub matched : HasChildren c s w places_are children
  pub controlled : IsControlledBy encoding d children
  pub broken : Content d n shaped.body (rows_below children) → ⊥

-- A node that is read has a field that shows no statistics of its type.
pub record HasBadStats (c : Codec) (s : SessionMeaning) (w : Wire) (d : Typ) (n : ℕ) : Type 0 where
  pub reader : Reader
  pub by : IsReadBy s w (Some reader)
  pub none : HasNoStats c d (label w).stats

-- The plugin that reads a node refuses the node's head.
pub record RefusesHead (s : SessionMeaning) (p : PluginMeaning) (w : Wire) (d : Typ) (n : ℕ) : Type 0 where
  pub id : List ℕ
  pub id_is : (label w).id ≡ Some id
  pub none : p.plan (head_at id (label w) (count (below w)) d n) s.ext ≡ None

-- The plugin refuses the node's parts: sound arrays that match the children stand where it plans them, and it builds
-- nothing of them, of the head and of the buffers.
pub record RefusesParts (c : Codec) (s : SessionMeaning) (p : PluginMeaning) (w : Wire) (d : Typ) (n : ℕ) : Type 0 where
  pub id : List ℕ
  pub id_is : (label w).id ≡ Some id
  pub places_are : List Place
  pub plan : p.plan (head_at id (label w) (count (below w)) d n) s.ext ≡ Some places_are
  pub buffers : List Buffer
  pub buffers_are : (label w).buffers ≡ all_present buffers
  pub children : Trees
  pub matched : HasChildren c s w places_are children
  pub none : p.build (head_at id (label w) (count (below w)) d n) buffers children s.ext ≡ None

-- A plugin reads a node and refuses its head or its parts.
pub record IsRefusedByPlugin (c : Codec) (s : SessionMeaning) (w : Wire) (d : Typ) (n : ℕ) : Type 0 where
  pub means : PluginMeaning
  pub by : IsReadBy s w (Some (plugin means))
  pub refuses : RefusesHead s means w d n ⊎ RefusesParts c s means w d n

-- ---- the whole tree

-- The refusals of a wire tree, by name.
pub data Refusal : Type 0 where
  out_of_bounds : Refusal
  unknown_index : Refusal
  unknown_encoding : Refusal
  bad_metadata : Refusal
  bad_shape : Refusal
  bad_content : Refusal
  foreign_control : Refusal
  bad_stats : Refusal
  plugin_refused : Refusal

-- Why a wire tree decodes to no array at a type and a length, by the refusal. An identifier or a buffer may be missing
-- at any node, placed or not; all else is said of placed nodes.
abbrev pub RefusesTree : Refusal → Codec → SessionMeaning → Wire → Typ → ℕ → Type 0
RefusesTree out_of_bounds c s w d n = Anywhere LacksBuffer w
RefusesTree unknown_index c s w d n = Anywhere LacksId w
RefusesTree unknown_encoding c s w d n = HoldsSomewhere c s (IsUnregistered s) w d n
RefusesTree bad_metadata c s w d n = HoldsSomewhere c s (HasBadMetadata c s) w d n
RefusesTree bad_shape c s w d n = HoldsSomewhere c s (HasBadShape c s) w d n
RefusesTree bad_content c s w d n = HoldsSomewhere c s (HasBadContent c s) w d n
RefusesTree foreign_control c s w d n = HoldsSomewhere c s (HasForeignControl c s) w d n
RefusesTree bad_stats c s w d n = HoldsSomewhere c s (HasBadStats c s) w d n
RefusesTree plugin_refused c s w d n = HoldsSomewhere c s (IsRefusedByPlugin c s) w d n
