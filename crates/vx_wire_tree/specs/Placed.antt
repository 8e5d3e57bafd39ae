-- The nodes of a wire tree that are placed: those whose type and length follow from the root's.
use Rattle.std.specs.Prelude.{ℕ, ◌≡◌, List, [], ◌∷◌, Option, Some, None, slice_get}
use Rattle.vx_trees.specs.Rose.{Rose, label, below, count, roses_list}
use Rattle.vx_types.specs.Typ.{Typ}
use Rattle.vx_array_tree.specs.Encoding as E
use Rattle.vx_array_tree.specs.Place.{Place}
use Rattle.vx_wire_tree.specs.Codec.{Codec}
use Rattle.vx_wire_tree.specs.Plugin.{PluginMeaning, head_at}
use Rattle.vx_wire_tree.specs.Session.{SessionMeaning, Reader, shipped, revised, plugin}
use Rattle.vx_wire_tree.specs.Steps.{PlansChildren}
use Rattle.vx_wire_tree.specs.Wire.{Wire}

-- A plugin plans these places for the children of a node that stands at a type and a length.
pub record PlansByPlugin (s : SessionMeaning) (p : PluginMeaning) (w : Wire) (d : Typ) (n : ℕ) (ps : List Place) : Type 0 where
  pub id : List ℕ
  pub id_is : (label w).id ≡ Some id
  pub plan : p.plan (head_at id (label w) (count (below w)) d n) s.ext ≡ Some ps

-- A plan by what reads a node: its encoding or its plugin plans its children. Only the number of its buffers is looked
-- at, and by plugins alone.
abbrev pub IsPlannedBy : Codec → SessionMeaning → Option Reader → Wire → Typ → ℕ → List Place → Type 0
IsPlannedBy c s (Some (shipped e)) w d n ps = PlansChildren c s.ext e d n (label w).metadata (count (below w)) ps
IsPlannedBy c s (Some revised) w d n ps = PlansChildren c s.ext E.primitive d n (label w).metadata (count (below w)) ps
IsPlannedBy c s (Some (plugin p)) w d n ps = PlansByPlugin s p w d n ps
IsPlannedBy c s None w d n ps = ⊥

-- A node that stands at a type and a length has a plan.
pub record HasPlan (c : Codec) (s : SessionMeaning) (w : Wire) (d : Typ) (n : ℕ) (ps : List Place) : Type 0 where
  pub id : List ℕ
  pub id_is : (label w).id ≡ Some id
  pub planned : IsPlannedBy c s (s.reader id) w d n ps

-- v is child i of a node that stands at a type and a length, and p is the place of that child.
pub record IsChild (c : Codec) (s : SessionMeaning) (w : Wire) (d : Typ) (n : ℕ) (i : ℕ) (v : Wire) (p : Place) : Type 0 where
  pub places : List Place
  pub planned : HasPlan c s w d n places
  pub child : slice_get (roses_list (below w)) i ≡ Some v
  pub place : slice_get places i ≡ Some p

-- What is said of a node at a type and a length.
abbrev pub Claim : Type 1
Claim = Wire → Typ → ℕ → Type 0

-- Each node on this path is placed, and the claim holds of the last one at its place.
abbrev pub HoldsAt : Codec → SessionMeaning → Claim → List ℕ → Wire → Typ → ℕ → Type 0
HoldsAt c s P [] w d n = P w d n
HoldsAt c s P (i ∷ path) w d n = (v : Wire) × (p : Place) × IsChild c s w d n i v p × HoldsAt c s P path v p.dtype p.len

-- The claim holds of some placed node.
abbrev pub HoldsSomewhere : Codec → SessionMeaning → Claim → Wire → Typ → ℕ → Type 0
HoldsSomewhere c s P w d n = (path : List ℕ) × HoldsAt c s P path w d n

-- The claim holds of the node on this path, placed or not.
abbrev pub HoldsUnder : {L : Type 0} → (Rose L → Type 0) → List ℕ → Rose L → Type 0
HoldsUnder P [] t = P t
HoldsUnder P (i ∷ path) t = (u : Rose _) × (slice_get (roses_list (below t)) i ≡ Some u) × HoldsUnder P path u

-- The claim holds of some node.
abbrev pub Anywhere : {L : Type 0} → (Rose L → Type 0) → Rose L → Type 0
Anywhere P t = (path : List ℕ) × HoldsUnder P path t
