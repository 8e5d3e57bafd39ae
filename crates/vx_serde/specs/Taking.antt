-- An array as it is written, as a tree; and why its nodes are not written.
use Rattle.std.specs.Prelude.{ℕ, ◌≡◌, ◌≤◌, ◌<◌, ◌⊎◌, List, Option, Some, None, IsSomeAnd, Box, Vec, map, slice_get}
use Rattle.std.specs.Global.{Global}
use Rattle.vx_trees.specs.Rose.{end, label, below, roses_of, roses_list}
use Rattle.vx_trees.specs.Walks.{levels, levels_below}
use Rattle.vx_array_tree.specs.Tree.{Tree, Trees, Head, places}
use Rattle.vx_trees.specs.Everywhere.{EverywhereBelow}
use Rattle.vx_wire_tree.specs.Limits.{HasMessage, HasMessages}
use Rattle.vx_wire_tree.specs.Plugin.{Parts}
use Rattle.vx_wire_tree.specs.Session.{SessionMeaning}
use Rattle.vx_wire_tree.specs.Taken.{written, step, taken, IsTaken, given_head, each, Each, Any, HasUntaken, Unwritten, unregistered, unserializable, undeclared, unwilling}
use Rattle.vx_registry.specs.Plugin.{parts_in}
use Rattle.vx_registry.specs.declared.serialization.ArraySerialization.{ArraySerialization}
use Rattle.vx_serialized.specs.declared.error.WireError.{WireError}
use Rattle.vx_serialized.specs.declared.error.WireError.TheVariants.{OutOfMemory, WireLimit, NotRegistered, NotSerializable, UndeclaredId, PluginRefused}
use Rattle.vx_serde.specs.declared.options.SerializeOptions.{SerializeOptions}
use Rattle.vx_serde.specs.declared.taken.GivenParts.{GivenParts}
use Rattle.vx_serde.specs.declared.taken.Source.{Source}
use Rattle.vx_serde.specs.declared.taken.Source.TheVariants.{Borrowed, Held}
use Rattle.vx_serde.specs.declared.taken.TakenRoot.{TakenRoot}
use Rattle.vx_serde.specs.Limits.{most_levels}

-- An array as it is written: each node unchanged, or as its plugin gives it, down to one level below the last that may
-- be written.
abbrev pub as_written : SessionMeaning → SerializeOptions → Tree → Tree
as_written s options t = taken s (most_levels options) t

-- The array of a source.
abbrev pub source_tree : Source → Tree
source_tree (Borrowed array) = array.now
source_tree (Held array) = array.value

-- What a plugin gives for a node itself.
abbrev pub own_parts : GivenParts → Parts
own_parts g = record { id = g.id; metadata = g.metadata; buffers = g.buffers; children = end }

-- A node as it is written: unchanged, or as a plugin gives it.
abbrev pub taken_head : Head → Option (Box GivenParts Global) → Head
taken_head h None = h
taken_head h (Some g) = given_head h (own_parts g.value)

-- The nodes below it: the array's own children unchanged, or those that were taken.
abbrev pub taken_below : Trees → Option (Vec Tree Global) → Trees
taken_below ts None = ts
taken_below ts (Some us) = roses_of us.items

-- Below a node that is written unchanged, nodes stand where the array's children do.
abbrev pub StandsAs : Option (Box GivenParts Global) → Trees → Trees → Type 0
StandsAs None us ts = places us ≡ places ts
StandsAs (Some g) us ts = Unit {0}

-- A root's node, unchanged or as a plugin gives it,
abbrev pub root_head : Head → Option ArraySerialization → Head
root_head h None = h
root_head h (Some p) = given_head h (parts_in p)

-- and the arrays below it, its own or those that the plugin gives.
abbrev pub root_below : Trees → Option ArraySerialization → Trees
root_below ts None = ts
root_below ts (Some p) = p.children

-- The node of a root that is written,
abbrev pub root_node : TakenRoot → Head
root_node r = root_head (label (source_tree r.source)) r.given

-- and the arrays that it is written over.
abbrev pub root_arrays : TakenRoot → Trees
root_arrays r = root_below (below (source_tree r.source)) r.given

-- A root is written unchanged, over its array's own children unchanged.
pub record IsOwn (r : TakenRoot) (us : List Tree) : Type 0 where
  pub ungiven : r.given ≡ None
  pub children_are : us ≡ roses_list (below (source_tree r.source))

-- Nodes are those that are taken of arrays where there is room for n levels, and each of these arrays is taken.
pub record AreTaken (s : SessionMeaning) (n : ℕ) (arrays nodes : List Tree) : Type 0 where
  pub made : nodes ≡ map (λ t. taken s n t) arrays
  pub written_each : Each (λ t. IsTaken s n t) (roses_of arrays)

-- Nodes have at most n levels, and their metadata fits its messages.
pub record AreWithinLevels (n : ℕ) (nodes : List Tree) : Type 0 where
  pub levels_are : levels_below (roses_of nodes) ≤ n
  pub messages : EverywhereBelow HasMessage (roses_of nodes)

-- The root of one of several arrays is written as this node, over these arrays.
pub record IsRootAt (s : SessionMeaning) (arrays : Trees) (i : ℕ) (h : Head) (ts : Trees) : Type 0 where
  pub array : Tree
  pub stands : slice_get (roses_list arrays) i ≡ Some array
  pub step_is : step s array ≡ written h ts

-- Why a node is not written, by the refusal for it.
abbrev pub unwritten_by : WireError → Option Unwritten
unwritten_by NotRegistered = Some unregistered
unwritten_by NotSerializable = Some unserializable
unwritten_by UndeclaredId = Some undeclared
unwritten_by PluginRefused = Some unwilling
unwritten_by _ = None

-- Why the nodes of an array are not written, where there is room for n levels: by the refusal. There are more levels,
-- or the metadata of a node does not fit its message; or a node is not written, for the cause that the refusal stands
-- for.
abbrev pub RefusesTaking : SessionMeaning → ℕ → Tree → WireError → Type 0
RefusesTaking s n t OutOfMemory = Unit {0}
RefusesTaking s n t WireLimit = (n < levels (taken s n t)) ⊎ (HasMessages (taken s n t) → ⊥)
RefusesTaking s n t e = IsSomeAnd (unwritten_by e) (λ why. HasUntaken s n why t)

-- Why the nodes of one of several arrays are not written.
abbrev pub RefusesOneOf : SessionMeaning → ℕ → Trees → WireError → Type 0
RefusesOneOf s n ts OutOfMemory = Unit {0}
RefusesOneOf s n ts WireLimit = (n < levels_below (each (taken s n) ts)) ⊎ (EverywhereBelow HasMessage (each (taken s n) ts) → ⊥)
RefusesOneOf s n ts e = IsSomeAnd (unwritten_by e) (λ why. Any (λ t. HasUntaken s n why t) ts)
