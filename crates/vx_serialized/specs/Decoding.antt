-- How a node of a wire tree is read.
use Rattle.std.specs.Prelude.{ℕ, ◌≡◌, ◌⊎◌, List, Option, Some, None, IsSomeAnd, length}
use Rattle.vx_buffer.specs.Buffer.{Buffer}
use Rattle.vx_trees.specs.Rose.{label, below, count}
use Rattle.vx_types.specs.Known.{ExtMeaning}
use Rattle.vx_types.specs.Seen.{typ}
use Rattle.vx_types.specs.Typ.{Typ}
use Rattle.vx_array_tree.specs.Place.{Place}
use Rattle.vx_array_tree.specs.Tree.{Tree, Trees}
use Rattle.vx_wire_tree.specs.Plugin.{NodeHead, parts_head}
use Rattle.vx_wire_tree.specs.Session.{SessionMeaning, Reader, plugin, encoding_by, HoldsLength}
use Rattle.vx_wire_tree.specs.Steps.{HasNoMetadata, PlansChildren, HasNoPlan, HasParts, HasWrongShape, HasWrongControl, HasWrongContent}
use Rattle.vx_wire_tree.specs.Wire.{Wire}
use Rattle.vx_encodings.specs.Messages.{codec}
use Rattle.vx_plans.specs.declared.head.ArrayHead.{ArrayHead}
use Rattle.vx_registry.specs.Plugin.{head_in}
use Rattle.vx_registry.specs.declared.plugin.PluginError.{PluginError}
use Rattle.vx_registry.specs.declared.plugin.PluginError.TheVariants as plugins
use Rattle.vx_serialized.specs.declared.error.WireError.{WireError}
use Rattle.vx_serialized.specs.declared.error.WireError.TheVariants.{OutOfMemory, BadMetadata, BadShape, BadContent, ForeignControl, PluginRefused}

-- A head holds what is known of a node that is to be of a type and a length: its metadata, and the number of its
-- children.
pub record IsHeadOf (h : ArrayHead) (w : Wire) (d : Typ) (n : ℕ) : Type 0 where
  pub dtype : typ h.dtype ≡ d
  pub len : h.len ≡ n
  pub metadata : h.metadata ≡ (label w).metadata
  pub buffers : h.nbuffers ≡ length (label w).buffers
  pub children : h.nchildren ≡ count (below w)

-- This is what reads a node's identifier, and the head is that of the node.
pub record IsNodeOf (s : SessionMeaning) (w : Wire) (d : Typ) (n : ℕ) (r : Option Reader) (h : ArrayHead) : Type 0 where
  pub id : List ℕ
  pub id_is : (label w).id ≡ Some id
  pub named : h.serialized_id ≡ id
  pub reader_is : s.reader id ≡ r
  pub head : IsHeadOf h w d n

-- ---- the steps of one node, by what reads it: an encoding or a plugin

-- The children of a node of this head are to stand at these places: its plugin says so, or its encoding does and its
-- identifier holds its length.
abbrev pub PlansBy : ExtMeaning → Option Reader → ArrayHead → List Place → Type 0
PlansBy x (Some (plugin p)) h ps = p.plan (head_in h) x ≡ Some ps
PlansBy x r h ps = IsSomeAnd (encoding_by r) (λ e. PlansChildren codec x e (typ h.dtype) h.len h.metadata h.nchildren ps) × HoldsLength r h.serialized_id h.len

-- Its encoding would say so, but that its identifier does not hold its length.
pub record IsPastHead (x : ExtMeaning) (r : Option Reader) (h : ArrayHead) : Type 0 where
  pub places : List Place
  pub plan : IsSomeAnd (encoding_by r) (λ e. PlansChildren codec x e (typ h.dtype) h.len h.metadata h.nchildren places)
  pub past : HoldsLength r h.serialized_id h.len → ⊥

-- No children are planned: allocation failed, or by the refusal.
abbrev pub RefusesPlan : WireError → ExtMeaning → Option Reader → ArrayHead → Type 0
RefusesPlan OutOfMemory x r h = Unit {0}
RefusesPlan BadMetadata x r h = IsSomeAnd (encoding_by r) (λ e. HasNoMetadata codec x e (typ h.dtype) h.metadata)
RefusesPlan BadShape x r h = IsSomeAnd (encoding_by r) (λ e. HasNoPlan codec x e (typ h.dtype) h.len h.metadata h.nchildren) ⊎ IsPastHead x r h
RefusesPlan PluginRefused x (Some (plugin p)) h = p.plan (head_in h) x ≡ None
RefusesPlan _ x r h = ⊥

-- The head of a node once its buffers and children are there.
abbrev pub head_over : ArrayHead → List Buffer → Trees → NodeHead
head_over h bs ts = parts_head (record { id = h.serialized_id; metadata = h.metadata; buffers = bs; children = ts }) (typ h.dtype) h.len

-- An array is built of a node's head, buffers and children: by its plugin, or by its encoding.
abbrev pub BuildsBy : ExtMeaning → Option Reader → ArrayHead → List Buffer → Trees → Tree → Type 0
BuildsBy x (Some (plugin p)) h bs ts t = p.build (head_over h bs ts) bs ts x ≡ Some t
BuildsBy x r h bs ts t = IsSomeAnd (encoding_by r) (λ e. HasParts codec x e (typ h.dtype) h.len h.metadata bs ts t)

-- None is built: allocation failed, or by the refusal.
abbrev pub RefusesBuild : WireError → ExtMeaning → Option Reader → ArrayHead → List Buffer → Trees → Type 0
RefusesBuild OutOfMemory x r h bs ts = Unit {0}
RefusesBuild BadShape x r h bs ts = IsSomeAnd (encoding_by r) (λ e. HasWrongShape codec x e (typ h.dtype) h.len h.metadata bs ts)
RefusesBuild BadContent x r h bs ts = IsSomeAnd (encoding_by r) (λ e. HasWrongContent codec x e (typ h.dtype) h.len h.metadata bs ts)
RefusesBuild ForeignControl x r h bs ts = IsSomeAnd (encoding_by r) (λ e. HasWrongControl codec x e (typ h.dtype) h.len h.metadata ts)
RefusesBuild PluginRefused x (Some (plugin p)) h bs ts = p.build (head_over h bs ts) bs ts x ≡ None
RefusesBuild _ x r h bs ts = ⊥

-- A plugin's refusal as one of a blob.
abbrev pub plugin_refusal : PluginError → WireError
plugin_refusal plugins.OutOfMemory = OutOfMemory
plugin_refusal plugins.Refused = PluginRefused
