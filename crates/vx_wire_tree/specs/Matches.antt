-- When a wire tree matches an array, under a session.
use Rattle.std.specs.Prelude.{ℕ, ◌≡◌, List, Option, Some, None, IsTrue}
use Rattle.vx_buffer.specs.Buffer.{Buffer}
use Rattle.vx_trees.specs.Everywhere.{EverywhereBelow}
use Rattle.vx_trees.specs.Rose.{node, end, more, label, below, count}
use Rattle.vx_scalars.specs.Stats.{Stats}
use Rattle.vx_array_tree.specs.Body as B
use Rattle.vx_array_tree.specs.Encoding.{Encoding}
use Rattle.vx_array_tree.specs.Encoding as E
use Rattle.vx_array_tree.specs.Encodings.Foreigns as Foreigns
use Rattle.vx_array_tree.specs.Normal.{IsNormal, IsNormalNode}
use Rattle.vx_array_tree.specs.Sound.{IsSoundNode, metadata_in}
use Rattle.vx_array_tree.specs.Table.{encoding_of, buffers_of}
use Rattle.vx_array_tree.specs.Tree.{Head, Tree, Trees, places, with_stats}
use Rattle.vx_wire_tree.specs.Codec.{Codec}
use Rattle.vx_wire_tree.specs.Plugin.{PluginMeaning, head_at}
use Rattle.vx_wire_tree.specs.Reads.{IsMetadata}
use Rattle.vx_wire_tree.specs.Revised.{revised_holds}
use Rattle.vx_wire_tree.specs.Session.{SessionMeaning, Reader, shipped, revised, plugin}
use Rattle.vx_wire_tree.specs.Wire.{WireHead, Wire, Wires, all_present}

-- A foreign node keeps what stands on the wire: the identifier, the metadata's bytes, and the buffers with their
-- exponents. Its statistics are not compared.
pub record IsRawNode (w : WireHead) (h : Head) : Type 0 where
  pub kept : Foreigns.Data
  pub body : h.body ≡ B.foreign kept
  pub id : w.id ≡ Some kept.id
  pub metadata : w.metadata ≡ kept.metadata
  pub buffers : w.buffers ≡ all_present kept.buffers

abbrev mutual
  -- An array is foreign and the wire tree unchanged, at each of its nodes, whatever may read their identifiers.
  pub IsRaw : Wire → Tree → Type 0
  IsRaw (node w ws) t = IsRawNode w (label t) × AreRaw ws (below t)

  -- The same for arrays, one by one.
  pub AreRaw : Wires → Trees → Type 0
  AreRaw end us = us ≡ end
  AreRaw (more w ws) us = elim us [ end ↦ ⊥ | more u vs ↦ IsRaw w u × AreRaw ws vs ]

-- A node of an encoding: the array is of that encoding and in the normal form, the metadata is its own, the buffers are
-- equal with their exponents, the statistics are those that the field shows, and the children match.
pub record IsEncodedNode (c : Codec) (s : SessionMeaning) (e : Encoding) (w : WireHead) (t : Tree) (Below : Trees → Type 0) : Type 0 where
  pub encoding : encoding_of (label t).body ≡ e
  pub metadata : IsMetadata c s.ext e (label t).dtype w.metadata (metadata_in (label t) (below t))
  pub buffers : w.buffers ≡ all_present (buffers_of (label t).body)
  pub stats : c.ShowsStats (label t).dtype w.stats (label t).stats
  pub normal : IsNormalNode (label t) (below t)
  pub children : Below (below t)

-- A node's identifier holds n rows, where primitives have two identifiers.
pub record IsHeldNode (w : WireHead) (n : ℕ) : Type 0 where
  pub id : List ℕ
  pub id_is : w.id ≡ Some id
  pub holds : IsTrue (revised_holds id n)

-- A node that a plugin reads: with the statistics that the field shows, the array is what the plugin builds of the
-- node's head, of its buffers, and of sound arrays that match the children and stand where the plugin plans them. What
-- the plugin builds need not be in the normal form.
pub record IsPluginNode (c : Codec) (s : SessionMeaning) (p : PluginMeaning) (w : WireHead) (k : ℕ) (t : Tree) (Below : Trees → Type 0) : Type 0 where
  pub id : List ℕ
  pub id_is : w.id ≡ Some id
  pub buffers : List Buffer
  pub buffers_are : w.buffers ≡ all_present buffers
  pub children : Trees
  pub planned : p.plan (head_at id w k (label t).dtype (label t).len) s.ext ≡ Some (places children)
  pub matched : Below children
  pub sound : EverywhereBelow IsSoundNode children
  pub built : Tree
  pub built_is : p.build (head_at id w k (label t).dtype (label t).len) buffers children s.ext ≡ Some built
  pub stats : Stats
  pub shown : c.ShowsStats (label t).dtype w.stats stats
  pub tree_is : t ≡ with_stats stats built

-- A node by what reads its identifier. Primitives under two identifiers hold some lengths under each. A node that
-- nothing reads is foreign, with all below it, and in the normal form, where such nodes are allowed, and else decodes to
-- no array.
abbrev pub IsNodeBy : Codec → SessionMeaning → Option Reader → WireHead → Wires → Tree → (Trees → Type 0) → Type 0
IsNodeBy c s (Some (shipped e)) w ws t Below = IsEncodedNode c s e w t Below
IsNodeBy c s (Some revised) w ws t Below = IsHeldNode w (label t).len × IsEncodedNode c s E.primitive w t Below
IsNodeBy c s (Some (plugin p)) w ws t Below = IsPluginNode c s p w (count ws) t Below
IsNodeBy c s None w ws t Below = IsTrue s.ext.unknown × IsRaw (node w ws) t × IsNormal t

abbrev mutual
  -- A wire tree matches an array: its identifier is there, and the array is a node by what reads it, over
  -- children that match one by one.
  pub Matches : Codec → SessionMeaning → Wire → Tree → Type 0
  Matches c s (node w ws) t = (id : List ℕ) × (w.id ≡ Some id) × IsNodeBy c s (s.reader id) w ws t (λ us. AllMatch c s ws us)

  -- Wire trees match arrays one by one.
  pub AllMatch : Codec → SessionMeaning → Wires → Trees → Type 0
  AllMatch c s end us = us ≡ end
  AllMatch c s (more w ws) us = elim us [ end ↦ ⊥ | more u vs ↦ Matches c s w u × AllMatch c s ws vs ]
