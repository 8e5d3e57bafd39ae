-- What holds of an array that matches a wire tree, by what reads its nodes.
use Rattle.std.proofs.Common.{◌≡◌, inl, inr, IsTrue, sym, ap, ◌∙◌, subst}
use Rattle.std.proofs.lemmas.Option.{same_Some}
use Rattle.vx_trees.specs.Rose.{node, end, more, label, below}
use Rattle.vx_trees.specs.Everywhere.{EverywhereBelow}
use Rattle.vx_array_tree.specs.Body.{Body}
use Rattle.vx_array_tree.specs.Body as B
use Rattle.vx_array_tree.specs.Encoding.{Encoding}
use Rattle.vx_array_tree.specs.Table.{encoding_of, metadata_of, id_of, IsNative, IsNativeEncoding}
use Rattle.vx_array_tree.specs.Tree.{Tree, Trees, places}
use Rattle.vx_wire_tree.specs.KnownTypes.{IsKnownIn, KnowsNode, KnowsTypes}
use Rattle.vx_wire_tree.specs.Codec.{Codec, IsLawful}
use Rattle.vx_wire_tree.specs.Matches.{IsRaw, AreRaw, Matches, AllMatch}
use Rattle.vx_wire_tree.specs.Plugin.{PluginMeaning}
use Rattle.vx_wire_tree.specs.ReadBack.{HasWriter, IsWritten, IsWrittenBy, IsWrittenNode, IsUnreadBy, IsUnread, AreUnread}
use Rattle.vx_wire_tree.specs.Session.{SessionMeaning, IsShippedReader, IsShipped, IsPaired}
use Rattle.vx_wire_tree.specs.Wire.{Wire, Wires}
use Rattle.vx_wire_tree.proofs.Natives.{native_written}
use Rattle.vx_wire_tree.proofs.NeverRefused.{IsEncodedBy, IsPluginBy, IsToldAs, node_told}
use Rattle.vx_wire_tree.proofs.TwoIdentifiers.{read_is_written}

-- ---- by what a node is

unread_native : (s : SessionMeaning) (b : Body) (Below : Type 0) → IsNative b → Below → IsUnreadBy s b Below
unread_native s (B.foreign x) Below k u = absurd k
unread_native s _ Below k u = u

module _ (s : SessionMeaning) (allowed : IsTrue s.ext.unknown) where
  mutual
    -- Foreign arrays are written where such are allowed, and no type stands in their metadata.
    raw_written : (w : Wire) (t : Tree) → IsRaw w t → IsWritten s t
    raw_written (node w ws) (node h ts) r = (subst (λ b. IsWrittenBy s b) (sym r.0.body) allowed, each_raw_written ws ts r.1)

    each_raw_written : (ws : Wires) (ts : Trees) → AreRaw ws ts → EverywhereBelow (IsWrittenNode s) ts
    each_raw_written end ts r = subst (λ (z : Trees). EverywhereBelow (IsWrittenNode s) z) (sym r) tt
    each_raw_written (more w ws) end r = absurd r
    each_raw_written (more w ws) (more t ts) r = (raw_written w t r.0, each_raw_written ws ts r.1)

module _ (s : SessionMeaning) where
  mutual
    raw_types : (w : Wire) (t : Tree) → IsRaw w t → KnowsTypes s.ext t
    raw_types (node w ws) (node h ts) r = (subst (λ b. IsKnownIn s.ext (metadata_of b (places ts))) (sym r.0.body) tt, each_raw_types ws ts r.1)

    each_raw_types : (ws : Wires) (ts : Trees) → AreRaw ws ts → EverywhereBelow (KnowsNode s.ext) ts
    each_raw_types end ts r = subst (λ (z : Trees). EverywhereBelow (KnowsNode s.ext) z) (sym r) tt
    each_raw_types (more w ws) end r = absurd r
    each_raw_types (more w ws) (more t ts) r = (raw_types w t r.0, each_raw_types ws ts r.1)

module _ (c : Codec) (s : SessionMeaning) (ok : IsShipped s) where
  no_plugin : (w : Wire) (t : Tree) (p : PluginMeaning) → IsPluginBy c s p w t → ⊥
  no_plugin w t p x = subst (λ r. IsShippedReader r) x.by.reader_is (ok.reads x.by.id)

  -- ---- the types in the metadata are known

  types_by : (w : Wire) (t : Tree) → IsToldAs c s w t → (AllMatch c s (below w) (below t) → EverywhereBelow (KnowsNode s.ext) (below t)) → KnowsTypes s.ext t
  types_by w (node h ts) (inl x) kids = (x.1.told.metadata.known, kids x.1.told.children)
  types_by w (node h ts) (inr (inl f)) kids = raw_types s w (node h ts) f.raw
  types_by w (node h ts) (inr (inr p)) kids = absurd (no_plugin w (node h ts) p.0 p.1)

  mutual
    pub matched_types : (w : Wire) (t : Tree) → Matches c s w t → KnowsTypes s.ext t
    matched_types (node w ws) (node h ts) m = types_by (node w ws) (node h ts) (node_told c s (node w ws) (node h ts) m) (λ k. each_matched_types ws ts k)

    each_matched_types : (ws : Wires) (ts : Trees) → AllMatch c s ws ts → EverywhereBelow (KnowsNode s.ext) ts
    each_matched_types end ts m = subst (λ (z : Trees). EverywhereBelow (KnowsNode s.ext) z) (sym m) tt
    each_matched_types (more w ws) end m = absurd m
    each_matched_types (more w ws) (more t ts) m = (matched_types w t m.0, each_matched_types ws ts m.1)

  module _ (law : IsLawful c s) where
    -- What an encoding reads is not foreign.
    read_native : (w : Wire) (t : Tree) (e : Encoding) → IsEncodedBy c s e w t → IsNative (label t).body
    read_native w t e x = subst (λ f. IsNativeEncoding f) (sym x.told.encoding) (law.messages x.by.id e x.by.encoding_is).native

    -- ---- nodes are written

    module _ (paired : IsPaired s) where
      written_of : (w : Wire) (t : Tree) → IsToldAs c s w t → (AllMatch c s (below w) (below t) → EverywhereBelow (IsWrittenNode s) (below t)) → IsWritten s t
      written_of w (node h ts) (inl x) kids =
          let q = read_is_written s paired x.1.by.id x.0 x.1.by.encoding_is in
          let writer : HasWriter s (encoding_of h.body) = record { writer = q.0; writer_is = ap (λ z. s.writer (id_of z)) x.1.told.encoding ∙ q.1 } in
          (native_written s h.body (read_native w (node h ts) x.0 x.1) writer, kids x.1.told.children)
      written_of w (node h ts) (inr (inl f)) kids = raw_written s f.allowed w (node h ts) f.raw
      written_of w (node h ts) (inr (inr p)) kids = absurd (no_plugin w (node h ts) p.0 p.1)

      mutual
        pub matched_written : (w : Wire) (t : Tree) → Matches c s w t → IsWritten s t
        matched_written (node w ws) (node h ts) m = written_of (node w ws) (node h ts) (node_told c s (node w ws) (node h ts) m) (λ k. each_matched_written ws ts k)

        each_matched_written : (ws : Wires) (ts : Trees) → AllMatch c s ws ts → EverywhereBelow (IsWrittenNode s) ts
        each_matched_written end ts m = subst (λ (z : Trees). EverywhereBelow (IsWrittenNode s) z) (sym m) tt
        each_matched_written (more w ws) end m = absurd m
        each_matched_written (more w ws) (more t ts) m = (matched_written w t m.0, each_matched_written ws ts m.1)

    -- ---- nothing reads the topmost foreign nodes

    unread_of : (w : Wire) (t : Tree) → IsToldAs c s w t → (AllMatch c s (below w) (below t) → AreUnread s (below t)) → IsUnread s t
    unread_of w (node h ts) (inl x) kids = unread_native s h.body (AreUnread s ts) (read_native w (node h ts) x.0 x.1) (kids x.1.told.children)
    unread_of w (node h ts) (inr (inr p)) kids = absurd (no_plugin w (node h ts) p.0 p.1)
    unread_of (node w ws) (node h ts) (inr (inl f)) kids =
        let raw = f.raw.0 in
        let same : raw.kept.id ≡ f.by.id = same_Some raw.kept.id f.by.id (sym raw.id ∙ f.by.id_is) in
        subst (λ b. IsUnreadBy s b (AreUnread s ts)) (sym raw.body) (ap (λ z. s.reader z) same ∙ f.by.reader_is)

    mutual
      pub matched_unread : (w : Wire) (t : Tree) → Matches c s w t → IsUnread s t
      matched_unread (node w ws) (node h ts) m = unread_of (node w ws) (node h ts) (node_told c s (node w ws) (node h ts) m) (λ k. each_matched_unread ws ts k)

      each_matched_unread : (ws : Wires) (ts : Trees) → AllMatch c s ws ts → AreUnread s ts
      each_matched_unread end ts m = subst (λ (z : Trees). AreUnread s z) (sym m) tt
      each_matched_unread (more w ws) end m = absurd m
      each_matched_unread (more w ws) (more t ts) m = (matched_unread w t m.0, each_matched_unread ws ts m.1)
