-- A wire tree decodes to at most one sound array of a type and a length.
use Rattle.std.proofs.Common.{ℕ, suc, ◌≡◌, List, [], ◌∷◌, Option, Some, None, refl, sym, ap, ◌∙◌, subst}
use Rattle.std.proofs.lemmas.Option.{same_Some}
use Rattle.vx_trees.specs.Rose.{node, end, more, label, count}
use Rattle.vx_trees.specs.Everywhere.{EverywhereBelow}
use Rattle.vx_types.specs.Typ.{Typ}
use Rattle.vx_array_tree.specs.Encoding.{Encoding}
use Rattle.vx_array_tree.specs.Encoding as E
use Rattle.vx_array_tree.specs.Metadata.{Metadata}
use Rattle.vx_array_tree.specs.Normal.{IsNormal, IsNormalNode, AreForeignAt}
use Rattle.vx_array_tree.specs.Place.{place}
use Rattle.vx_array_tree.specs.Sound.{IsSound, IsSoundNode, metadata_in}
use Rattle.vx_array_tree.specs.Table.{buffers_of}
use Rattle.vx_array_tree.specs.Tree.{Head, Tree, Trees, places, with_stats}
use Rattle.vx_array_tree.specs.Body as B
use Rattle.vx_array_tree.proofs.CanonLaws.{normal_foreign}
use Rattle.vx_array_tree.proofs.NodeLaws.{IsSameNode, same_head, same_places}
use Rattle.vx_wire_tree.specs.Codec.{Codec, HasLawfulStats, IsLawful, IsLawfulAt}
use Rattle.vx_wire_tree.specs.Fields.{meant}
use Rattle.vx_wire_tree.specs.Matches.{IsRawNode, IsRaw, AreRaw, IsEncodedNode, IsPluginNode, IsNodeBy, Matches, AllMatch}
use Rattle.vx_wire_tree.specs.Plugin.{NodeHead, head_at, PluginMeaning}
use Rattle.vx_wire_tree.specs.Reads.{IsMetadata}
use Rattle.vx_wire_tree.specs.Session.{SessionMeaning, Reader, shipped, revised, plugin, encoding_by, IsShippedReader, IsShipped}
use Rattle.vx_wire_tree.specs.Wire.{WireHead, Wire, Wires, all_present}

-- A list of which nothing is missing determines its items.
pub all_present_inj : {A : Type 0} (xs ys : List A) → all_present xs ≡ all_present ys → xs ≡ ys
all_present_inj [] [] e = refl
all_present_inj [] (y ∷ ys) e = absurd (cc)
all_present_inj (x ∷ xs) [] e = absurd (cc)
all_present_inj (x ∷ xs) (y ∷ ys) e =
    let a : x ≡ y = cc in
    let b : all_present xs ≡ all_present ys = cc in
    λ i. a i ∷ all_present_inj xs ys b i

-- Equal lists of places have equal first places.
same_place : (t u : Tree) (ts us : Trees) → places (more t ts) ≡ places (more u us)
    → ((label t).dtype ≡ (label u).dtype) × ((label t).len ≡ (label u).len) × (places ts ≡ places us)
same_place t u ts us e =
    let p : place (label t).dtype (label t).len ≡ place (label u).dtype (label u).len = cc in
    let r : places ts ≡ places us = cc in
    (ap (λ z. z.dtype) p, ap (λ z. z.len) p, r)

module _ (c : Codec) (s : SessionMeaning) where
  -- As many arrays match as there are wire trees.
  pub all_count : (ws : Wires) (ts : Trees) → AllMatch c s ws ts → count ts ≡ count ws
  all_count end ts m = ap (λ z. count z) m
  all_count (more w ws) end m = absurd m
  all_count (more w ws) (more t ts) m = ap (λ n. suc n) (all_count ws ts m.1)

  -- Bytes are at most one metadata, at a type.
  pub one_metadata : (e : Encoding) → IsLawfulAt c e → (d f : Typ) (bytes : List ℕ) (v u : Metadata) → d ≡ f → IsMetadata c s.ext e d bytes v → IsMetadata c s.ext e f bytes u → v ≡ u
  one_metadata e law d f bytes v u p a b =
      let x = law.one_message bytes a.fields b.fields a.shown b.shown in
      sym a.meaning ∙ (λ i. meant (p i) (x i)) ∙ b.meaning

  -- Two nodes of one encoding that match one wire node are equal, if their children are equal wherever they stand at
  -- equal places.
  encoded_unique : (e : Encoding) → IsLawfulAt c e → HasLawfulStats c → (w : WireHead) (h g : Head) (ts us : Trees) (Below : Trees → Type 0)
      → IsEncodedNode c s e w (node h ts) Below → IsEncodedNode c s e w (node g us) Below
      → IsSoundNode h ts → IsSoundNode g us → h.dtype ≡ g.dtype → h.len ≡ g.len
      → count ts ≡ count us → (Below ts → Below us → places ts ≡ places us → ts ≡ us) → node h ts ≡ node g us
  encoded_unique e law stats w h g ts us Below a b sh sg d n k kids =
      let same : IsSameNode h g ts us = record {
        dtype = d;
        len = n;
        encoding = a.encoding ∙ sym b.encoding;
        metadata = one_metadata e law h.dtype g.dtype w.metadata (metadata_in h ts) (metadata_in g us) d a.metadata b.metadata;
        buffers = all_present_inj (buffers_of h.body) (buffers_of g.body) (sym a.buffers ∙ b.buffers);
        stats = stats.one_set g.dtype w.stats h.stats g.stats (subst (λ (z : Typ). c.ShowsStats z w.stats h.stats) d a.stats) b.stats;
        children = k;
      } in
      let head = same_head h g ts us same a.normal b.normal in
      let below = kids a.children b.children (same_places h g ts us same sh sg a.normal b.normal) in
      λ i. node (head i) (below i)

  module _ (law : IsLawful c s) where
    same_id : (o : Option (List ℕ)) (i j : List ℕ) → o ≡ Some i → o ≡ Some j → i ≡ j
    same_id o i j p q = cc

    -- Two foreign nodes that keep what stands on one wire node are equal in what they keep.
    same_kept : (w : WireHead) (h g : Head) → (x : IsRawNode w h) (y : IsRawNode w g) → x.kept ≡ y.kept
    same_kept w h g x y =
        let a = same_id w.id x.kept.id y.kept.id x.id y.id in
        let b = sym x.metadata ∙ y.metadata in
        let c = all_present_inj x.kept.buffers y.kept.buffers (sym x.buffers ∙ y.buffers) in
        λ i. record { id = a i; metadata = b i; buffers = c i }

    mutual
      raw_unique : (w : Wire) (t u : Tree) → IsRaw w t → IsRaw w u → IsNormal t → IsNormal u → (label t).dtype ≡ (label u).dtype → (label t).len ≡ (label u).len → t ≡ u
      raw_unique (node w ws) (node h ts) (node g us) a b nt nu d n =
          let x = normal_foreign h.body h ts a.0.kept a.0.body nt.0 in
          let y = normal_foreign g.body g us b.0.kept b.0.body nu.0 in
          let body = a.0.body ∙ ap (λ z. B.foreign z) (same_kept w h g a.0 b.0) ∙ sym b.0.body in
          let stats = x.stats ∙ sym y.stats in
          let k = subst (λ (z : Typ). AreForeignAt z h.len ts) d x.children in
          let below = raw_unique_each ws ts us a.1 b.1 nt.1 nu.1 g.dtype g.len (subst (λ (z : ℕ). AreForeignAt g.dtype z ts) n k) y.children in
          λ i. node (record { dtype = d i; len = n i; stats = stats i; body = body i }) (below i)

      raw_unique_each : (ws : Wires) (ts us : Trees) → AreRaw ws ts → AreRaw ws us → EverywhereBelow IsNormalNode ts → EverywhereBelow IsNormalNode us
          → (d : Typ) (n : ℕ) → AreForeignAt d n ts → AreForeignAt d n us → ts ≡ us
      raw_unique_each end ts us a b nt nu d n x y = a ∙ sym b
      raw_unique_each (more w ws) end us a b nt nu d n x y = absurd a
      raw_unique_each (more w ws) (more t ts) end a b nt nu d n x y = absurd b
      raw_unique_each (more w ws) (more t ts) (more u us) a b nt nu d n x y =
          let p = raw_unique w t u a.0 b.0 nt.0 nu.0 (x.0.dtype ∙ sym y.0.dtype) (x.0.len ∙ sym y.0.len) in
          let q = raw_unique_each ws ts us a.1 b.1 nt.1 nu.1 d n x.1 y.1 in
          λ i. more (p i) (q i)

    -- Sound arrays that match the same wire trees are equal where they stand at equal places.
    abbrev AreUnique : Wires → Type 0
    AreUnique ws = (ts us : Trees) → AllMatch c s ws ts → AllMatch c s ws us → EverywhereBelow IsSoundNode ts → EverywhereBelow IsSoundNode us → places ts ≡ places us → ts ≡ us

    -- A plugin plans one list of places for a node's children, and builds one array of them.
    plugin_unique : (p : PluginMeaning) (w : WireHead) (ws : Wires) (t u : Tree) → IsPluginNode c s p w (count ws) t (λ vs. AllMatch c s ws vs) → IsPluginNode c s p w (count ws) u (λ vs. AllMatch c s ws vs)
        → (label t).dtype ≡ (label u).dtype → (label t).len ≡ (label u).len → AreUnique ws → t ≡ u
    plugin_unique p w ws t u a b d n kids =
        let id = same_id w.id a.id b.id a.id_is b.id_is in
        let head : head_at a.id w (count ws) (label t).dtype (label t).len ≡ head_at b.id w (count ws) (label u).dtype (label u).len = λ i. head_at (id i) w (count ws) (d i) (n i) in
        let places_are = same_Some (places a.children) (places b.children) (sym a.planned ∙ ap (λ (z : NodeHead). p.plan z s.ext) head ∙ b.planned) in
        let below = kids a.children b.children a.matched b.matched a.sound b.sound places_are in
        let buffers = all_present_inj a.buffers b.buffers (sym a.buffers_are ∙ b.buffers_are) in
        let built = same_Some a.built b.built (sym a.built_is ∙ (λ i. p.build (head i) (buffers i) (below i) s.ext) ∙ b.built_is) in
        let stats = law.stats.one_set (label u).dtype w.stats a.stats b.stats (subst (λ (z : Typ). c.ShowsStats z w.stats a.stats) d a.shown) b.shown in
        a.tree_is ∙ (λ i. with_stats (stats i) (built i)) ∙ sym b.tree_is

    node_unique : (r : Option Reader) (id : List ℕ) → s.reader id ≡ r → (w : WireHead) (ws : Wires) (h g : Head) (ts us : Trees)
        → IsNodeBy c s r w ws (node h ts) (λ vs. AllMatch c s ws vs) → IsNodeBy c s r w ws (node g us) (λ vs. AllMatch c s ws vs)
        → IsSound (node h ts) → IsSound (node g us) → h.dtype ≡ g.dtype → h.len ≡ g.len → AreUnique ws → node h ts ≡ node g us
    node_unique None id q w ws h g ts us a b sh sg d n kids = raw_unique (node w ws) (node h ts) (node g us) a.1 b.1 a.2 b.2 d n
    node_unique (Some (plugin p)) id q w ws h g ts us a b sh sg d n kids = plugin_unique p w ws (node h ts) (node g us) a b d n kids
    node_unique (Some (shipped e)) id q w ws h g ts us a b sh sg d n kids =
        encoded_unique e (law.messages id e (ap (λ z. encoding_by z) q)) law.stats w h g ts us (λ vs. AllMatch c s ws vs) a b sh.0 sg.0 d n
        (all_count ws ts a.children ∙ sym (all_count ws us b.children)) (λ x y l. kids ts us x y sh.1 sg.1 l)
    node_unique (Some revised) id q w ws h g ts us a b sh sg d n kids =
        let m = law.messages id E.primitive (ap (λ z. encoding_by z) q) in
        encoded_unique E.primitive m law.stats w h g ts us (λ vs. AllMatch c s ws vs) a.1 b.1 sh.0 sg.0 d n
        (all_count ws ts a.1.children ∙ sym (all_count ws us b.1.children)) (λ x y l. kids ts us x y sh.1 sg.1 l)

    mutual
      pub one_tree : (w : Wire) (t u : Tree) → Matches c s w t → Matches c s w u → IsSound t → IsSound u → (label t).dtype ≡ (label u).dtype → (label t).len ≡ (label u).len → t ≡ u
      one_tree (node w ws) (node h ts) (node g us) a b st su d n =
          let e = same_id w.id a.0 b.0 a.1 b.1 in
          let b2 = subst (λ z. IsNodeBy c s (s.reader z) w ws (node g us) (λ vs. AllMatch c s ws vs)) (sym e) b.2 in
          node_unique (s.reader a.0) a.0 refl w ws h g ts us a.2 b2 st su d n (λ xs ys x y sx sy l. one_tree_each ws xs ys x y sx sy l)

      pub one_tree_each : (ws : Wires) (ts us : Trees) → AllMatch c s ws ts → AllMatch c s ws us → EverywhereBelow IsSoundNode ts → EverywhereBelow IsSoundNode us → places ts ≡ places us → ts ≡ us
      one_tree_each end ts us a b st su l = a ∙ sym b
      one_tree_each (more w ws) end us a b st su l = absurd a
      one_tree_each (more w ws) (more t ts) end a b st su l = absurd b
      one_tree_each (more w ws) (more t ts) (more u us) a b st su l =
          let f = same_place t u ts us l in
          let x = one_tree w t u a.0 b.0 st.0 su.0 f.0 f.1 in
          let y = one_tree_each ws ts us a.1 b.1 st.1 su.1 f.2 in
          λ i. more (x i) (y i)

    -- ---- without plugins

    normal_by : (r : Option Reader) → IsShippedReader r → (w : WireHead) (ws : Wires) (h : Head) (ts : Trees) → IsNodeBy c s r w ws (node h ts) (λ vs. AllMatch c s ws vs)
        → (AllMatch c s ws ts → EverywhereBelow IsNormalNode ts) → IsNormal (node h ts)
    normal_by None ok w ws h ts m kids = m.2
    normal_by (Some (plugin p)) ok w ws h ts m kids = absurd ok
    normal_by (Some (shipped e)) ok w ws h ts m kids = (m.normal, kids m.children)
    normal_by (Some revised) ok w ws h ts m kids = (m.1.normal, kids m.1.children)

    mutual
      -- Where no plugin reads, an array that matches a wire tree is in the normal form throughout.
      pub matched_normal : IsShipped s → (w : Wire) (t : Tree) → Matches c s w t → IsNormal t
      matched_normal ok (node w ws) (node h ts) m = normal_by (s.reader m.0) (ok.reads m.0) w ws h ts m.2 (λ k. each_matched_normal ok ws ts k)

      each_matched_normal : IsShipped s → (ws : Wires) (ts : Trees) → AllMatch c s ws ts → EverywhereBelow IsNormalNode ts
      each_matched_normal ok end ts m = subst (λ (z : Trees). EverywhereBelow IsNormalNode z) (sym m) tt
      each_matched_normal ok (more w ws) end m = absurd m
      each_matched_normal ok (more w ws) (more t ts) m = (matched_normal ok w t m.0, each_matched_normal ok ws ts m.1)
