-- Where a wire tree decodes to an array, no cause of a refusal holds.
use Rattle.std.proofs.Common.{ℕ, zero, suc, ◌≡◌, inl, inr, ◌⊎◌, Bool, false, IsTrue, List, [], ◌∷◌, Option, Some, None, refl, sym, ap, ◌∙◌, subst, slice_get}
use Rattle.std.proofs.lemmas.Option.{same_Some, none-some}
use Rattle.vx_buffer.specs.Buffer.{Buffer}
use Rattle.vx_trees.specs.Rose.{Rose, Roses, node, end, more, label, below, count, roses_list}
use Rattle.vx_trees.specs.Everywhere.{Everywhere, EverywhereBelow}
use Rattle.vx_types.specs.Typ.{Typ}
use Rattle.vx_array_tree.specs.Body.{Body}
use Rattle.vx_array_tree.specs.Encoding.{Encoding}
use Rattle.vx_array_tree.specs.Encoding as E
use Rattle.vx_array_tree.specs.Metadata.{Metadata}
use Rattle.vx_array_tree.specs.Place.{Place, place}
use Rattle.vx_array_tree.specs.Sound.{IsSound, IsSoundNode, IsControlledBy, metadata_in}
use Rattle.vx_array_tree.specs.Table.{encoding_of, buffers_of, body_of, plan_of, Allows, IsShaped, Takes, Content}
use Rattle.vx_array_tree.specs.Tree.{Head, Tree, Trees, places, encodings, rows_below}
use Rattle.vx_array_tree.proofs.NodeLaws.{planned_places, own_body}
use Rattle.vx_wire_tree.specs.Causes.{LacksId, LacksBuffer, IsReadBy, IsOf, IsUnregistered, HasBadMetadata, MayStandFor, IsBroken, HasBadShape, HasChildren, HasForeignControl, HasBadContent, HasBadStats, RefusesHead, RefusesParts, IsRefusedByPlugin, Refusal, out_of_bounds, unknown_index, unknown_encoding, bad_metadata, bad_shape, foreign_control, bad_content, bad_stats, plugin_refused, RefusesTree}
use Rattle.vx_wire_tree.specs.Codec.{Codec, IsLawful}
use Rattle.vx_wire_tree.specs.Matches.{IsRawNode, IsRaw, AreRaw, IsEncodedNode, IsPluginNode, IsNodeBy, Matches, AllMatch}
use Rattle.vx_wire_tree.specs.Placed.{PlansByPlugin, IsPlannedBy, IsChild, Claim, HoldsAt, HoldsUnder}
use Rattle.vx_wire_tree.specs.Plugin.{NodeHead, head_at, PluginMeaning}
use Rattle.vx_wire_tree.specs.Reads.{IsMetadata}
use Rattle.vx_wire_tree.specs.Revised.{revised_holds}
use Rattle.vx_wire_tree.specs.Session.{SessionMeaning, Reader, shipped, revised, plugin, encoding_by, HoldsLength, IsShippedReader, IsShipped}
use Rattle.vx_wire_tree.specs.Steps.{PlansChildren}
use Rattle.vx_wire_tree.specs.DecodesTo.{DecodesTo}
use Rattle.vx_wire_tree.specs.Wire.{WireHead, Wire, Wires, all_present, IsWholeNode, IsWhole}
use Rattle.vx_wire_tree.proofs.Unique.{all_present_inj, all_count, one_metadata, one_tree_each}

-- ---- nothing is missing

all_there : (bs : List Buffer) (i : ℕ) → slice_get (all_present bs) i ≡ Some None → ⊥
all_there [] i e = absurd (cc)
all_there (b ∷ bs) zero e = absurd (cc)
all_there (b ∷ bs) (suc i) e = all_there bs i e

has_id : (w : Wire) → IsWholeNode (label w) (below w) → LacksId w → ⊥
has_id w x l = none-some _ (sym l ∙ x.id_is)

has_buffers : (w : Wire) → IsWholeNode (label w) (below w) → LacksBuffer w → ⊥
has_buffers w x l = all_there x.buffers l.0 (ap (λ bs. slice_get bs l.0) (sym x.buffers_are) ∙ l.1)

-- ---- facts of each node hold of the one on a path

everywhere_here : {L : Type 0} (F : L → Roses L → Type 0) (t : Rose L) → Everywhere F t → F (label t) (below t)
everywhere_here F (node l ts) a = a.0

everywhere_below : {L : Type 0} (F : L → Roses L → Type 0) (t : Rose L) → Everywhere F t → EverywhereBelow F (below t)
everywhere_below F (node l ts) a = a.1

below_get : {L : Type 0} (F : L → Roses L → Type 0) (ts : Roses L) (i : ℕ) (u : Rose L) → EverywhereBelow F ts → slice_get (roses_list ts) i ≡ Some u → Everywhere F u
below_get F end i u a e = absurd (cc)
below_get F (more t ts) zero u a e = let q : t ≡ u = cc in subst (λ z. Everywhere F z) q a.0
below_get F (more t ts) (suc i) u a e = below_get F ts i u a.1 e

never_under : {L : Type 0} (F : L → Roses L → Type 0) (P : Rose L → Type 0) → ((t : Rose L) → F (label t) (below t) → P t → ⊥)
    → (path : List ℕ) (t : Rose L) → Everywhere F t → HoldsUnder P path t → ⊥
never_under F P never [] t a h = never t (everywhere_here F t a) h
never_under F P never (i ∷ path) t a h = never_under F P never path h.0 (below_get F (below t) i h.0 (everywhere_below F t a) h.1) h.2

-- The items of a list of which nothing is missing may stand for it.
may_stand : (os : List (Option Buffer)) (bs : List Buffer) → os ≡ all_present bs → MayStandFor os bs
may_stand [] [] e = refl
may_stand [] (b ∷ bs) e = absurd (cc)
may_stand (o ∷ os) [] e = absurd (cc)
may_stand (Some x ∷ os) (b ∷ bs) e = let p : b ≡ x = cc in let q : os ≡ all_present bs = cc in (p, may_stand os bs q)
may_stand (None ∷ os) (b ∷ bs) e = let p : None ≡ Some b = cc in absurd (none-some b p)

closed_open : (b : Bool) → b ≡ false → IsTrue b → ⊥
closed_open b e t = false_true (subst (λ z. IsTrue z) e t)
  where
    false_true : IsTrue false → ⊥
    false_true x = absurd (cc)

module _ (c : Codec) (s : SessionMeaning) where
  -- ---- what is decoded, node by node

  -- A matched node is read by an encoding, which may read n rows, and the array is of that encoding.
  pub record IsEncodedBy (e : Encoding) (w : Wire) (t : Tree) : Type 0 where
    pub by : IsOf s w e
    pub held : HoldsLength (s.reader by.id) by.id (label t).len
    pub told : IsEncodedNode c s e (label w) t (λ us. AllMatch c s (below w) us)

  -- Or nothing reads it, and it is foreign with all below it.
  pub record IsForeignBy (w : Wire) (t : Tree) : Type 0 where
    pub by : IsReadBy s w None
    pub allowed : IsTrue s.ext.unknown
    pub raw : IsRaw w t

  -- Or a plugin reads it.
  pub record IsPluginBy (p : PluginMeaning) (w : Wire) (t : Tree) : Type 0 where
    pub by : IsReadBy s w (Some (plugin p))
    pub told : IsPluginNode c s p (label w) (count (below w)) t (λ us. AllMatch c s (below w) us)

  abbrev pub IsToldAs : Wire → Tree → Type 0
  IsToldAs w t = ((e : Encoding) × IsEncodedBy e w t) ⊎ IsForeignBy w t ⊎ ((p : PluginMeaning) × IsPluginBy p w t)

  told_by : (r : Option Reader) (id : List ℕ) (w : WireHead) (ws : Wires) (t : Tree) → w.id ≡ Some id → s.reader id ≡ r
      → IsNodeBy c s r w ws t (λ us. AllMatch c s ws us) → IsToldAs (node w ws) t
  told_by None id w ws t i r m = inr (inl (record { by = record { id = id; id_is = i; reader_is = r }; allowed = m.0; raw = m.1 }))
  told_by (Some (plugin p)) id w ws t i r m = inr (inr (p, record { by = record { id = id; id_is = i; reader_is = r }; told = m }))
  told_by (Some (shipped e)) id w ws t i r m =
      let held : HoldsLength (s.reader id) id (label t).len = subst (λ z. HoldsLength z id (label t).len) (sym r) tt in
      inl (e, record { by = record { id = id; id_is = i; encoding_is = ap (λ z. encoding_by z) r }; held = held; told = m })
  told_by (Some revised) id w ws t i r m =
      let same : m.0.id ≡ id = same_Some m.0.id id (sym m.0.id_is ∙ i) in
      let holds : IsTrue (revised_holds id (label t).len) = subst (λ (z : List ℕ). IsTrue (revised_holds z (label t).len)) same m.0.holds in
      let held : HoldsLength (s.reader id) id (label t).len = subst (λ z. HoldsLength z id (label t).len) (sym r) holds in
      inl (E.primitive, record { by = record { id = id; id_is = i; encoding_is = ap (λ z. encoding_by z) r }; held = held; told = m.1 })

  -- Two readings of one node are by one encoding.
  same_reader : (o : Option (List ℕ)) (i j : List ℕ) (r q : Option Reader) → o ≡ Some i → o ≡ Some j → s.reader i ≡ r → s.reader j ≡ q → r ≡ q
  same_reader o i j r q a b x y = cc

  same_encoding : (w : Wire) (e f : Encoding) → IsOf s w e → IsOf s w f → e ≡ f
  same_encoding w e f a b =
      let same : a.id ≡ b.id = same_Some a.id b.id (sym a.id_is ∙ b.id_is) in
      same_Some e f (sym a.encoding_is ∙ ap (λ z. encoding_by (s.reader z)) same ∙ b.encoding_is)

  -- Nothing is missing in a wire tree that matches a foreign array.
  raw_node : (w : Wire) (t : Tree) → IsRawNode (label w) (label t) → IsWholeNode (label w) (below w)
  raw_node w t x = record { id = x.kept.id; id_is = x.id; buffers = x.kept.buffers; buffers_are = x.buffers }

  mutual
    pub raw_whole : (w : Wire) (t : Tree) → IsRaw w t → IsWhole w
    raw_whole (node w ws) t r = (raw_node (node w ws) t r.0, raw_whole_each ws (below t) r.1)

    raw_whole_each : (ws : Wires) (ts : Trees) → AreRaw ws ts → EverywhereBelow IsWholeNode ws
    raw_whole_each end ts r = tt
    raw_whole_each (more w ws) end r = absurd r
    raw_whole_each (more w ws) (more t ts) r = (raw_whole w t r.0, raw_whole_each ws ts r.1)

  -- Nothing is missing in a wire tree that matches an array, whatever reads its nodes.
  whole_by : (r : Option Reader) (id : List ℕ) (w : WireHead) (ws : Wires) (t : Tree) → w.id ≡ Some id → IsNodeBy c s r w ws t (λ us. AllMatch c s ws us)
      → ((us : Trees) → AllMatch c s ws us → EverywhereBelow IsWholeNode ws) → IsWhole (node w ws)
  whole_by None id w ws t i m kids = raw_whole (node w ws) t m.1
  whole_by (Some (shipped e)) id w ws t i m kids = (record { id = id; id_is = i; buffers = buffers_of (label t).body; buffers_are = m.buffers }, kids (below t) m.children)
  whole_by (Some revised) id w ws t i m kids = (record { id = id; id_is = i; buffers = buffers_of (label t).body; buffers_are = m.1.buffers }, kids (below t) m.1.children)
  whole_by (Some (plugin p)) id w ws t i m kids = (record { id = id; id_is = i; buffers = m.buffers; buffers_are = m.buffers_are }, kids m.children m.matched)

  mutual
    pub whole : (w : Wire) (t : Tree) → Matches c s w t → IsWhole w
    whole (node w ws) t m = whole_by (s.reader m.0) m.0 w ws t m.1 m.2 (λ us k. whole_each ws us k)

    whole_each : (ws : Wires) (ts : Trees) → AllMatch c s ws ts → EverywhereBelow IsWholeNode ws
    whole_each end ts m = tt
    whole_each (more w ws) end m = absurd m
    whole_each (more w ws) (more t ts) m = (whole w t m.0, whole_each ws ts m.1)

  -- A node that nothing reads, or that a plugin reads, is not read by an encoding.
  not_both : (w : Wire) (r : Option Reader) (e : Encoding) → encoding_by r ≡ None → IsReadBy s w r → IsOf s w e → ⊥
  not_both w r e x a b =
      let same : b.id ≡ a.id = same_Some b.id a.id (sym b.id_is ∙ a.id_is) in
      none-some _ (sym x ∙ ap (λ z. encoding_by z) (sym a.reader_is) ∙ ap (λ z. encoding_by (s.reader z)) (sym same) ∙ b.encoding_is)

  pub node_told : (w : Wire) (t : Tree) → Matches c s w t → IsToldAs w t
  node_told (node w ws) t m = told_by (s.reader m.0) m.0 w ws t m.1 refl m.2

  -- The array of a matched node that is read by an encoding is of it.
  pub encoded_told : (w : Wire) (t : Tree) (e : Encoding) → Matches c s w t → IsOf s w e → IsEncodedBy e w t
  encoded_told w t e m b = go (node_told w t m)
    where
      go : IsToldAs w t → IsEncodedBy e w t
      go (inl x) = subst (λ (z : Encoding). IsEncodedBy z w t) (same_encoding w x.0 e x.1.by b) x.1
      go (inr (inl f)) = absurd (not_both w None e refl f.by b)
      go (inr (inr p)) = absurd (not_both w (Some (plugin p.0)) e refl p.1.by b)

  -- The array of a matched node that a plugin reads is built by it.
  plugin_told : (w : Wire) (t : Tree) (p : PluginMeaning) → Matches c s w t → IsReadBy s w (Some (plugin p)) → IsPluginNode c s p (label w) (count (below w)) t (λ us. AllMatch c s (below w) us)
  plugin_told (node w ws) t p m b =
      let same : m.0 ≡ b.id = same_Some m.0 b.id (sym m.1 ∙ b.id_is) in
      subst (λ r. IsNodeBy c s r w ws t (λ us. AllMatch c s ws us)) (ap (λ z. s.reader z) same ∙ b.reader_is) m.2

  -- A child of a matched node, with the array that it matches.
  record ChildTold (ts : Trees) (i : ℕ) (u : Wire) : Type 0 where
    told : Tree
    matched : Matches c s u told
    child : slice_get (roses_list ts) i ≡ Some told
    place_is : slice_get (places ts) i ≡ Some (place (label told).dtype (label told).len)

  child_told : (ws : Wires) (ts : Trees) (i : ℕ) (u : Wire) → AllMatch c s ws ts → slice_get (roses_list ws) i ≡ Some u → ChildTold ts i u
  child_told end ts i u m e = absurd (cc)
  child_told (more w ws) end i u m e = absurd m
  child_told (more w ws) (more t ts) zero u m e = let q : w ≡ u = cc in record { told = t; matched = subst (λ z. Matches c s z t) q m.0; child = refl; place_is = refl }
  child_told (more w ws) (more t ts) (suc i) u m e = let x = child_told ws ts i u m.1 e in record { told = x.told; matched = x.matched; child = x.child; place_is = x.place_is }

  -- The child at an index, of several that match sound arrays at these places, decodes to an array at its own.
  child_of : (ws : Wires) (ts : Trees) (ps : List Place) (i : ℕ) (v : Wire) (p : Place) → AllMatch c s ws ts → EverywhereBelow IsSoundNode ts → ps ≡ places ts
      → slice_get (roses_list ws) i ≡ Some v → slice_get ps i ≡ Some p → (u : Tree) × DecodesTo c s v p.dtype p.len u
  child_of ws ts ps i v p m y l child at =
      let z = child_told ws ts i v m child in
      let q : place (label z.told).dtype (label z.told).len ≡ p = same_Some _ p (sym z.place_is ∙ ap (λ qs. slice_get qs i) (sym l) ∙ at) in
      (z.told, record { matched = z.matched; dtype = ap (λ a. a.dtype) q; len = ap (λ a. a.len) q; sound = below_get IsSoundNode ts i z.told y z.child })

  module _ (law : IsLawful c s) where
    -- ---- what a matched node is read as

    value_is : (e : Encoding) (w : Wire) (h : Head) (ts : Trees) (v : Metadata) → IsEncodedBy e w (node h ts) → IsMetadata c s.ext e h.dtype (label w).metadata v → v ≡ metadata_in h ts
    value_is e w h ts v x m = one_metadata c s e (law.messages x.by.id e x.by.encoding_is) h.dtype h.dtype (label w).metadata v (metadata_in h ts) refl m x.told.metadata

    plan_is : (e : Encoding) (w : Wire) (h : Head) (ts : Trees) (v : Metadata) → IsEncodedBy e w (node h ts) → IsSoundNode h ts → IsMetadata c s.ext e h.dtype (label w).metadata v
        → plan_of e h.dtype h.len v (count (below w)) ≡ Some (places ts)
    plan_is e w h ts v x y m =
        let q = value_is e w h ts v x m in
        let k = all_count c s (below w) ts x.told.children in
        (λ i. plan_of (sym x.told.encoding i) h.dtype h.len (q i) (sym k i)) ∙ planned_places h ts y x.told.normal

    -- ---- placed nodes decode to arrays at their places

    -- What an encoding plans for a node that it reads.
    planned_as : (r : Option Reader) (e : Encoding) (w : Wire) (d : Typ) (n : ℕ) (ps : List Place) → encoding_by r ≡ Some e → IsPlannedBy c s r w d n ps → PlansChildren c s.ext e d n (label w).metadata (count (below w)) ps
    planned_as None e w d n ps x p = absurd p
    planned_as (Some (plugin q)) e w d n ps x p = absurd (none-some e x)
    planned_as (Some (shipped f)) e w d n ps x p = subst (λ (g : Encoding). PlansChildren c s.ext g d n (label w).metadata (count (below w)) ps) (same_Some f e x) p
    planned_as (Some revised) e w d n ps x p = subst (λ (g : Encoding). PlansChildren c s.ext g d n (label w).metadata (count (below w)) ps) (same_Some E.primitive e x) p

    reader_at : (w : Wire) (i j : List ℕ) → (label w).id ≡ Some i → (label w).id ≡ Some j → s.reader i ≡ s.reader j
    reader_at w i j a b = ap (λ z. s.reader z) (same_Some i j (sym a ∙ b))

    encoded_child : (e : Encoding) (w : Wire) (h : Head) (ts : Trees) (i : ℕ) (v : Wire) (p : Place) → IsEncodedBy e w (node h ts) → IsSound (node h ts) → IsChild c s w h.dtype h.len i v p → (u : Tree) × DecodesTo c s v p.dtype p.len u
    encoded_child e w h ts i v p x y k =
        let by = ap (λ z. encoding_by z) (reader_at w k.planned.id x.by.id k.planned.id_is x.by.id_is) ∙ x.by.encoding_is in
        let z = planned_as (s.reader k.planned.id) e w h.dtype h.len k.places by k.planned.planned in
        let l = same_Some k.places (places ts) (sym z.plan ∙ plan_is e w h ts z.value x y.0 z.metadata) in
        child_of (below w) ts k.places i v p x.told.children y.1 l k.child k.place

    plugin_child : (q : PluginMeaning) (w : Wire) (t : Tree) (i : ℕ) (v : Wire) (p : Place) → IsPluginBy q w t → IsChild c s w (label t).dtype (label t).len i v p → (u : Tree) × DecodesTo c s v p.dtype p.len u
    plugin_child q w t i v p x k =
        let r : s.reader k.planned.id ≡ Some (plugin q) = reader_at w k.planned.id x.by.id k.planned.id_is x.by.id_is ∙ x.by.reader_is in
        let z : PlansByPlugin s q w (label t).dtype (label t).len k.places = subst (λ o. IsPlannedBy c s o w (label t).dtype (label t).len k.places) r k.planned.planned in
        let id : z.id ≡ x.told.id = same_Some z.id x.told.id (sym z.id_is ∙ x.told.id_is) in
        let l = same_Some k.places (places x.told.children) (sym z.plan ∙ (λ j. q.plan (head_at (id j) (label w) (count (below w)) (label t).dtype (label t).len) s.ext) ∙ x.told.planned) in
        child_of (below w) x.told.children k.places i v p x.told.matched x.told.sound l k.child k.place

    -- What nothing reads has no placed children.
    foreign_child : (w : Wire) (t : Tree) (d : Typ) (n : ℕ) (i : ℕ) (v : Wire) (p : Place) → IsForeignBy w t → IsChild c s w d n i v p → ⊥
    foreign_child w t d n i v p x k =
        subst (λ o. IsPlannedBy c s o w d n k.places) (reader_at w k.planned.id x.by.id k.planned.id_is x.by.id_is ∙ x.by.reader_is) k.planned.planned

    child_at : (w : Wire) (t : Tree) (i : ℕ) (v : Wire) (p : Place) → IsToldAs w t → IsSound t → IsChild c s w (label t).dtype (label t).len i v p → (u : Tree) × DecodesTo c s v p.dtype p.len u
    child_at w (node h ts) i v p (inl x) y k = encoded_child x.0 w h ts i v p x.1 y k
    child_at w t i v p (inr (inl x)) y k = absurd (foreign_child w t (label t).dtype (label t).len i v p x k)
    child_at w t i v p (inr (inr x)) y k = plugin_child x.0 w t i v p x.1 k

    -- A claim about an array's own type and length holds at those that were asked for.
    at_asked : (P : Claim) (w : Wire) (d : Typ) (n : ℕ) (t : Tree) → DecodesTo c s w d n t → P w d n → P w (label t).dtype (label t).len
    at_asked P w d n t x k = subst (λ z. P w z (label t).len) (sym x.dtype) (subst (λ z. P w d z) (sym x.len) k)

    -- A placed child of a node that decodes to an array decodes to one itself.
    child_decodes : (w : Wire) (d : Typ) (n : ℕ) (t : Tree) (i : ℕ) (v : Wire) (p : Place) → DecodesTo c s w d n t → IsChild c s w d n i v p → (u : Tree) × DecodesTo c s v p.dtype p.len u
    child_decodes w d n t i v p x k = child_at w t i v p (node_told w t x.matched) x.sound (at_asked (λ z e m. IsChild c s z e m i v p) w d n t x k)

    -- A claim that never holds of a node that decodes to an array does not hold of a placed node below it.
    never_somewhere : (P : Claim) → ((w : Wire) (d : Typ) (n : ℕ) (t : Tree) → DecodesTo c s w d n t → P w d n → ⊥)
        → (path : List ℕ) (w : Wire) (d : Typ) (n : ℕ) (t : Tree) → DecodesTo c s w d n t → HoldsAt c s P path w d n → ⊥
    never_somewhere P never [] w d n t x h = never w d n t x h
    never_somewhere P never (i ∷ path) w d n t x h =
        let y = child_decodes w d n t i h.0 h.1 x h.2 in
        never_somewhere P never path h.0 h.1.dtype h.1.len y.0 y.1 h.3

    -- ---- the causes, one by one

    not_unregistered : (w : Wire) (d : Typ) (n : ℕ) (t : Tree) → DecodesTo c s w d n t → IsUnregistered s w d n → ⊥
    not_unregistered w d n t x b = go (node_told w t x.matched)
      where
        go : IsToldAs w t → ⊥
        go (inl y) = not_both w None y.0 refl b.unregistered y.1.by
        go (inr (inl f)) = closed_open s.ext.unknown b.closed f.allowed
        go (inr (inr p)) = none-some _ (same_reader (label w).id b.unregistered.id p.1.by.id None (Some (plugin p.0)) b.unregistered.id_is p.1.by.id_is b.unregistered.reader_is p.1.by.reader_is)

    metadata_told : (w : Wire) (d : Typ) (n : ℕ) (t : Tree) → DecodesTo c s w d n t → HasBadMetadata c s w d n → ⊥
    metadata_told w d n t x y =
        let z = encoded_told w t y.encoding x.matched y.by in
        y.none (metadata_in (label t) (below t)) (subst (λ k. IsMetadata c s.ext y.encoding k (label w).metadata (metadata_in (label t) (below t))) x.dtype z.told.metadata)

    stats_told : (w : Wire) (d : Typ) (n : ℕ) (t : Tree) → DecodesTo c s w d n t → HasBadStats c s w d n → ⊥
    stats_told w d n t x y = go (node_told w t x.matched)
      where
        go : IsToldAs w t → ⊥
        go (inl z) = y.none (label t).stats (subst (λ (k : Typ). c.ShowsStats k (label w).stats (label t).stats) x.dtype z.1.told.stats)
        go (inr (inl f)) = none-some _ (same_reader (label w).id f.by.id y.by.id None (Some y.reader) f.by.id_is y.by.id_is f.by.reader_is y.by.reader_is)
        go (inr (inr p)) = y.none p.1.told.stats (subst (λ (k : Typ). c.ShowsStats k (label w).stats p.1.told.stats) x.dtype p.1.told.shown)

    -- The parts of a matched node are of its encoding's shape.
    shaped_told : (e : Encoding) (w : Wire) (h : Head) (ts : Trees) (v : Metadata) → IsEncodedBy e w (node h ts) → IsSoundNode h ts → v ≡ metadata_in h ts
        → IsShaped e h.dtype h.len v (buffers_of h.body) (count (below w))
    shaped_told e w h ts v x y q =
        let k = all_count c s (below w) ts x.told.children in
        record {
          body = h.body;
          body_is = (λ i. body_of (sym x.told.encoding i) (q i) (buffers_of h.body)) ∙ own_body h ts x.told.normal;
          holds = y.holds;
          allows =
              subst (λ (f : Encoding). Allows f h.dtype v (count (below w))) x.told.encoding
              (subst (λ (z : Metadata). Allows (encoding_of h.body) h.dtype z (count (below w))) (sym q)
              (subst (λ (z : ℕ). Allows (encoding_of h.body) h.dtype (metadata_in h ts) z) k y.allows));
        }

    -- Children that match sound arrays at the planned places match the array's own children.
    children_told : (w : Wire) (ts us : Trees) (ps : List Place) → AllMatch c s (below w) ts → EverywhereBelow IsSoundNode ts → HasChildren c s w ps us → ps ≡ places ts → us ≡ ts
    children_told w ts us ps m y k q = one_tree_each c s law (below w) us ts k.matched m k.sound y (k.placed ∙ q)

    broken_told : (e : Encoding) (v : Metadata) (w : Wire) (h : Head) (ts : Trees) → IsEncodedBy e w (node h ts) → IsSound (node h ts) → IsMetadata c s.ext e h.dtype (label w).metadata v
        → IsBroken c s e v w h.dtype h.len → ⊥
    broken_told e v w h ts x y m (inl k) = none-some _ (sym k ∙ plan_is e w h ts v x y.0 m)
    broken_told e v w h ts x y m (inr (inl k)) =
        k (buffers_of h.body) (may_stand (label w).buffers (buffers_of h.body) x.told.buffers) (shaped_told e w h ts v x y.0 (value_is e w h ts v x m))
    broken_told e v w h ts x y m (inr (inr (inr k))) =
        let same : x.by.id ≡ k.by.id = same_Some x.by.id k.by.id (sym x.by.id_is ∙ k.by.id_is) in
        let held : HoldsLength (s.reader k.by.id) k.by.id h.len = subst (λ z. HoldsLength (s.reader z) z h.len) same x.held in
        let holds : IsTrue (revised_holds k.by.id h.len) = subst (λ z. HoldsLength z k.by.id h.len) k.by.reader_is held in
        closed_open (revised_holds k.by.id h.len) k.past holds
    broken_told e v w h ts x y m (inr (inr (inl k))) =
        let p = same_Some k.places_are (places ts) (sym k.plan ∙ plan_is e w h ts v x y.0 m) in
        let q = children_told w ts k.children k.places_are x.told.children y.1 k.matched p in
        k.untaken (subst (λ (us : Trees). Takes e (encodings us)) (sym q) (subst (λ (f : Encoding). Takes f (encodings ts)) x.told.encoding y.0.takes))

    shape_at : (w : Wire) (h : Head) (ts : Trees) → Matches c s w (node h ts) → IsSound (node h ts) → HasBadShape c s w h.dtype h.len → ⊥
    shape_at w h ts m y k = broken_told k.encoding k.value w h ts (encoded_told w (node h ts) k.encoding m k.by) y k.metadata k.broken

    content_at : (w : Wire) (h : Head) (ts : Trees) → Matches c s w (node h ts) → IsSound (node h ts) → HasBadContent c s w h.dtype h.len → ⊥
    content_at w h ts m y k =
        let x = encoded_told w (node h ts) k.encoding m k.by in
        let q = value_is k.encoding w h ts k.value x k.metadata in
        let p = same_Some k.places_are (places ts) (sym k.plan ∙ plan_is k.encoding w h ts k.value x y.0 k.metadata) in
        let r = children_told w ts k.children k.places_are x.told.children y.1 k.matched p in
        let bs : k.buffers ≡ buffers_of h.body = all_present_inj k.buffers (buffers_of h.body) (sym k.buffers_are ∙ x.told.buffers) in
        let b : k.shaped.body ≡ h.body = same_Some k.shaped.body h.body (sym k.shaped.body_is ∙ (λ i. body_of (sym x.told.encoding i) (q i) (bs i)) ∙ own_body h ts x.told.normal) in
        k.broken (subst (λ (z : Body). Content h.dtype h.len z (rows_below k.children)) (sym b) (subst (λ (z : Trees). Content h.dtype h.len h.body (rows_below z)) (sym r) y.0.content))

    control_at : (w : Wire) (h : Head) (ts : Trees) → Matches c s w (node h ts) → IsSound (node h ts) → HasForeignControl c s w h.dtype h.len → ⊥
    control_at w h ts m y k =
        let x = encoded_told w (node h ts) k.encoding m k.by in
        let p = same_Some k.places_are (places ts) (sym k.plan ∙ plan_is k.encoding w h ts k.value x y.0 k.metadata) in
        let r = children_told w ts k.children k.places_are x.told.children y.1 k.matched p in
        k.foreign (subst (λ (z : Trees). IsControlledBy k.encoding h.dtype z) (sym r) (subst (λ (f : Encoding). IsControlledBy f h.dtype ts) x.told.encoding y.0.controlled))

    -- The plugin that read a node refuses neither its head nor its parts.
    head_accepted : (p : PluginMeaning) (w : Wire) (t : Tree) → IsPluginNode c s p (label w) (count (below w)) t (λ us. AllMatch c s (below w) us) → RefusesHead s p w (label t).dtype (label t).len → ⊥
    head_accepted p w t x k =
        let id : k.id ≡ x.id = same_Some k.id x.id (sym k.id_is ∙ x.id_is) in
        none-some _ (sym k.none ∙ (λ i. p.plan (head_at (id i) (label w) (count (below w)) (label t).dtype (label t).len) s.ext) ∙ x.planned)

    parts_accepted : (p : PluginMeaning) (w : Wire) (t : Tree) → IsPluginNode c s p (label w) (count (below w)) t (λ us. AllMatch c s (below w) us) → RefusesParts c s p w (label t).dtype (label t).len → ⊥
    parts_accepted p w t x k =
        let id : k.id ≡ x.id = same_Some k.id x.id (sym k.id_is ∙ x.id_is) in
        let head : head_at k.id (label w) (count (below w)) (label t).dtype (label t).len ≡ head_at x.id (label w) (count (below w)) (label t).dtype (label t).len = λ i. head_at (id i) (label w) (count (below w)) (label t).dtype (label t).len in
        let l = same_Some k.places_are (places x.children) (sym k.plan ∙ ap (λ (z : NodeHead). p.plan z s.ext) head ∙ x.planned) in
        let below_are = children_told w x.children k.children k.places_are x.matched x.sound k.matched l in
        let bs : k.buffers ≡ x.buffers = all_present_inj k.buffers x.buffers (sym k.buffers_are ∙ x.buffers_are) in
        none-some _ (sym k.none ∙ (λ i. p.build (head i) (bs i) (below_are i) s.ext) ∙ x.built_is)

    plugin_at : (w : Wire) (h : Head) (ts : Trees) → Matches c s w (node h ts) → IsSound (node h ts) → IsRefusedByPlugin c s w h.dtype h.len → ⊥
    plugin_at w h ts m y k = go k.refuses
      where
        go : RefusesHead s k.means w h.dtype h.len ⊎ RefusesParts c s k.means w h.dtype h.len → ⊥
        go (inl r) = head_accepted k.means w (node h ts) (plugin_told w (node h ts) k.means m k.by) r
        go (inr r) = parts_accepted k.means w (node h ts) (plugin_told w (node h ts) k.means m k.by) r

    -- ---- all causes

    at_own : (P : Claim) → ((w : Wire) (h : Head) (ts : Trees) → Matches c s w (node h ts) → IsSound (node h ts) → P w h.dtype h.len → ⊥)
        → (w : Wire) (d : Typ) (n : ℕ) (t : Tree) → DecodesTo c s w d n t → P w d n → ⊥
    at_own P never w d n (node h ts) x k = never w h ts x.matched x.sound (at_asked P w d n (node h ts) x k)

    pub never_refused : (r : Refusal) (w : Wire) (d : Typ) (n : ℕ) (t : Tree) → DecodesTo c s w d n t → RefusesTree r c s w d n → ⊥
    never_refused out_of_bounds w d n t x k = never_under IsWholeNode LacksBuffer has_buffers k.0 w (whole w t x.matched) k.1
    never_refused unknown_index w d n t x k = never_under IsWholeNode LacksId has_id k.0 w (whole w t x.matched) k.1
    never_refused unknown_encoding w d n t x k = never_somewhere (IsUnregistered s) not_unregistered k.0 w d n t x k.1
    never_refused bad_metadata w d n t x k = never_somewhere (HasBadMetadata c s) metadata_told k.0 w d n t x k.1
    never_refused bad_shape w d n t x k = never_somewhere (HasBadShape c s) (at_own (HasBadShape c s) shape_at) k.0 w d n t x k.1
    never_refused foreign_control w d n t x k = never_somewhere (HasForeignControl c s) (at_own (HasForeignControl c s) control_at) k.0 w d n t x k.1
    never_refused bad_content w d n t x k = never_somewhere (HasBadContent c s) (at_own (HasBadContent c s) content_at) k.0 w d n t x k.1
    never_refused bad_stats w d n t x k = never_somewhere (HasBadStats c s) stats_told k.0 w d n t x k.1
    never_refused plugin_refused w d n t x k = never_somewhere (IsRefusedByPlugin c s) (at_own (IsRefusedByPlugin c s) plugin_at) k.0 w d n t x k.1

-- ---- without plugins

-- What holds on a path holds of the node at its end, at its place.
held_there : (c : Codec) (s : SessionMeaning) (P : Claim) (path : List ℕ) (w : Wire) (d : Typ) (n : ℕ) → HoldsAt c s P path w d n → (v : Wire) × (e : Typ) × (m : ℕ) × P v e m
held_there c s P [] w d n h = (w, d, n, h)
held_there c s P (i ∷ path) w d n h = held_there c s P path h.0 h.1.dtype h.1.len h.3

-- Where no plugin reads, none refuses.
pub no_plugin_refuses : (c : Codec) (s : SessionMeaning) → IsShipped s → (w : Wire) (d : Typ) (n : ℕ) → RefusesTree plugin_refused c s w d n → ⊥
no_plugin_refuses c s ok w d n k =
    let x = held_there c s (IsRefusedByPlugin c s) k.0 w d n k.1 in
    subst (λ r. IsShippedReader r) x.3.by.reader_is (ok.reads x.3.by.id)
