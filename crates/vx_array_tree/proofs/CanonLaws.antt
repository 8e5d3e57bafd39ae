-- An array that is read back is sound and normal, has the rows of the array that was written, and is read back
-- as itself.
use Rattle.std.proofs.Common.{ℕ, zero, suc, ◌≡◌, ◌⊎◌, inl, inr, List, [], ◌∷◌, Some, refl, sym, ap, ◌∙◌, subst, Bool, IsTrue, slice_get, replicate}
use Rattle.std.proofs.lemmas.Option.{same_Some}
use Rattle.vx_trees.specs.Rose.{node, end, more, label, count, roses_list}
use Rattle.vx_trees.specs.Everywhere.{EverywhereBelow}
use Rattle.vx_scalars.specs.Stats.{FitStats}
use Rattle.vx_scalars.specs.WrittenStats.{written_stats}
use Rattle.vx_scalars.proofs.LawsStats.{none_fit, written_fit, written_twice, fit_under}
use Rattle.vx_types.specs.Kind as K
use Rattle.vx_types.specs.Typ.{Typ}
use Rattle.vx_types.specs.Words.{with_nullability}
use Rattle.vx_array_tree.specs.Body.{Body}
use Rattle.vx_array_tree.specs.Body as B
use Rattle.vx_array_tree.specs.Canon.{types_in, planned_types, child_types, Spelling, as_foreign, all_foreign, canon_head, canon_at, canon_all, canon, written_head, stats_written, each_stats_written, IsKeptNode, KeepsStats}
use Rattle.vx_array_tree.specs.Encoding.{Encoding}
use Rattle.vx_array_tree.specs.Encodings.Dicts as Dicts
use Rattle.vx_array_tree.specs.Encodings.Foreigns as Foreigns
use Rattle.vx_array_tree.specs.Metadata.{Metadata}
use Rattle.vx_array_tree.specs.Normal.{IsNormal, IsNormalNode, IsNormalBy, IsNormalForeign, IsForeignAt, AreForeignAt}
use Rattle.vx_array_tree.specs.Place.{Place, place}
use Rattle.vx_array_tree.specs.Rows.{Rows}
use Rattle.vx_array_tree.specs.Sound.{IsSound, IsSoundNode, IsNativeNode, HasNoForeign, HasNativeEntries, IsControlled, metadata_in}
use Rattle.vx_array_tree.specs.Table.{encoding_of, metadata_of, plan_of, lifted, cleared, IsFair, Allows, Takes, Holds, Content, is_control, IsNative, IsNormalBody, node_rows}
use Rattle.vx_array_tree.specs.Tree.{Head, Tree, Trees, places, encodings, rows_of, rows_below, untold}
use Rattle.vx_array_tree.proofs.Bodies.{native_or, foreign_is, normal_by, cleared_native, cleared_encoding, normal_cleared}
use Rattle.vx_array_tree.proofs.CanonPlaces.{known, unknown, known_node, foreign_node, Planned, planned_at, types_at, kids_metadata, kids_places, canon_count, canon_encodings}
use Rattle.vx_array_tree.proofs.NodeLaws.{planned_places}
use Rattle.vx_array_tree.proofs.Plans.{exactly_is}
use Rattle.vx_array_tree.proofs.LawsOfPlaces.{places_count}
use Rattle.vx_array_tree.proofs.Retyped.{IsRetyped, AreRetyped, retyped_same, own_places}
use Rattle.vx_array_tree.proofs.RetypedParts.{rows_retyped, holds_retyped, content_retyped, allows_retyped, same_control}

-- What is read back of a node, by what it is: of a known encoding, or foreign.
module _ (sp : Spelling) (P : Tree → Type 0) (d : Typ) (h : Head) (ts : Trees) where
  pub by_node : (IsNative h.body → P (known_node sp d h ts)) → ((x : Foreigns.Data) → h.body ≡ B.foreign x → P (foreign_node sp d h ts)) → P (canon_at sp d (node h ts))
  by_node f g = go (native_or h.body)
    where
      go : IsNative h.body ⊎ ((x : Foreigns.Data) × (h.body ≡ B.foreign x)) → P (canon_at sp d (node h ts))
      go (inl k) = subst P (sym (known h.body (known_node sp d h ts) (foreign_node sp d h ts) k)) (f k)
      go (inr x) = subst P (sym (unknown h.body (known_node sp d h ts) (foreign_node sp d h ts) x.0 x.1)) (g x.0 x.1)

-- ---- foreign nodes

foreign_rows : (d : Typ) (h : Head) (ts : Trees) (x : Foreigns.Data) → h.body ≡ B.foreign x → Foreigns.rows h.len ≡ rows_of (node h ts)
foreign_rows d h ts x e = ap (λ b. node_rows h.dtype h.len b (places ts) (rows_below ts)) (sym e)

module _ (sp : Spelling) where
  foreign_labels : (d : Typ) (n : ℕ) (ts : Trees) → AreForeignAt d n (all_foreign sp d n ts)
  foreign_labels d n end = tt
  foreign_labels d n (more (node h us) ts) = (record { encoding = refl; dtype = refl; len = refl }, foreign_labels d n ts)

  mutual
    -- An opaque array is normal and sound.
    pub foreign_normal : (d : Typ) (n : ℕ) (t : Tree) → IsNormal (as_foreign sp d n t)
    foreign_normal d n (node h ts) = (record { stats = refl; children = foreign_labels d n ts }, all_foreign_normal d n ts)

    pub all_foreign_normal : (d : Typ) (n : ℕ) (ts : Trees) → EverywhereBelow IsNormalNode (all_foreign sp d n ts)
    all_foreign_normal d n end = tt
    all_foreign_normal d n (more t ts) = (foreign_normal d n t, all_foreign_normal d n ts)

  foreign_node_sound : (d : Typ) (n : ℕ) (x : Foreigns.Data) (us : Trees) → IsSoundNode (untold d n (B.foreign x)) us
  foreign_node_sound d n x us = record {
    fair = tt;
    planned = ap (λ k. Some (replicate k (place d n))) (sym (places_count us));
    allows = tt;
    takes = tt;
    holds = tt;
    controlled = record { controls = λ i t e c. absurd (cc); entries = tt };
    content = tt;
    stats = none_fit d;
  }

  mutual
    pub foreign_sound : (d : Typ) (n : ℕ) (t : Tree) → IsSound (as_foreign sp d n t)
    foreign_sound d n (node h ts) = (foreign_node_sound d n (sp h ts) (all_foreign sp d n ts), all_foreign_sound d n ts)

    pub all_foreign_sound : (d : Typ) (n : ℕ) (ts : Trees) → EverywhereBelow IsSoundNode (all_foreign sp d n ts)
    all_foreign_sound d n end = tt
    all_foreign_sound d n (more t ts) = (foreign_sound d n t, all_foreign_sound d n ts)

  mutual
    -- Nothing is told of its rows.
    pub foreign_keeps : (d : Typ) (n : ℕ) (t : Tree) → KeepsStats (as_foreign sp d n t)
    foreign_keeps d n (node h ts) = (refl, all_foreign_keep d n ts)

    pub all_foreign_keep : (d : Typ) (n : ℕ) (ts : Trees) → EverywhereBelow IsKeptNode (all_foreign sp d n ts)
    all_foreign_keep d n end = tt
    all_foreign_keep d n (more t ts) = (foreign_keeps d n t, all_foreign_keep d n ts)

-- ---- rows

-- A sound node that is read back has its rows, if its children have theirs.
node_keeps : (sp : Spelling) (d : Typ) (h : Head) (ts : Trees) (r : IsRetyped h.dtype d) (p : Planned d h ts) → rows_below (canon_all sp (types_in p.at) ts) ≡ rows_below ts
    → rows_of (known_node sp d h ts) ≡ rows_of (node h ts)
node_keeps sp d h ts r p kids =
    let us = canon_all sp (child_types d h ts) ts in
    let k : rows_below us ≡ rows_below ts = ap (λ ds. rows_below (canon_all sp ds ts)) (types_at d h ts p) ∙ kids in
    ap (λ z. node_rows z h.len (cleared h.body) (places us) (rows_below us)) (sym r.retyped)
    ∙ ap (λ z. node_rows (with_nullability r.nullability_is h.dtype) h.len (cleared h.body) (places us) z) k
    ∙ rows_retyped h.body r.nullability_is h.dtype h.len (places ts) (places us) (rows_below ts) (kids_metadata sp d h ts p)

mutual
  pub canon_at_rows : (sp : Spelling) (d : Typ) (t : Tree) → IsSound t → IsRetyped (label t).dtype d → rows_of (canon_at sp d t) ≡ rows_of t
  canon_at_rows sp d (node h ts) x r =
      by_node sp (λ u. rows_of u ≡ rows_of (node h ts)) d h ts
      (λ k. let p = planned_at d h ts k x.0 r in node_keeps sp d h ts r p (canon_all_rows sp ts p.at x.1 p.retyped))
      (λ z e. foreign_rows d h ts z e)

  pub canon_all_rows : (sp : Spelling) (ts : Trees) (qs : List Place) → EverywhereBelow IsSoundNode ts → AreRetyped (places ts) qs → rows_below (canon_all sp (types_in qs) ts) ≡ rows_below ts
  canon_all_rows sp end qs x r = refl
  canon_all_rows sp (more t ts) [] x r = absurd r
  canon_all_rows sp (more t ts) (q ∷ qs) x r =
      let a = canon_at_rows sp q.dtype t x.0 r.0 in
      let b = canon_all_rows sp ts qs x.1 r.2 in
      λ i. a i ∷ b i

-- ---- the normal form

own_values : (d : Typ) (a : Place) (n : ℕ) (ps : List Place) → ps ≡ a ∷ place d n ∷ [] → Dicts.IsNormal d ps
own_values d a n ps e = subst (λ (qs : List Place). Dicts.IsNormal d qs) (sym e) refl

-- What is read back over children where they are planned is normal.
normal_at : (b : Body) (d : Typ) (n k : ℕ) (os ps : List Place) → plan_of (encoding_of b) d n (metadata_of b os) k ≡ Some ps → IsNormalBody (cleared b) d ps
normal_at (B.dict x) d n k os ps e =
    let v = Dicts.metadata_of x os in
    let c = place (node (K.primitive v.codes_ptype v.nullable_codes) end) n in
    own_values d c v.values_len ps (exactly_is (c ∷ place d v.values_len ∷ []) k ps e)
normal_at (B.listview x) d n k os ps e = refl
normal_at _ d n k os ps e = tt

body_is_normal : (sp : Spelling) (d : Typ) (h : Head) (ts : Trees) (p : Planned d h ts) → IsNormalBody (cleared h.body) d (places (canon_all sp (child_types d h ts) ts))
body_is_normal sp d h ts p =
    subst (λ (ps : List Place). IsNormalBody (cleared h.body) d ps) (sym (kids_places sp d h ts p)) (normal_at h.body d h.len (count ts) (places ts) p.at p.plan)

node_normal : (sp : Spelling) (d : Typ) (h : Head) (ts : Trees) → IsNative h.body → (p : Planned d h ts) → IsNormalNode (canon_head d h) (canon_all sp (child_types d h ts) ts)
node_normal sp d h ts k p =
    normal_by (cleared h.body) (canon_head d h) (canon_all sp (child_types d h ts) ts) (cleared_native h.body k) (body_is_normal sp d h ts p)

mutual
  pub canon_at_normal : (sp : Spelling) (d : Typ) (t : Tree) → IsSound t → IsRetyped (label t).dtype d → IsNormal (canon_at sp d t)
  canon_at_normal sp d (node h ts) x r =
      by_node sp IsNormal d h ts
      (λ k. let p = planned_at d h ts k x.0 r in
      (node_normal sp d h ts k p, subst (λ ds. EverywhereBelow IsNormalNode (canon_all sp ds ts)) (sym (types_at d h ts p)) (canon_all_normal sp ts p.at x.1 p.retyped)))
      (λ z e. foreign_normal sp d h.len (node h ts))

  pub canon_all_normal : (sp : Spelling) (ts : Trees) (qs : List Place) → EverywhereBelow IsSoundNode ts → AreRetyped (places ts) qs → EverywhereBelow IsNormalNode (canon_all sp (types_in qs) ts)
  canon_all_normal sp end qs x r = tt
  canon_all_normal sp (more t ts) [] x r = absurd r
  canon_all_normal sp (more t ts) (q ∷ qs) x r = (canon_at_normal sp q.dtype t x.0 r.0, canon_all_normal sp ts qs x.1 r.2)

-- ---- what says where rows are

module _ (sp : Spelling) where
  native_root : (d : Typ) (t : Tree) → IsNative (label t).body → IsNative (label (canon_at sp d t)).body
  native_root d (node h ts) k =
      subst (λ (u : Tree). IsNative (label u).body) (sym (known h.body (known_node sp d h ts) (foreign_node sp d h ts) k)) (cleared_native h.body k)

  mutual
    -- An array without foreign nodes is read back without one.
    pub canon_native : (d : Typ) (t : Tree) → HasNoForeign t → HasNoForeign (canon_at sp d t)
    canon_native d (node h ts) f =
        subst (λ (u : Tree). HasNoForeign u) (sym (known h.body (known_node sp d h ts) (foreign_node sp d h ts) f.0))
        (cleared_native h.body f.0, canon_all_native (child_types d h ts) ts f.1)

    canon_all_native : (ds : List Typ) (ts : Trees) → EverywhereBelow IsNativeNode ts → EverywhereBelow IsNativeNode (canon_all sp ds ts)
    canon_all_native ds end f = tt
    canon_all_native [] (more t ts) f = (canon_native (label t).dtype t f.0, canon_all_native [] ts f.1)
    canon_all_native (d ∷ ds) (more t ts) f = (canon_native d t f.0, canon_all_native ds ts f.1)

  -- Each child of what is read back is read back of the child in its place.
  pub record IsCanonChild (ts : Trees) (i : ℕ) (u : Tree) : Type 0 where
    pub array : Tree
    pub dtype : Typ
    pub child : slice_get (roses_list ts) i ≡ Some array
    pub is : canon_at sp dtype array ≡ u

  canon_child : (ds : List Typ) (ts : Trees) (i : ℕ) (u : Tree) → slice_get (roses_list (canon_all sp ds ts)) i ≡ Some u → IsCanonChild ts i u
  canon_child ds end zero u e = absurd (cc)
  canon_child ds end (suc i) u e = absurd (cc)
  canon_child [] (more t ts) zero u e = record { array = t; dtype = (label t).dtype; child = refl; is = same_Some (canon_at sp (label t).dtype t) u e }
  canon_child [] (more t ts) (suc i) u e = let k = canon_child [] ts i u e in record { array = k.array; dtype = k.dtype; child = k.child; is = k.is }
  canon_child (d ∷ ds) (more t ts) zero u e = record { array = t; dtype = d; child = refl; is = same_Some (canon_at sp d t) u e }
  canon_child (d ∷ ds) (more t ts) (suc i) u e = let k = canon_child ds ts i u e in record { array = k.array; dtype = k.dtype; child = k.child; is = k.is }

  entries_native : (b : Body) (ds : List Typ) (ts : Trees) → HasNativeEntries (encoding_of b) ts → HasNativeEntries (encoding_of (cleared b)) (canon_all sp ds ts)
  entries_native B.map ds end f = tt
  entries_native B.map [] (more t ts) f = native_root (label t).dtype t f
  entries_native B.map (d ∷ ds) (more t ts) f = native_root d t f
  entries_native (B.listview x) ds ts f = tt
  entries_native _ ds ts f = tt

  -- Control children are known of what is read back where it was.
  node_controlled : (d : Typ) (h : Head) (ts : Trees) (ds : List Typ) → IsRetyped h.dtype d → IsControlled h ts → IsControlled (canon_head d h) (canon_all sp ds ts)
  node_controlled d h ts ds r c = record {
    controls = λ i u e g.
        let k = canon_child ds ts i u e in
        let own : is_control (encoding_of (cleared h.body)) d (count (canon_all sp ds ts)) i ≡ is_control (encoding_of h.body) h.dtype (count ts) i =
        (λ j. is_control (cleared_encoding h.body j) d (canon_count sp ds ts j) i) ∙ same_control (encoding_of h.body) h.dtype d (count ts) i r in
        subst (λ (z : Tree). HasNoForeign z) k.is (canon_native k.dtype k.array (c.controls i k.array k.child (subst (λ (b : Bool). IsTrue b) own g)));
    entries = entries_native h.body ds ts c.entries;
  }

-- ---- soundness

node_sound : (sp : Spelling) (d : Typ) (h : Head) (ts : Trees) → IsNative h.body → IsSoundNode h ts → (r : IsRetyped h.dtype d) (p : Planned d h ts) → rows_below (canon_all sp (types_in p.at) ts) ≡ rows_below ts
    → IsSoundNode (canon_head d h) (canon_all sp (child_types d h ts) ts)
node_sound sp d h ts native x r p kids =
    let us = canon_all sp (child_types d h ts) ts in
    let m : metadata_in (canon_head d h) us ≡ metadata_in h ts = kids_metadata sp d h ts p in
    let k : count us ≡ count ts = canon_count sp (child_types d h ts) ts in
    let l : places us ≡ p.at = kids_places sp d h ts p in
    let g : encoding_of (cleared h.body) ≡ encoding_of h.body = cleared_encoding h.body in
    let f : encodings us ≡ encodings ts = canon_encodings sp (child_types d h ts) ts in
    let rows : rows_below us ≡ rows_below ts = ap (λ ds. rows_below (canon_all sp ds ts)) (types_at d h ts p) ∙ kids in
    let allowed = allows_retyped (encoding_of h.body) h.dtype d (metadata_in h ts) (count ts) r x.allows in
    let a : Allows (encoding_of (cleared h.body)) d (metadata_in (canon_head d h) us) (count us) =
    subst (λ (e : Encoding). Allows e d (metadata_in (canon_head d h) us) (count us)) (sym g)
    (subst (λ (v : Metadata). Allows (encoding_of h.body) d v (count us)) (sym m) (subst (λ (n : ℕ). Allows (encoding_of h.body) d (metadata_in h ts) n) (sym k) allowed)) in
    let own : lifted d h.len (cleared h.body) (places us) ≡ places us = own_places (cleared h.body) d h.len (places us) (count us) (cleared_native h.body native) (body_is_normal sp d h ts p) a in
    record {
      fair = subst (λ (e : Encoding). IsFair e (metadata_in (canon_head d h) us)) (sym g) (subst (λ (v : Metadata). IsFair (encoding_of h.body) v) (sym m) x.fair);
      planned = (λ i. plan_of (g i) d h.len (m i) (k i)) ∙ p.plan ∙ ap (λ (z : List Place). Some z) (sym l ∙ sym own);
      allows = a;
      takes = subst (λ (e : Encoding). Takes e (encodings us)) (sym g) (subst (λ (es : List Encoding). Takes (encoding_of h.body) es) (sym f) x.takes);
      holds = subst (λ (z : Typ). Holds z h.len (cleared h.body)) r.retyped (holds_retyped h.body r.nullability_is h.dtype h.len x.holds);
      controlled = node_controlled sp d h ts (child_types d h ts) r x.controlled;
      content = subst (λ (z : Typ). Content z h.len (cleared h.body) (rows_below us)) r.retyped
          (content_retyped h.body r.nullability_is h.dtype h.len (rows_below us) (subst (λ (z : List Rows). Content h.dtype h.len h.body z) (sym rows) x.content));
      stats = subst (λ (z : Typ). FitStats z (written_stats h.stats)) r.retyped (fit_under r.nullability_is h.dtype (written_stats h.stats) (written_fit h.dtype h.stats x.stats));
    }

mutual
  pub canon_at_sound : (sp : Spelling) (d : Typ) (t : Tree) → IsSound t → IsRetyped (label t).dtype d → IsSound (canon_at sp d t)
  canon_at_sound sp d (node h ts) x r =
      by_node sp IsSound d h ts
      (λ k. let p = planned_at d h ts k x.0 r in (
        node_sound sp d h ts k x.0 r p (canon_all_rows sp ts p.at x.1 p.retyped),
        subst (λ ds. EverywhereBelow IsSoundNode (canon_all sp ds ts)) (sym (types_at d h ts p)) (canon_all_sound sp ts p.at x.1 p.retyped),
      ))
      (λ z e. foreign_sound sp d h.len (node h ts))

  pub canon_all_sound : (sp : Spelling) (ts : Trees) (qs : List Place) → EverywhereBelow IsSoundNode ts → AreRetyped (places ts) qs → EverywhereBelow IsSoundNode (canon_all sp (types_in qs) ts)
  canon_all_sound sp end qs x r = tt
  canon_all_sound sp (more t ts) [] x r = absurd r
  canon_all_sound sp (more t ts) (q ∷ qs) x r = (canon_at_sound sp q.dtype t x.0 r.0, canon_all_sound sp ts qs x.1 r.2)

-- ---- what is normal already

-- A sound normal node's children are read back at their own types.
pub own_types : (h : Head) (ts : Trees) → IsSoundNode h ts → IsNormalNode h ts → child_types h.dtype h ts ≡ types_in (places ts)
own_types h ts x n = ap (λ o. planned_types o ts) (planned_places h ts x n)

-- Foreign nodes are spelled as what they keep.
abbrev pub SpellsOwn : Spelling → Type 0
SpellsOwn sp = (h : Head) (ts : Trees) (x : Foreigns.Data) → h.body ≡ B.foreign x → sp h ts ≡ x

pub normal_foreign : (b : Body) (h : Head) (ts : Trees) (x : Foreigns.Data) → b ≡ B.foreign x → IsNormalBy b h ts → IsNormalForeign h ts
normal_foreign b h ts x e n = subst (λ c. IsNormalBy c h ts) e n

module _ (sp : Spelling) (law : SpellsOwn sp) where
  mutual
    -- A normal foreign array of a type and a length is the foreign array of its parts, but for statistics.
    foreign_written : (d : Typ) (n : ℕ) (t : Tree) → IsForeignAt d n (label t) → IsNormal t → as_foreign sp d n t ≡ stats_written t
    foreign_written d n (node h ts) f x =
        let k = foreign_is h.body f.encoding in
        let y = normal_foreign h.body h ts k.0 k.1 x.0 in
        let c = ap (λ z. B.foreign z) (law h ts k.0 k.1) ∙ sym k.1 in
        let s = ap (λ z. written_stats z) (sym y.stats) in
        let us = all_foreign_written d n ts (subst (λ z. AreForeignAt z n ts) f.dtype (subst (λ z. AreForeignAt h.dtype z ts) f.len y.children)) x.1 in
        let p = sym f.dtype in
        let q = sym f.len in
        λ i. node (record { dtype = p i; len = q i; stats = s i; body = c i }) (us i)

    all_foreign_written : (d : Typ) (n : ℕ) (ts : Trees) → AreForeignAt d n ts → EverywhereBelow IsNormalNode ts → all_foreign sp d n ts ≡ each_stats_written ts
    all_foreign_written d n end f x = refl
    all_foreign_written d n (more t ts) f x =
        let a = foreign_written d n t f.0 x.0 in
        let b = all_foreign_written d n ts f.1 x.1 in
        λ i. more (a i) (b i)

  mutual
    -- A sound normal array is read back as itself but for statistics.
    pub canon_written : (t : Tree) → IsSound t → IsNormal t → canon sp t ≡ stats_written t
    canon_written (node h ts) x n =
        by_node sp (λ u. u ≡ stats_written (node h ts)) h.dtype h ts
        (λ _.
        let b = normal_cleared h.body h ts n.0 in
        let k = ap (λ ds. canon_all sp ds ts) (own_types h ts x.0 n.0) ∙ canon_all_written ts x.1 n.1 in
        λ i. node (record { dtype = h.dtype; len = h.len; stats = written_stats h.stats; body = b i }) (k i))
        (λ z e. foreign_written h.dtype h.len (node h ts) (record { encoding = ap (λ c. encoding_of c) e; dtype = refl; len = refl }) n)

    pub canon_all_written : (ts : Trees) → EverywhereBelow IsSoundNode ts → EverywhereBelow IsNormalNode ts → canon_all sp (types_in (places ts)) ts ≡ each_stats_written ts
    canon_all_written end x n = refl
    canon_all_written (more t ts) x n =
        let a = canon_written t x.0 n.0 in
        let b = canon_all_written ts x.1 n.1 in
        λ i. more (a i) (b i)

-- What is written of statistics changes no place.
written_place : (t : Tree) → place (label (stats_written t)).dtype (label (stats_written t)).len ≡ place (label t).dtype (label t).len
written_place (node h ts) = refl

pub written_places : (ts : Trees) → places (each_stats_written ts) ≡ places ts
written_places end = refl
written_places (more t ts) =
    let a = written_place t in
    let b = written_places ts in
    λ i. a i ∷ b i

mutual
  -- What is written of kept statistics are these.
  pub kept_written : (t : Tree) → KeepsStats t → stats_written t ≡ t
  kept_written (node h ts) k =
      let a : written_head h ≡ h = (let x = k.0 in λ i. record { dtype = h.dtype; len = h.len; stats = x i; body = h.body }) in
      let b = each_kept_written ts k.1 in
      λ i. node (a i) (b i)

  each_kept_written : (ts : Trees) → EverywhereBelow IsKeptNode ts → each_stats_written ts ≡ ts
  each_kept_written end k = refl
  each_kept_written (more t ts) k =
      let a = kept_written t k.0 in
      let b = each_kept_written ts k.1 in
      λ i. more (a i) (b i)

-- A sound normal array of which all statistics are kept is read back as itself.
pub canon_own : (sp : Spelling) → SpellsOwn sp → (t : Tree) → IsSound t → IsNormal t → KeepsStats t → canon sp t ≡ t
canon_own sp law t x n k = canon_written sp law t x n ∙ kept_written t k

module _ (sp : Spelling) where
  mutual
    -- What is read back keeps its statistics.
    pub canon_at_keeps : (d : Typ) (t : Tree) → KeepsStats (canon_at sp d t)
    canon_at_keeps d (node h ts) =
        by_node sp KeepsStats d h ts
        (λ _. (written_twice h.stats, canon_all_keeps (child_types d h ts) ts))
        (λ z e. foreign_keeps sp d h.len (node h ts))

    canon_all_keeps : (ds : List Typ) (ts : Trees) → EverywhereBelow IsKeptNode (canon_all sp ds ts)
    canon_all_keeps ds end = tt
    canon_all_keeps [] (more t ts) = (canon_at_keeps (label t).dtype t, canon_all_keeps [] ts)
    canon_all_keeps (d ∷ ds) (more t ts) = (canon_at_keeps d t, canon_all_keeps ds ts)

  -- ---- the laws of an array that is read back at its own type

  -- What is read back of a sound array is sound.
  pub canon_sound : (t : Tree) → IsSound t → IsSound (canon sp t)
  canon_sound t x = canon_at_sound sp (label t).dtype t x (retyped_same (label t).dtype)

  -- It is normal.
  pub canon_normal : (t : Tree) → IsSound t → IsNormal (canon sp t)
  canon_normal t x = canon_at_normal sp (label t).dtype t x (retyped_same (label t).dtype)

  -- It has the array's rows.
  pub canon_rows : (t : Tree) → IsSound t → rows_of (canon sp t) ≡ rows_of t
  canon_rows t x = canon_at_rows sp (label t).dtype t x (retyped_same (label t).dtype)

  -- It is read back as itself.
  pub canon_twice : SpellsOwn sp → (t : Tree) → IsSound t → canon sp (canon sp t) ≡ canon sp t
  canon_twice law t x = canon_own sp law (canon sp t) (canon_sound t x) (canon_normal t x) (canon_at_keeps (label t).dtype t)
