-- What is built of metadata and buffers, over children as they are planned.
use Rattle.std.proofs.Common.{ℕ, ◌≡◌, ◌⊎◌, inl, inr, List, [], ◌∷◌, Some, refl, sym, ap, ◌∙◌, subst, replicate}
use Rattle.std.proofs.lemmas.Option.{same_Some}
use Rattle.vx_buffer.specs.Buffer.{Buffer}
use Rattle.vx_trees.specs.Rose.{node, end, label, count}
use Rattle.vx_types.specs.Kind as K
use Rattle.vx_types.specs.Typ.{Typ}
use Rattle.vx_scalars.specs.Stats.{Stats, FitStats}
use Rattle.vx_array_tree.specs.Body.{Body}
use Rattle.vx_array_tree.specs.Body as B
use Rattle.vx_array_tree.specs.Encoding.{Encoding}
use Rattle.vx_array_tree.specs.Encoding as E
use Rattle.vx_array_tree.specs.Encodings.Bools as Bools
use Rattle.vx_array_tree.specs.Encodings.Primitives as Primitives
use Rattle.vx_array_tree.specs.Encodings.Decimals as Decimals
use Rattle.vx_array_tree.specs.Encodings.VarBins as VarBins
use Rattle.vx_array_tree.specs.Encodings.VarBinViews as VarBinViews
use Rattle.vx_array_tree.specs.Encodings.Dicts as Dicts
use Rattle.vx_array_tree.specs.Encodings.Foreigns as Foreigns
use Rattle.vx_array_tree.specs.Metadata.{Metadata}
use Rattle.vx_array_tree.specs.Metadata as M
use Rattle.vx_array_tree.specs.Place.{Place, place}
use Rattle.vx_array_tree.specs.Refused.{IsWellShaped}
use Rattle.vx_array_tree.specs.Normal.{IsNormal}
use Rattle.vx_array_tree.specs.Sound.{IsSound, IsSoundNode, IsControlled}
use Rattle.vx_array_tree.specs.Table.{encoding_of, metadata_of, IsFair, buffers_of, bufferless, body_of, plan_of, lifted, Allows, Holds, IsShaped, Takes, Content, IsNative, IsNormalBody}
use Rattle.vx_array_tree.specs.Tree.{Head, Tree, Trees, places, encodings, rows_below, untold, with_stats}
use Rattle.vx_array_tree.proofs.NodeLaws.{body_encoding}
use Rattle.vx_array_tree.proofs.Options.{mapped}
use Rattle.vx_array_tree.proofs.Plans.{exactly_is, metadata_again}
use Rattle.vx_array_tree.proofs.Bodies.{normal_by, body_normal}
use Rattle.vx_array_tree.proofs.LawsOfPlaces.{places_count}
use Rattle.vx_array_tree.proofs.Retyped.{own_places}

-- ---- a body has the buffers that it was built of

bufferless_buffers : (x : Body) (bs : List Buffer) (b : Body) → buffers_of x ≡ [] → bufferless x bs ≡ Some b → buffers_of b ≡ bs
bufferless_buffers x [] b n e = ap (λ z. buffers_of z) (sym (same_Some x b e)) ∙ n
bufferless_buffers x (c ∷ bs) b n e = absurd (cc)

data_buffers : (b : Buffer) (bs : List Buffer) → VarBinViews.buffers_of (VarBinViews.data_of b bs) ≡ b ∷ bs
data_buffers b [] = refl
data_buffers b (c ∷ bs) = ap (λ (xs : List Buffer). b ∷ xs) (data_buffers c bs)

bool_buffers : (v : ℕ) (bs : List Buffer) (x : Bools.Data) → Bools.body_of v bs ≡ Some x → Bools.buffers_of x ≡ bs
bool_buffers v [] x e = absurd (cc)
bool_buffers v (b ∷ []) x e = ap (λ y. Bools.buffers_of y) (sym (same_Some (record { bits = b; offset = v }) x e))
bool_buffers v (b ∷ c ∷ bs) x e = absurd (cc)

primitive_buffers : (bs : List Buffer) (x : Primitives.Data) → Primitives.body_of bs ≡ Some x → Primitives.buffers_of x ≡ bs
primitive_buffers [] x e = absurd (cc)
primitive_buffers (b ∷ []) x e = ap (λ y. Primitives.buffers_of y) (sym (same_Some (record { values = b }) x e))
primitive_buffers (b ∷ c ∷ bs) x e = absurd (cc)

decimal_buffers : (v : Decimals.Metadata) (bs : List Buffer) (x : Decimals.Data) → Decimals.body_of v bs ≡ Some x → Decimals.buffers_of x ≡ bs
decimal_buffers v [] x e = absurd (cc)
decimal_buffers v (b ∷ []) x e = ap (λ y. Decimals.buffers_of y) (sym (same_Some (record { values = b; values_type = v }) x e))
decimal_buffers v (b ∷ c ∷ bs) x e = absurd (cc)

varbin_buffers : (bs : List Buffer) (x : VarBins.Data) → VarBins.body_of bs ≡ Some x → VarBins.buffers_of x ≡ bs
varbin_buffers [] x e = absurd (cc)
varbin_buffers (b ∷ []) x e = ap (λ y. VarBins.buffers_of y) (sym (same_Some (record { bytes = b }) x e))
varbin_buffers (b ∷ c ∷ bs) x e = absurd (cc)

view_buffers : (bs : List Buffer) (x : VarBinViews.Data) → VarBinViews.body_of bs ≡ Some x → VarBinViews.buffers_of x ≡ bs
view_buffers [] x e = absurd (cc)
view_buffers (b ∷ bs) x e = ap (λ y. VarBinViews.buffers_of y) (sym (same_Some (VarBinViews.data_of b bs) x e)) ∙ data_buffers b bs

pub body_buffers : (e : Encoding) (v : Metadata) (bs : List Buffer) (b : Body) → body_of e v bs ≡ Some b → buffers_of b ≡ bs
body_buffers E.null M.empty bs b q = bufferless_buffers B.null bs b refl q
body_buffers E.bool (M.bool v) bs b q = let m = mapped B.bool (Bools.body_of v bs) b q in rw (m.1) (bool_buffers v bs m.0 m.2)
body_buffers E.primitive M.empty bs b q = let m = mapped B.primitive (Primitives.body_of bs) b q in rw (m.1) (primitive_buffers bs m.0 m.2)
body_buffers E.decimal (M.decimal v) bs b q = let m = mapped B.decimal (Decimals.body_of v bs) b q in rw (m.1) (decimal_buffers v bs m.0 m.2)
body_buffers E.varbin (M.varbin v) bs b q = let m = mapped B.varbin (VarBins.body_of bs) b q in rw (m.1) (varbin_buffers bs m.0 m.2)
body_buffers E.varbinview M.empty bs b q = let m = mapped B.varbinview (VarBinViews.body_of bs) b q in rw (m.1) (view_buffers bs m.0 m.2)
body_buffers E.list (M.list v) bs b q = bufferless_buffers B.list bs b refl q
body_buffers E.listview (M.listview v) bs b q = bufferless_buffers (B.listview _) bs b refl q
body_buffers E.fixed_size_list M.empty bs b q = bufferless_buffers B.fixed_size_list bs b refl q
body_buffers E.map M.empty bs b q = bufferless_buffers B.map bs b refl q
body_buffers E.struct M.empty bs b q = bufferless_buffers B.struct bs b refl q
body_buffers E.union M.empty bs b q = bufferless_buffers B.union bs b refl q
body_buffers E.variant (M.variant v) bs b q = bufferless_buffers B.variant bs b refl q
body_buffers E.ext M.empty bs b q = bufferless_buffers B.ext bs b refl q
body_buffers E.dict (M.dict v) bs b q = bufferless_buffers (B.dict (Dicts.body_of v)) bs b refl q
body_buffers E.foreign (M.foreign v) bs b q = ap (λ z. buffers_of z) (sym (same_Some (B.foreign (Foreigns.body_of v bs)) b q))
body_buffers _ v bs b q = absurd (cc)

-- ---- and of the form in which it is read

own_values : (d : Typ) (a : Place) (n : ℕ) (ps : List Place) → ps ≡ a ∷ place d n ∷ [] → Dicts.IsNormal d ps
own_values d a n ps e = subst (λ (qs : List Place). Dicts.IsNormal d qs) (sym e) refl

bufferless_normal : (x : Body) (bs : List Buffer) (b : Body) (d : Typ) (ps : List Place) → IsNormalBody x d ps → bufferless x bs ≡ Some b → IsNormalBody b d ps
bufferless_normal x [] b d ps n e = subst (λ z. IsNormalBody z d ps) (same_Some x b e) n
bufferless_normal x (c ∷ bs) b d ps n e = absurd (cc)

pub built_normal : (e : Encoding) (d : Typ) (n : ℕ) (v : Metadata) (k : ℕ) (bs : List Buffer) (b : Body) (ps : List Place) → body_of e v bs ≡ Some b → plan_of e d n v k ≡ Some ps → IsNormalBody b d ps
built_normal E.null d n M.empty k bs b ps p q = bufferless_normal B.null bs b d ps tt p
built_normal E.bool d n (M.bool v) k bs b ps p q = let m = mapped B.bool (Bools.body_of v bs) b p in rw (m.1) tt
built_normal E.primitive d n M.empty k bs b ps p q = let m = mapped B.primitive (Primitives.body_of bs) b p in rw (m.1) tt
built_normal E.decimal d n (M.decimal v) k bs b ps p q = let m = mapped B.decimal (Decimals.body_of v bs) b p in rw (m.1) tt
built_normal E.varbin d n (M.varbin v) k bs b ps p q = let m = mapped B.varbin (VarBins.body_of bs) b p in rw (m.1) tt
built_normal E.varbinview d n M.empty k bs b ps p q = let m = mapped B.varbinview (VarBinViews.body_of bs) b p in rw (m.1) tt
built_normal E.list d n (M.list v) k bs b ps p q = bufferless_normal B.list bs b d ps tt p
built_normal E.listview d n (M.listview v) k bs b ps p q = bufferless_normal (B.listview _) bs b d ps refl p
built_normal E.fixed_size_list d n M.empty k bs b ps p q = bufferless_normal B.fixed_size_list bs b d ps tt p
built_normal E.map d n M.empty k bs b ps p q = bufferless_normal B.map bs b d ps tt p
built_normal E.struct d n M.empty k bs b ps p q = bufferless_normal B.struct bs b d ps tt p
built_normal E.union d n M.empty k bs b ps p q = bufferless_normal B.union bs b d ps tt p
built_normal E.variant d n (M.variant v) k bs b ps p q = bufferless_normal B.variant bs b d ps tt p
built_normal E.ext d n M.empty k bs b ps p q = bufferless_normal B.ext bs b d ps tt p
built_normal E.dict d n (M.dict v) k bs b ps p q =
    let c = place (node (K.primitive v.codes_ptype v.nullable_codes) end) n in
    bufferless_normal (B.dict (Dicts.body_of v)) bs b d ps (own_values d c v.values_len ps (exactly_is (c ∷ place d v.values_len ∷ []) k ps q)) p
built_normal E.foreign d n (M.foreign v) k bs b ps p q = subst (λ z. IsNormalBody z d ps) (same_Some (B.foreign (Foreigns.body_of v bs)) b p) tt
built_normal _ d n v k bs b ps p q = absurd (cc)

-- Whether a node takes children of such encodings is decided.
pub takes_decided : (e : Encoding) (es : List Encoding) → Takes e es ⊎ (Takes e es → ⊥)
takes_decided E.map [] = inr (λ x. x)
takes_decided E.map (E.listview ∷ es) = inl tt
takes_decided E.map (E.foreign ∷ es) = inl tt
takes_decided E.map (_ ∷ es) = inr (λ x. x)
takes_decided _ es = inl tt

-- ---- the node over its children

-- A node that was built over children where they are planned.
pub record IsBuiltOver (e : Encoding) (d : Typ) (n : ℕ) (v : Metadata) (bs : List Buffer) (b : Body) (ts : Trees) : Type 0 where
  pub fair : IsFair e v
  pub body_is : body_of e v bs ≡ Some b
  pub planned : plan_of e d n v (count ts) ≡ Some (places ts)

-- Its metadata is what it was built by.
pub own_metadata : (e : Encoding) (d : Typ) (n : ℕ) (v : Metadata) (bs : List Buffer) (b : Body) (ts : Trees) → IsBuiltOver e d n v bs b ts → metadata_of b (places ts) ≡ v
own_metadata e d n v bs b ts x = metadata_again e d n v (count ts) bs b (places ts) x.body_is x.planned

foreign_own : (e : Encoding) (d : Typ) (n : ℕ) (v : Metadata) (bs : List Buffer) (y : Foreigns.Data) (ts : Trees) → IsBuiltOver e d n v bs (B.foreign y) ts
    → lifted d n (B.foreign y) (places ts) ≡ places ts
foreign_own e d n v bs y ts x =
    let g = sym (body_encoding e v bs (B.foreign y) x.body_is) in
    let m = sym (own_metadata e d n v bs (B.foreign y) ts x) in
    let p : Foreigns.plan d n (count ts) ≡ Some (places ts) = sym (λ i. plan_of (g i) d n (m i) (count ts)) ∙ x.planned in
    ap (λ k. replicate k (place d n)) (places_count ts) ∙ same_Some (replicate (count ts) (place d n)) (places ts) p

-- Its children stand just where a plan is compared with.
built_own : (e : Encoding) (d : Typ) (n : ℕ) (v : Metadata) (bs : List Buffer) (b : Body) (ts : Trees) → IsBuiltOver e d n v bs b ts
    → Allows (encoding_of b) d (metadata_of b (places ts)) (count ts) → lifted d n b (places ts) ≡ places ts
built_own e d n v bs (B.foreign y) ts x a = foreign_own e d n v bs y ts x
built_own e d n v bs (B.dict y) ts x a = own_places (B.dict y) d n (places ts) (count ts) tt (built_normal e d n v (count ts) bs (B.dict y) (places ts) x.body_is x.planned) a
built_own e d n v bs _ ts x a = refl

-- It is of the right shape where its parts are, and its encoding takes the children.
pub built_shaped : (e : Encoding) (d : Typ) (n : ℕ) (v : Metadata) (bs : List Buffer) (b : Body) (ts : Trees) → IsBuiltOver e d n v bs b ts
    → IsShaped e d n v bs (count ts) → Takes e (encodings ts) → IsWellShaped (untold d n b) ts
built_shaped e d n v bs b ts x s t =
    let g = body_encoding e v bs b x.body_is in
    let m = own_metadata e d n v bs b ts x in
    let q = same_Some s.body b (sym s.body_is ∙ x.body_is) in
    let a : Allows (encoding_of b) d (metadata_of b (places ts)) (count ts) =
    subst (λ (f : Encoding). Allows f d (metadata_of b (places ts)) (count ts)) (sym g) (subst (λ (z : Metadata). Allows e d z (count ts)) (sym m) s.allows) in
    let own : lifted d n b (places ts) ≡ places ts = built_own e d n v bs b ts x a in
    record {
      fair = subst (λ (f : Encoding). IsFair f (metadata_of b (places ts))) (sym g) (subst (λ (z : Metadata). IsFair e z) (sym m) x.fair);
      planned = (λ i. plan_of (g i) d n (m i) (count ts)) ∙ x.planned ∙ ap (λ (z : List Place). Some z) (sym own);
      allows = a;
      takes = subst (λ (f : Encoding). Takes f (encodings ts)) (sym g) t;
      holds = subst (λ (z : Body). Holds d n z) q s.holds;
    }

-- And its parts are of the right shape where it is.
pub shaped_built : (e : Encoding) (d : Typ) (n : ℕ) (v : Metadata) (bs : List Buffer) (b : Body) (ts : Trees) → IsBuiltOver e d n v bs b ts
    → IsWellShaped (untold d n b) ts → IsShaped e d n v bs (count ts) × Takes e (encodings ts)
shaped_built e d n v bs b ts x s =
    let g = body_encoding e v bs b x.body_is in
    let m = own_metadata e d n v bs b ts x in (
      record {
        body = b;
        body_is = x.body_is;
        holds = s.holds;
        allows = subst (λ (z : Metadata). Allows e d z (count ts)) m (subst (λ (f : Encoding). Allows f d (metadata_of b (places ts)) (count ts)) g s.allows);
      },
      subst (λ (f : Encoding). Takes f (encodings ts)) g s.takes,
    )

-- A node of the right shape and content, of which it is known where its rows are, and whose statistics fit is sound, and a sound one is of the right shape.
pub shaped_sound : (h : Head) (ts : Trees) → IsWellShaped h ts → IsControlled h ts → Content h.dtype h.len h.body (rows_below ts) → FitStats h.dtype h.stats → IsSoundNode h ts
shaped_sound h ts s r c f = record { fair = s.fair; planned = s.planned; allows = s.allows; takes = s.takes; holds = s.holds; controlled = r; content = c; stats = f }

pub sound_well_shaped : (h : Head) (ts : Trees) → IsSoundNode h ts → IsWellShaped h ts
sound_well_shaped h ts s = record { fair = s.fair; planned = s.planned; allows = s.allows; takes = s.takes; holds = s.holds }

-- A sound array with other statistics that fit is sound, and normal where it was.
pub stats_sound : (x : Stats) (t : Tree) → IsSound t → FitStats (label t).dtype x → IsSound (with_stats x t)
stats_sound x (node h ts) s f = (
  record { fair = s.0.fair; planned = s.0.planned; allows = s.0.allows; takes = s.0.takes; holds = s.0.holds; controlled = record { controls = s.0.controlled.controls; entries = s.0.controlled.entries }; content = s.0.content; stats = f },
  s.1,
)

pub stats_normal : (x : Stats) (t : Tree) → IsNative (label t).body → IsNormal t → IsNormal (with_stats x t)
stats_normal x (node h ts) k n = (normal_by h.body (label (with_stats x (node h ts))) ts k (body_normal h.body h ts n.0), n.1)
