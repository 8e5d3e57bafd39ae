-- The steps of nodes of list views.
use Rattle.std.proofs.Common.{ℕ, ◌≡◌, ◌≢◌, ◌↔◌, List, [], ◌∷◌, Option, Some, None, Bool, true, false, Result, Ok, Err, IfOk, IfErr, IsTrue, refl, sym, ap, ◌∙◌, subst, inl}
use Rattle.vx_buffer.specs.Buffer.{Buffer}
use Rattle.vx_trees.specs.Rose.{node, count}
use Rattle.vx_types.specs.Known.{ExtMeaning}
use Rattle.vx_types.specs.Seen.{typ}
use Rattle.vx_types.specs.Typ.{Typ}
use Rattle.vx_types.specs.declared.dtype.DType.{DType}
use Rattle.vx_types.specs.declared.dtype.DType.TheVariants as D
use Rattle.vx_types.specs.declared.nullability.Nullability.{Nullability}
use Rattle.vx_proto.specs.Reads.{Reads}
use Rattle.vx_array_tree.specs.Encoding as E
use Rattle.vx_array_tree.specs.Encodings.ListViews as ListViews
use Rattle.vx_array_tree.specs.Encodings.ListViews.{plan}
use Rattle.vx_array_tree.specs.Metadata.{Metadata}
use Rattle.vx_array_tree.specs.Metadata as M
use Rattle.vx_array_tree.specs.Place.{Place, place, numbers, before_validity}
use Rattle.vx_array_tree.specs.Table.{IsShaped, body_of, plan_of}
use Rattle.vx_array_tree.specs.Tree.{Tree, Trees, places, untold}
use Rattle.vx_array_tree.proofs.LawsOfPlaces.{places_count}
use Rattle.vx_array_tree.proofs.PlanCounts.{planned_count}
use Rattle.vx_arrays.specs.ListViews.{views_of}
use Rattle.vx_arrays.specs.Refused.{RefusesMaking}
use Rattle.vx_rows.specs.declared.error.ArrayError.{ArrayError}
use Rattle.vx_encodings.proofs.Fitting.{constructor_refused}
use Rattle.vx_encodings.proofs.Singles.{single_unplanned, single_built}
use Rattle.vx_encodings.proofs.ViewCounts.{views_metadata, views_read, views_fair}
use Rattle.vx_encodings.specs.ListViewMessage.{view_schema, view_value}
use Rattle.vx_encodings.specs.Steps.{IsPlanned, RefusesPlanning, RefusesMetadata, IsBuilt, RefusesBuilding, constructor_error}
use Rattle.vx_plans.specs.Plans.{RefusesPlaces}
use Rattle.vx_encodings.specs.declared.encoding.Encoding.TheVariants.{ListView}
use Rattle.vx_plans.specs.declared.error.EncodingError.{EncodingError}
use Rattle.vx_plans.specs.declared.error.EncodingError.TheVariants.{OutOfMemory, BadMetadata, BadShape}
use Rattle.vx_plans.specs.declared.head.ArrayHead.{ArrayHead}

-- ---- a plan

-- Bytes that are no message are no metadata.
pub views_unread : (x : ExtMeaning) (error : EncodingError) (h : ArrayHead) → RefusesMetadata error view_schema 0 h.metadata → RefusesPlanning error x ListView h
views_unread x OutOfMemory h u = tt
views_unread x BadMetadata h u = λ w m. u _ (views_read x (typ h.dtype) h.metadata w m).reads
views_unread x BadShape h u = absurd u
views_unread x _ h u = absurd u

not_told : (t : Bool) (P : Type 0) → (IsTrue t ↔ P) → t ≡ false → P → ⊥
not_told t P i f p = let g = i.1 p in absurd (cc)

told : (t : Bool) (P : Type 0) → (IsTrue t ↔ P) → t ≡ true → P
told t P i f = i.0 f

-- Nor are those of a float kind.
pub views_of_floats : (x : ExtMeaning) (h : ArrayHead) (v : ListViews.Metadata) (t : Bool) → Reads view_schema 0 h.metadata (view_value v) → (IsTrue t ↔ ListViews.IsFair v) → t ≡ false → RefusesPlanning BadMetadata x ListView h
views_of_floats x h v t r i f w m = not_told t (ListViews.IsFair v) i f (views_fair x (typ h.dtype) h.metadata w v m r)

-- The plan of elements, offsets, sizes and a validity after them.
abbrev pub parts_plan : Typ → ListViews.Metadata → ℕ → ℕ → Option (List Place)
parts_plan e v n k = before_validity (place e v.elements_len ∷ place (numbers v.offset_ptype) n ∷ place (numbers v.size_ptype) n ∷ []) n k

plan_at : (d : DType) (e : Typ) (s : Nullability) (v : ListViews.Metadata) (n k : ℕ) → d ≡ D.List e s → plan (typ d) n v k ≡ parts_plan e v n k
plan_at d e s v n k q = ap (λ (z : DType). plan (typ z) n v k) q

-- Where the type is of another kind, the shape does not fit.
pub views_of_others : (x : ExtMeaning) (h : ArrayHead) (v : ListViews.Metadata) (t : Bool) → Reads view_schema 0 h.metadata (view_value v) → (IsTrue t ↔ ListViews.IsFair v) → t ≡ true → plan (typ h.dtype) h.len v h.nchildren ≡ None → RefusesPlanning BadShape x ListView h
views_of_others x h v t r i f none = single_unplanned x ListView h (M.listview v) (views_metadata x (typ h.dtype) h.metadata v r (told t (ListViews.IsFair v) i f)) none

-- The result for the parts is the result for the node.
pub views_planned : (x : ExtMeaning) (h : ArrayHead) (r : Result (List Place) EncodingError) (v : ListViews.Metadata) (t : Bool) (e f : Typ) (s : Nullability) → Reads view_schema 0 h.metadata (view_value v) → (IsTrue t ↔ ListViews.IsFair v) → t ≡ true → h.dtype ≡ D.List e s → f ≡ e
    → IfOk r (λ ps. parts_plan f v h.len h.nchildren ≡ Some ps) → IfOk r (λ ps. IsPlanned x ListView h ps)
views_planned x h (Ok ps) v t e f s shown i j q g a =
    record {
      value = M.listview v;
      metadata = views_metadata x (typ h.dtype) h.metadata v shown (told t (ListViews.IsFair v) i j);
      plan = plan_at h.dtype e s v h.len h.nchildren q ∙ ap (λ (z : Typ). parts_plan z v h.len h.nchildren) (sym g) ∙ a;
    }
views_planned x h (Err error) v t e f s shown i j q g a = tt

pub views_without : (error : EncodingError) (x : ExtMeaning) (h : ArrayHead) (v : ListViews.Metadata) (t : Bool) (e f : Typ) (s : Nullability) → Reads view_schema 0 h.metadata (view_value v) → (IsTrue t ↔ ListViews.IsFair v) → t ≡ true → h.dtype ≡ D.List e s → f ≡ e
    → RefusesPlaces error (parts_plan f v h.len h.nchildren) → RefusesPlanning error x ListView h
views_without OutOfMemory x h v t e f s shown i j q g w = tt
views_without BadMetadata x h v t e f s shown i j q g w = absurd w
views_without BadShape x h v t e f s shown i j q g w =
    views_of_others x h v t shown i j (plan_at h.dtype e s v h.len h.nchildren q ∙ ap (λ (z : Typ). parts_plan z v h.len h.nchildren) (sym g) ∙ w)
views_without _ x h v t e f s shown i j q g w = absurd w

pub views_unplanned : (x : ExtMeaning) (h : ArrayHead) (r : Result (List Place) EncodingError) (v : ListViews.Metadata) (t : Bool) (e f : Typ) (s : Nullability) → Reads view_schema 0 h.metadata (view_value v) → (IsTrue t ↔ ListViews.IsFair v) → t ≡ true → h.dtype ≡ D.List e s → f ≡ e
    → IfErr r (λ error. RefusesPlaces error (parts_plan f v h.len h.nchildren)) → IfErr r (λ error. RefusesPlanning error x ListView h)
views_unplanned x h (Ok ps) v t e f s shown i j q g w = tt
views_unplanned x h (Err error) v t e f s shown i j q g w = views_without error x h v t e f s shown i j q g w

-- ---- building

-- What was planned: metadata of a number of elements and two kinds of integers, and the places of the children, as many as
-- there are.
pub record ListViewPlan (h : ArrayHead) (us : Trees) : Type 0 where
  pub value : ListViews.Metadata
  pub reads : Reads view_schema 0 h.metadata (view_value value)
  pub fair : ListViews.IsFair value
  pub planned : plan (typ h.dtype) h.len value (count us) ≡ Some (places us)

plan_some : (w : Metadata) (v : ListViews.Metadata) (d : Typ) (n k : ℕ) (ps : List Place) → w ≡ M.listview v → plan_of E.listview d n w k ≡ Some ps → plan d n v k ≡ Some ps
plan_some w v d n k ps e q = subst (λ (z : Metadata). plan_of E.listview d n z k ≡ Some ps) e q

pub list_view_plan : (x : ExtMeaning) (h : ArrayHead) (us : Trees) → IsPlanned x ListView h (places us) → ListViewPlan h us
list_view_plan x h us p =
    let m = views_read x (typ h.dtype) h.metadata p.value p.metadata in
    let q = plan_some p.value m.value (typ h.dtype) h.len h.nchildren (places us) m.value_is p.plan in
    let k : h.nchildren ≡ count us = sym (planned_count E.listview (typ h.dtype) h.len (M.listview m.value) h.nchildren (places us) q) ∙ places_count us in
    record {
      value = m.value;
      reads = m.reads;
      fair = m.fair;
      planned = subst (λ (j : ℕ). plan (typ h.dtype) h.len m.value j ≡ Some (places us)) k q;
    }

bodied : (v : ListViews.Metadata) (bs : List Buffer) → bs ≡ [] → body_of E.listview (M.listview v) bs ≡ Some (views_of false)
bodied v bs e = ap (λ (cs : List Buffer). body_of E.listview (M.listview v) cs) e

-- The array that is built has these parts.
pub views_built : (x : ExtMeaning) (h : ArrayHead) (bs : List Buffer) (us : Trees) (t : Tree) → (y : ExtMeaning) × IsPlanned y ListView h (places us) → bs ≡ [] → t ≡ node (untold (typ h.dtype) h.len (views_of false)) us → IsBuilt x ListView h bs us t
views_built x h bs us t planned b w =
    let k = list_view_plan planned.0 h us planned.1 in
    single_built x ListView h (M.listview k.value) (views_metadata x (typ h.dtype) h.metadata k.value k.reads k.fair) bs us (views_of false) t (bodied k.value bs b) w

-- Parts that the constructor refuses do not fit the row of a planned node.
pub views_refused : (x : ExtMeaning) (error : ArrayError) (h : ArrayHead) (bs : List Buffer) (us : Trees) → (y : ExtMeaning) × IsPlanned y ListView h (places us) → bs ≡ []
    → RefusesMaking error (node (untold (typ h.dtype) h.len (views_of false)) us) → RefusesBuilding (constructor_error error) x ListView h bs us
views_refused x error h bs us planned b refused =
    let k = list_view_plan planned.0 h us planned.1 in
    constructor_refused x ListView h (M.listview k.value) (views_metadata x (typ h.dtype) h.metadata k.value k.reads k.fair) error bs us (views_of false) (node (untold (typ h.dtype) h.len (views_of false)) us)
    (bodied k.value bs b) k.fair k.planned refl tt refl refused

-- A node with buffers does not fit.
bufferless : (d : Typ) (n : ℕ) (v : ListViews.Metadata) (bs : List Buffer) (k : ℕ) → bs ≢ [] → IsShaped E.listview d n (M.listview v) bs k → ⊥
bufferless d n v [] k none s = none refl
bufferless d n v (b ∷ bs) k none s = let f : None ≡ Some s.body = s.body_is in cc

pub views_buffers : (x : ExtMeaning) (h : ArrayHead) (bs : List Buffer) (us : Trees) → (y : ExtMeaning) × IsPlanned y ListView h (places us) → bs ≢ [] → RefusesBuilding BadShape x ListView h bs us
views_buffers x h bs us planned none =
    let k = list_view_plan planned.0 h us planned.1 in
    record {
      value = M.listview k.value;
      metadata = views_metadata x (typ h.dtype) h.metadata k.value k.reads k.fair;
      wrong = inl (bufferless (typ h.dtype) h.len k.value bs (count us) none);
    }

-- The lemmas for the steps of list views.
pub ruleset list_view_steps = (views_unread, views_built, views_refused, views_buffers)
