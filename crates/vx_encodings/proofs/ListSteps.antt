-- The steps of nodes of lists.
use Rattle.std.proofs.Common.{ℕ, suc, ◌≡◌, ◌≢◌, ◌<◌, List, [], ◌∷◌, Option, Some, None, Bool, true, false, Result, Ok, Err, IfOk, IsTrue, refl, sym, ap, ◌∙◌, subst, inl, length, arith}
use Rattle.vx_buffer.specs.Buffer.{Buffer}
use Rattle.vx_trees.specs.Rose.{node, end, more, count, roses_of}
use Rattle.vx_types.specs.Kind.{list}
use Rattle.vx_types.specs.Known.{ExtMeaning}
use Rattle.vx_numbers.specs.Numbers.{is_integer}
use Rattle.vx_types.specs.Seen.{typ}
use Rattle.vx_types.specs.Typ.{Typ}
use Rattle.vx_types.specs.declared.dtype.DType.{DType}
use Rattle.vx_types.specs.declared.dtype.DType.TheVariants as D
use Rattle.vx_types.specs.declared.nullability.Nullability.{Nullability}
use Rattle.vx_numbers.specs.declared.ptype.PType.{PType}
use Rattle.vx_numbers.specs.declared.ptype.PType.TheVariants.{U8}
use Rattle.vx_proto.specs.Reads.{Reads}
use Rattle.vx_array_tree.specs.Body as B
use Rattle.vx_array_tree.specs.Encoding as E
use Rattle.vx_array_tree.specs.Encodings.Lists as Lists
use Rattle.vx_array_tree.specs.Encodings.Lists.{plan}
use Rattle.vx_array_tree.specs.Metadata.{Metadata}
use Rattle.vx_array_tree.specs.Metadata as M
use Rattle.vx_array_tree.specs.Place.{Place, place, numbers, is_len, when, before_validity, ptype_of, second_place}
use Rattle.vx_array_tree.specs.Table.{IsShaped, body_of, plan_of}
use Rattle.vx_array_tree.specs.Tree.{Tree, Trees, places, untold}
use Rattle.vx_array_tree.proofs.LawsOfPlaces.{places_count}
use Rattle.vx_array_tree.proofs.PlanCounts.{planned_count}
use Rattle.vx_arrays.specs.Refused.{RefusesMaking}
use Rattle.vx_rows.specs.declared.error.ArrayError.{ArrayError}
use Rattle.vx_encodings.proofs.ElementCounts.{list_metadata, list_read, list_kind_is_integer}
use Rattle.vx_encodings.proofs.Fitting.{constructor_refused}
use Rattle.vx_encodings.proofs.Singles.{single_unplanned, single_built}
use Rattle.vx_encodings.specs.ListMessage.{list_schema, list_value}
use Rattle.vx_encodings.specs.Steps.{IsPlanned, RefusesPlanning, RefusesMetadata, IsBuilt, RefusesBuilding, constructor_error}
use Rattle.vx_plans.specs.Plans.{RefusesPlaces}
use Rattle.vx_encodings.specs.declared.encoding.Encoding.TheVariants as C
use Rattle.vx_plans.specs.declared.error.EncodingError.{EncodingError}
use Rattle.vx_plans.specs.declared.error.EncodingError.TheVariants.{OutOfMemory, BadMetadata, BadShape}
use Rattle.vx_plans.specs.declared.head.ArrayHead.{ArrayHead}

-- ---- a plan

-- Bytes that are no message are no metadata.
pub lists_unread : (x : ExtMeaning) (error : EncodingError) (h : ArrayHead) → RefusesMetadata error list_schema 0 h.metadata → RefusesPlanning error x C.List h
lists_unread x OutOfMemory h u = tt
lists_unread x BadMetadata h u = λ v m. u _ (list_read x (typ h.dtype) h.metadata v m).reads
lists_unread x BadShape h u = absurd u
lists_unread x _ h u = absurd u

no_integer : (p : PType) → is_integer p ≡ false → IsTrue (is_integer p) → ⊥
no_integer p e t = absurd (cc)

-- Nor are those of a float kind.
pub lists_of_floats : (x : ExtMeaning) (h : ArrayHead) (n : ℕ) (p : PType) (t : Bool) → Reads list_schema 0 h.metadata (list_value n p) → t ≡ is_integer p → t ≡ false → RefusesPlanning BadMetadata x C.List h
lists_of_floats x h n p t r e f v m = no_integer p (sym e ∙ f) (list_kind_is_integer x (typ h.dtype) h.metadata v n p m r)

-- The plan of elements, offsets and a validity after them.
abbrev pub parts_plan : Typ → ℕ → PType → ℕ → ℕ → Option (List Place)
parts_plan e m p n k = when (is_len (suc n)) (before_validity (place e m ∷ place (numbers p) (suc n) ∷ []) n k)

abbrev pub kept : ℕ → PType → Lists.Metadata
kept m p = record { elements_len = m; offset_ptype = p }

plan_at : (d : DType) (e : Typ) (s : Nullability) (m : ℕ) (p : PType) (n k : ℕ) → d ≡ D.List e s → plan (typ d) n (kept m p) k ≡ parts_plan e m p n k
plan_at d e s m p n k q = ap (λ (z : DType). plan (typ z) n (kept m p) k) q

plan_none : (d : Typ) (n : ℕ) (v : Lists.Metadata) (k : ℕ) → ((s : Nullability) (e : Typ) → d ≡ node (list s) (more e end) → ⊥) → plan d n v k ≡ None
plan_none (node (list s) (more e end)) n v k h = absurd (h s e refl)
plan_none _ n v k h = refl

-- Where the type is of another kind, the shape does not fit.
pub lists_of_others : (x : ExtMeaning) (h : ArrayHead) (n : ℕ) (p : PType) (t : Bool) → Reads list_schema 0 h.metadata (list_value n p) → t ≡ is_integer p → t ≡ true → plan (typ h.dtype) h.len (kept n p) h.nchildren ≡ None → RefusesPlanning BadShape x C.List h
lists_of_others x h n p t r e f none = single_unplanned x C.List h (M.list (kept n p)) (list_metadata x (typ h.dtype) h.metadata n p r (sym e ∙ f)) none

-- The result for the parts is the result for the node.
pub lists_planned : (x : ExtMeaning) (h : ArrayHead) (r : Result (List Place) EncodingError) (m : ℕ) (p : PType) (t : Bool) (e f : Typ) (s : Nullability) → Reads list_schema 0 h.metadata (list_value m p) → t ≡ is_integer p → t ≡ true → h.dtype ≡ D.List e s → f ≡ e
    → IfOk r (λ ps. parts_plan f m p h.len h.nchildren ≡ Some ps) → IfOk r (λ ps. IsPlanned x C.List h ps)
lists_planned x h (Ok ps) m p t e f s shown i j q g a =
    record {
      value = M.list (kept m p);
      metadata = list_metadata x (typ h.dtype) h.metadata m p shown (sym i ∙ j);
      plan = plan_at h.dtype e s m p h.len h.nchildren q ∙ ap (λ (z : Typ). parts_plan z m p h.len h.nchildren) (sym g) ∙ a;
    }
lists_planned x h (Err error) m p t e f s shown i j q g a = tt

pub lists_without : (error : EncodingError) (x : ExtMeaning) (h : ArrayHead) (m : ℕ) (p : PType) (t : Bool) (e f : Typ) (s : Nullability) → Reads list_schema 0 h.metadata (list_value m p) → t ≡ is_integer p → t ≡ true → h.dtype ≡ D.List e s → f ≡ e
    → RefusesPlaces error (parts_plan f m p h.len h.nchildren) → RefusesPlanning error x C.List h
lists_without OutOfMemory x h m p t e f s shown i j q g w = tt
lists_without BadMetadata x h m p t e f s shown i j q g w = absurd w
lists_without BadShape x h m p t e f s shown i j q g w =
    lists_of_others x h m p t shown i j (plan_at h.dtype e s m p h.len h.nchildren q ∙ ap (λ (z : Typ). parts_plan z m p h.len h.nchildren) (sym g) ∙ w)
lists_without _ x h m p t e f s shown i j q g w = absurd w

-- ---- building

-- What was planned: metadata of a number of elements and a kind of integers, and the places of the children, as many as
-- there are.
pub record ListPlan (h : ArrayHead) (us : Trees) : Type 0 where
  pub elements_len : ℕ
  pub kind : PType
  pub reads : Reads list_schema 0 h.metadata (list_value elements_len kind)
  pub integer : IsTrue (is_integer kind)
  pub planned : plan (typ h.dtype) h.len (kept elements_len kind) (count us) ≡ Some (places us)

plan_some : (v : Metadata) (m : ℕ) (p : PType) (d : Typ) (n k : ℕ) (ps : List Place) → v ≡ M.list (kept m p) → plan_of E.list d n v k ≡ Some ps → plan d n (kept m p) k ≡ Some ps
plan_some v m p d n k ps e q = subst (λ (z : Metadata). plan_of E.list d n z k ≡ Some ps) e q

pub list_plan : (x : ExtMeaning) (h : ArrayHead) (us : Trees) → IsPlanned x C.List h (places us) → ListPlan h us
list_plan x h us p =
    let m = list_read x (typ h.dtype) h.metadata p.value p.metadata in
    let q = plan_some p.value m.elements_len m.offset_ptype (typ h.dtype) h.len h.nchildren (places us) m.value_is p.plan in
    let k : h.nchildren ≡ count us = sym (planned_count E.list (typ h.dtype) h.len (M.list (kept m.elements_len m.offset_ptype)) h.nchildren (places us) q) ∙ places_count us in
    record {
      elements_len = m.elements_len;
      kind = m.offset_ptype;
      reads = m.reads;
      integer = m.integer;
      planned = subst (λ (j : ℕ). plan (typ h.dtype) h.len (kept m.elements_len m.offset_ptype) j ≡ Some (places us)) k q;
    }

bodied : (v : Lists.Metadata) (bs : List Buffer) → bs ≡ [] → body_of E.list (M.list v) bs ≡ Some B.list
bodied v bs e = ap (λ (cs : List Buffer). body_of E.list (M.list v) cs) e

-- The array that is built has these parts.
pub lists_built : (x : ExtMeaning) (h : ArrayHead) (bs : List Buffer) (us : Trees) (t : Tree) → (y : ExtMeaning) × IsPlanned y C.List h (places us) → bs ≡ [] → t ≡ node (untold (typ h.dtype) h.len B.list) us → IsBuilt x C.List h bs us t
lists_built x h bs us t planned b w =
    let k = list_plan planned.0 h us planned.1 in
    single_built x C.List h (M.list (kept k.elements_len k.kind)) (list_metadata x (typ h.dtype) h.metadata k.elements_len k.kind k.reads k.integer) bs us B.list t (bodied (kept k.elements_len k.kind) bs b) w

-- Parts that the constructor refuses do not fit the row of a planned node.
pub lists_refused : (x : ExtMeaning) (error : ArrayError) (h : ArrayHead) (bs : List Buffer) (us : Trees) → (y : ExtMeaning) × IsPlanned y C.List h (places us) → bs ≡ []
    → RefusesMaking error (node (untold (typ h.dtype) h.len B.list) us) → RefusesBuilding (constructor_error error) x C.List h bs us
lists_refused x error h bs us planned b refused =
    let k = list_plan planned.0 h us planned.1 in
    constructor_refused x C.List h (M.list (kept k.elements_len k.kind)) (list_metadata x (typ h.dtype) h.metadata k.elements_len k.kind k.reads k.integer) error bs us B.list (node (untold (typ h.dtype) h.len B.list) us)
    (bodied (kept k.elements_len k.kind) bs b) k.integer k.planned refl tt refl refused

-- A node with buffers does not fit.
bufferless : (d : Typ) (n : ℕ) (v : Lists.Metadata) (bs : List Buffer) (k : ℕ) → bs ≢ [] → IsShaped E.list d n (M.list v) bs k → ⊥
bufferless d n v [] k none s = none refl
bufferless d n v (b ∷ bs) k none s = let f : None ≡ Some s.body = s.body_is in cc

pub lists_buffers : (x : ExtMeaning) (h : ArrayHead) (bs : List Buffer) (us : Trees) → (y : ExtMeaning) × IsPlanned y C.List h (places us) → bs ≢ [] → RefusesBuilding BadShape x C.List h bs us
lists_buffers x h bs us planned none =
    let k = list_plan planned.0 h us planned.1 in
    record {
      value = M.list (kept k.elements_len k.kind);
      metadata = list_metadata x (typ h.dtype) h.metadata k.elements_len k.kind k.reads k.integer;
      wrong = inl (bufferless (typ h.dtype) h.len (kept k.elements_len k.kind) bs (count us) none);
    }

-- Fewer than two children have no kind of offsets, so the first kind stands in.
pub lone_kind : (ts : List Tree) → length ts < 2 → U8 ≡ ptype_of (second_place (places (roses_of ts))).dtype
lone_kind [] h = refl
lone_kind (t ∷ []) h = refl
lone_kind (t ∷ u ∷ ts) h = absurd (omega (arith, h))

-- The lemmas for the steps of lists.
pub ruleset list_steps = (lists_unread, lists_of_floats, lists_of_others, lists_planned, lists_without, lists_built, lists_refused, lists_buffers)
