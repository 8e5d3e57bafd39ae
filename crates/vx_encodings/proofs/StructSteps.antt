-- The steps of nodes of structures.
use Rattle.std.proofs.Common.{ℕ, suc, ◌≡◌, ◌≢◌, ◌<◌, ◌≤◌, ◌+◌, List, [], ◌∷◌, ◌++◌, Some, None, Result, Ok, Err, IfOk, refl, sym, ap, ◌∙◌, subst, inl, inr, length, drop, get_or, append_assoc}
use Rattle.std.proofs.lemmas.List.{append-nil, drop_more, drop_all}
use Rattle.vx_buffer.specs.Buffer.{Buffer}
use Rattle.vx_trees.specs.Rose.{node, roses_of, count}
use Rattle.vx_types.specs.Kind.{structure}
use Rattle.vx_types.specs.Known.{ExtMeaning}
use Rattle.vx_types.specs.Parts.{Fields}
use Rattle.vx_types.specs.Seen.{typ, typs}
use Rattle.vx_types.specs.Typ.{Typ}
use Rattle.vx_types.specs.declared.dtype.DType.{DType}
use Rattle.vx_types.specs.declared.dtype.DType.TheVariants as D
use Rattle.vx_types.specs.declared.nullability.Nullability.{Nullability}
use Rattle.vx_array_tree.specs.Body as B
use Rattle.vx_array_tree.specs.Encoding as E
use Rattle.vx_array_tree.specs.Encodings.Structs.{plan}
use Rattle.vx_array_tree.specs.Metadata.{Metadata}
use Rattle.vx_array_tree.specs.Metadata as M
use Rattle.vx_array_tree.specs.Place.{Place, place, places_at, validity_place}
use Rattle.vx_array_tree.specs.Place.{after_validity as after}
use Rattle.vx_array_tree.specs.Table.{IsShaped, body_of, plan_of}
use Rattle.vx_array_tree.specs.Tree.{Tree, Trees, places, untold}
use Rattle.vx_arrays.specs.Refused.{RefusesMaking}
use Rattle.vx_arrays.specs.Structs.{IsOfFields, struct_head}
use Rattle.vx_rows.specs.declared.error.ArrayError.{ArrayError}
use Rattle.vx_encodings.proofs.Bare.{struct_metadata, struct_nothing}
use Rattle.vx_encodings.proofs.Fitting.{constructor_refused}
use Rattle.vx_array_tree.proofs.LawsOfPlaces.{IsAfter, after_is, after_self, after_one, after_other, places_count}
use Rattle.vx_encodings.proofs.Singles.{single_unplanned, single_built}
use Rattle.vx_encodings.specs.Steps.{IsPlanned, RefusesPlanning, IsBuilt, RefusesBuilding, constructor_error}
use Rattle.vx_plans.specs.Plans.{RefusesPlaces}
use Rattle.vx_encodings.specs.declared.encoding.Encoding.TheVariants.{Struct}
use Rattle.vx_plans.specs.declared.error.EncodingError.{EncodingError}
use Rattle.vx_plans.specs.declared.error.EncodingError.TheVariants.{OutOfMemory, BadMetadata, BadShape}
use Rattle.vx_plans.specs.declared.head.ArrayHead.{ArrayHead}

-- ---- a plan

-- Metadata that is not empty is refused.
pub structures_unread : (x : ExtMeaning) (h : ArrayHead) → h.metadata ≢ [] → RefusesPlanning BadMetadata x Struct h
structures_unread x h b v m = b (struct_nothing x (typ h.dtype) h.metadata v m).0

-- Where nothing is planned, the shape does not fit.
pub structures_unplanned : (x : ExtMeaning) (h : ArrayHead) → h.metadata ≡ [] → plan (typ h.dtype) h.len h.nchildren ≡ None → RefusesPlanning BadShape x Struct h
structures_unplanned x h b e = single_unplanned x Struct h M.empty (struct_metadata x (typ h.dtype) h.metadata b) e

plan_at : (d : DType) (f : Fields) (m : Nullability) (n k : ℕ) → d ≡ D.Struct f m → plan (typ d) n k ≡ after (places_at (roses_of f.types) n) n k
plan_at d f m n k q = ap (λ (z : DType). plan (typ z) n k) q

-- The result for a validity and the fields is the result for the node.
pub structures_planned : (x : ExtMeaning) (h : ArrayHead) (r : Result (List Place) EncodingError) (f : Fields) (ds : List Typ) (m : Nullability) → h.metadata ≡ [] → h.dtype ≡ D.Struct f m → ds ≡ f.types
    → IfOk r (λ ps. after (places_at (roses_of ds) h.len) h.len h.nchildren ≡ Some ps) → IfOk r (λ ps. IsPlanned x Struct h ps)
structures_planned x h (Ok ps) f ds m b q g p =
    record {
      value = M.empty;
      metadata = struct_metadata x (typ h.dtype) h.metadata b;
      plan = plan_at h.dtype f m h.len h.nchildren q ∙ ap (λ (zs : List Typ). after (places_at (roses_of zs) h.len) h.len h.nchildren) (sym g) ∙ p;
    }
structures_planned x h (Err error) f ds m b q g p = tt

pub structures_without : (error : EncodingError) (x : ExtMeaning) (h : ArrayHead) (f : Fields) (ds : List Typ) (m : Nullability) → h.metadata ≡ [] → h.dtype ≡ D.Struct f m → ds ≡ f.types
    → RefusesPlaces error (after (places_at (roses_of ds) h.len) h.len h.nchildren) → RefusesPlanning error x Struct h
structures_without OutOfMemory x h f ds m b q g w = tt
structures_without BadMetadata x h f ds m b q g w = absurd w
structures_without BadShape x h f ds m b q g w =
    structures_unplanned x h b (plan_at h.dtype f m h.len h.nchildren q ∙ ap (λ (zs : List Typ). after (places_at (roses_of zs) h.len) h.len h.nchildren) (sym g) ∙ w)
structures_without _ x h f ds m b q g w = absurd w

-- A place for each field.
pub fields_length : (ds : List DType) (n : ℕ) → length (places_at (roses_of (typs ds)) n) ≡ length ds
fields_length [] n = refl
fields_length (d ∷ ds) n = ap (λ k. suc k) (fields_length ds n)

without_front : (ds : List DType) (n k : ℕ) → k ≡ length ds → after (places_at (roses_of (typs ds)) n) n k ≡ Some (places_at (roses_of (typs ds)) n)
without_front ds n k e = after_self (places_at (roses_of (typs ds)) n) n k (e ∙ sym (fields_length ds n))

with_front : (ds : List DType) (n k : ℕ) → k ≡ suc (length ds) → after (places_at (roses_of (typs ds)) n) n k ≡ Some (validity_place n ∷ places_at (roses_of (typs ds)) n)
with_front ds n k e = after_one (places_at (roses_of (typs ds)) n) n k (e ∙ ap (λ j. suc j) (sym (fields_length ds n)))

pub in_no_way : (ds : List DType) (n k : ℕ) → (k ≡ length ds → ⊥) → (k ≡ suc (length ds) → ⊥) → after (places_at (roses_of (typs ds)) n) n k ≡ None
in_no_way ds n k h g =
    after_other (places_at (roses_of (typs ds)) n) n k (λ e. h (e ∙ fields_length ds n)) (λ e. g (e ∙ ap (λ j. suc j) (fields_length ds n)))

-- The result for the fields after these places is the result for an optional validity in front of them.
pub without_front_planned : (r : Result (List Place) EncodingError) (front : List Place) (ds : List DType) (n k : ℕ) → front ≡ [] → k ≡ length ds
    → IfOk r (λ ps. ps ≡ front ++ places_at (roses_of (typs ds)) n) → IfOk r (λ ps. after (places_at (roses_of (typs ds)) n) n k ≡ Some ps)
without_front_planned (Ok ps) front ds n k f e p =
    without_front ds n k e ∙ ap (λ (qs : List Place). Some qs) (sym (p ∙ ap (λ (qs : List Place). qs ++ places_at (roses_of (typs ds)) n) f))
without_front_planned (Err error) front ds n k f e p = tt

pub with_front_planned : (r : Result (List Place) EncodingError) (front none : List Place) (v : Place) (ds : List DType) (n k : ℕ) → none ≡ [] → v ≡ validity_place n → front ≡ none ++ v ∷ [] → k ≡ suc (length ds)
    → IfOk r (λ ps. ps ≡ front ++ places_at (roses_of (typs ds)) n) → IfOk r (λ ps. after (places_at (roses_of (typs ds)) n) n k ≡ Some ps)
with_front_planned (Ok ps) front none v ds n k o w f e p =
    let q = f ∙ ap (λ (qs : List Place). qs ++ v ∷ []) o ∙ ap (λ (z : Place). z ∷ []) w in
    with_front ds n k e ∙ ap (λ (qs : List Place). Some qs) (sym (p ∙ ap (λ (qs : List Place). qs ++ places_at (roses_of (typs ds)) n) q))
with_front_planned (Err error) front none v ds n k o w f e p = tt

-- The places so far and those of the fields that are left are all; the same holds with one place more, and at the end
-- no field is left.
pub fields_more : (so_far all : List Place) (p : Place) (ds : List DType) (n i : ℕ) (d : DType) → i < length ds → d ≡ get_or ds i d → p ≡ place (typ d) n
    → so_far ++ places_at (roses_of (typs (drop i ds))) n ≡ all → (so_far ++ p ∷ []) ++ places_at (roses_of (typs (drop (i + 1) ds))) n ≡ all
fields_more so_far all p ds n i d lt is planned kept =
    append_assoc so_far (p ∷ []) (places_at (roses_of (typs (drop (i + 1) ds))) n)
    ∙ ap (λ (q : Place). so_far ++ q ∷ places_at (roses_of (typs (drop (i + 1) ds))) n) planned
    ∙ ap (λ (es : List DType). so_far ++ places_at (roses_of (typs es)) n) (sym (drop_more ds i d lt ∙ ap (λ (e : DType). e ∷ drop (i + 1) ds) (sym is)))
    ∙ kept

pub fields_done : (so_far all : List Place) (ds : List DType) (n i : ℕ) → length ds ≤ i → so_far ++ places_at (roses_of (typs (drop i ds))) n ≡ all → so_far ≡ all
fields_done so_far all ds n i le kept = sym (append-nil so_far) ∙ ap (λ (es : List DType). so_far ++ places_at (roses_of (typs es)) n) (sym (drop_all i ds le)) ∙ kept

-- ---- building

-- What was planned: no byte of metadata, a type of structures, and the places of the children.
pub record StructPlan (h : ArrayHead) (us : Trees) : Type 0 where
  pub no_byte : h.metadata ≡ []
  pub fielded : IsOfFields (typ h.dtype)
  pub planned : plan (typ h.dtype) h.len h.nchildren ≡ Some (places us)

plan_some : (v : Metadata) (d : Typ) (n k : ℕ) (ps : List Place) → v ≡ M.empty → plan_of E.struct d n v k ≡ Some ps → plan d n k ≡ Some ps
plan_some v d n k ps e p = subst (λ (z : Metadata). plan_of E.struct d n z k ≡ Some ps) e p

fielded_so : (d : Typ) (n k : ℕ) (ps : List Place) → plan d n k ≡ Some ps → IsOfFields d
fielded_so (node (structure names m) ts) n k ps p = tt
fielded_so _ n k ps p = absurd (cc)

pub structures_plan : (x : ExtMeaning) (h : ArrayHead) (us : Trees) → IsPlanned x Struct h (places us) → StructPlan h us
structures_plan x h us p =
    let m = struct_nothing x (typ h.dtype) h.metadata p.value p.metadata in
    let q = plan_some p.value (typ h.dtype) h.len h.nchildren (places us) m.1 p.plan in
    record { no_byte = m.0; fielded = fielded_so (typ h.dtype) h.len h.nchildren (places us) q; planned = q }

pub structures_fielded : (h : ArrayHead) (us : Trees) → (y : ExtMeaning) × IsPlanned y Struct h (places us) → IsOfFields (typ h.dtype)
structures_fielded h us planned = (structures_plan planned.0 h us planned.1).fielded

after_count : (ps : List Place) (n k : ℕ) (us : Trees) → after ps n k ≡ Some (places us) → k ≡ count us
after_count ps n k us p = by (after_is ps n k (places us) p)
  where
    by : IsAfter ps n k (places us) → k ≡ count us
    by b = elim (b.ways) [
      | inl x ↦ x.0 ∙ ap (λ (qs : List Place). length qs) (sym x.1) ∙ places_count us
      | inr x ↦ x.0 ∙ ap (λ (qs : List Place). length qs) (sym x.1) ∙ places_count us
    ]

count_of : (d : Typ) (n k : ℕ) (us : Trees) → plan d n k ≡ Some (places us) → k ≡ count us
count_of (node (structure names m) ts) n k us p = after_count (places_at ts n) n k us p
count_of _ n k us p = absurd (cc)

-- What the constructor makes is the node of the head's type and length over the children.
made : (h : ArrayHead) (us : Trees) (f : Fields) (m : Nullability) → h.dtype ≡ D.Struct f m → node (struct_head f m h.len) us ≡ node (untold (typ h.dtype) h.len B.struct) us
made h us f m q = ap (λ (z : DType). node (untold (typ z) h.len B.struct) us) (sym q)

bodied : (bs : List Buffer) → bs ≡ [] → body_of E.struct M.empty bs ≡ Some B.struct
bodied bs e = ap (λ (cs : List Buffer). body_of E.struct M.empty cs) e

-- The array that is built has these parts.
pub structures_built : (x : ExtMeaning) (h : ArrayHead) (bs : List Buffer) (us : Trees) (f : Fields) (m : Nullability) (t : Tree)
    → (y : ExtMeaning) × IsPlanned y Struct h (places us) → bs ≡ [] → h.dtype ≡ D.Struct f m → t ≡ node (struct_head f m h.len) us → IsBuilt x Struct h bs us t
structures_built x h bs us f m t planned b q w =
    let k = structures_plan planned.0 h us planned.1 in
    single_built x Struct h M.empty (struct_metadata x (typ h.dtype) h.metadata k.no_byte) bs us B.struct t (bodied bs b) (w ∙ made h us f m q)

-- Parts that the constructor refuses do not fit the row of a planned node.
pub structures_refused : (x : ExtMeaning) (error : ArrayError) (h : ArrayHead) (bs : List Buffer) (us : Trees) (f : Fields) (m : Nullability)
    → (y : ExtMeaning) × IsPlanned y Struct h (places us) → bs ≡ [] → h.dtype ≡ D.Struct f m → RefusesMaking error (node (struct_head f m h.len) us)
    → RefusesBuilding (constructor_error error) x Struct h bs us
structures_refused x error h bs us f m planned b q refused =
    let k = structures_plan planned.0 h us planned.1 in
    let counted : plan (typ h.dtype) h.len (count us) ≡ Some (places us) = subst (λ (j : ℕ). plan (typ h.dtype) h.len j ≡ Some (places us)) (count_of (typ h.dtype) h.len h.nchildren us k.planned) k.planned in
    constructor_refused x Struct h M.empty (struct_metadata x (typ h.dtype) h.metadata k.no_byte) error bs us B.struct (node (struct_head f m h.len) us)
    (bodied bs b) tt counted refl tt (made h us f m q) refused

-- A node with buffers does not fit.
bufferless : (d : Typ) (n : ℕ) (bs : List Buffer) (k : ℕ) → bs ≢ [] → IsShaped E.struct d n M.empty bs k → ⊥
bufferless d n [] k none s = none refl
bufferless d n (b ∷ bs) k none s = let f : None ≡ Some s.body = s.body_is in cc

pub structures_buffers : (x : ExtMeaning) (h : ArrayHead) (bs : List Buffer) (us : Trees) → (y : ExtMeaning) × IsPlanned y Struct h (places us) → bs ≢ [] → RefusesBuilding BadShape x Struct h bs us
structures_buffers x h bs us planned none =
    record {
      value = M.empty;
      metadata = struct_metadata x (typ h.dtype) h.metadata (structures_plan planned.0 h us planned.1).no_byte;
      wrong = inl (bufferless (typ h.dtype) h.len bs (count us) none);
    }

-- The lemmas for the steps of structures.
pub ruleset struct_steps = (structures_unread, structures_unplanned, structures_without, in_no_way, structures_fielded, structures_built, structures_refused, structures_buffers)
