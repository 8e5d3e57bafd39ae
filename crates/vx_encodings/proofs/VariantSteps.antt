-- The steps of nodes of variants.
use Rattle.std.proofs.Common.{ℕ, ◌≡◌, ◌≢◌, List, [], ◌∷◌, Option, Some, None, Result, Ok, Err, IfOk, IfErr, refl, sym, ap, ◌∙◌, subst, inl}
use Rattle.vx_buffer.specs.Buffer.{Buffer}
use Rattle.vx_trees.specs.Rose.{node, end, count}
use Rattle.vx_types.specs.Kind.{variant}
use Rattle.vx_types.specs.Known.{ExtMeaning}
use Rattle.vx_types.specs.Seen.{typ}
use Rattle.vx_types.specs.Typ.{Typ}
use Rattle.vx_types.specs.declared.dtype.DType.{DType}
use Rattle.vx_types.specs.declared.dtype.DType.TheVariants as D
use Rattle.vx_types.specs.declared.nullability.Nullability.{Nullability}
use Rattle.vx_array_tree.specs.Body as B
use Rattle.vx_array_tree.specs.Encoding as E
use Rattle.vx_array_tree.specs.Encodings.Variants.{plan}
use Rattle.vx_array_tree.specs.Metadata.{Metadata}
use Rattle.vx_array_tree.specs.Metadata as M
use Rattle.vx_array_tree.specs.Place.{Place, exactly}
use Rattle.vx_array_tree.specs.Table.{IsShaped, body_of, plan_of}
use Rattle.vx_array_tree.specs.Tree.{Tree, Trees, places, untold}
use Rattle.vx_array_tree.proofs.LawsOfPlaces.{places_count}
use Rattle.vx_array_tree.proofs.PlanCounts.{planned_count}
use Rattle.vx_arrays.specs.Refused.{RefusesMaking}
use Rattle.vx_rows.specs.declared.error.ArrayError.{ArrayError}
use Rattle.vx_encodings.proofs.Fitting.{children_refused}
use Rattle.vx_encodings.proofs.Singles.{single_unplanned, single_built}
use Rattle.vx_encodings.proofs.VariantFields.{variant_metadata, variant_read}
use Rattle.vx_encodings.specs.Steps.{IsPlanned, RefusesPlanning, IsBuilt, RefusesBuilding, constructor_error}
use Rattle.vx_plans.specs.Plans.{RefusesPlaces}
use Rattle.vx_encodings.specs.VariantMessage.{IsShredded, RefusesShredded, child_places}
use Rattle.vx_encodings.specs.declared.encoding.Encoding.{Encoding}
use Rattle.vx_encodings.specs.declared.encoding.Encoding.TheVariants.{Variant}
use Rattle.vx_plans.specs.declared.error.EncodingError.{EncodingError}
use Rattle.vx_plans.specs.declared.error.EncodingError.TheVariants.{OutOfMemory, BadMetadata, BadShape}
use Rattle.vx_plans.specs.declared.head.ArrayHead.{ArrayHead}

-- ---- a plan

-- Bytes that show no known type are no metadata.
pub variants_unread : (x : ExtMeaning) (error : EncodingError) (h : ArrayHead) → RefusesShredded error x h.metadata → RefusesPlanning error x Variant h
variants_unread x OutOfMemory h u = tt
variants_unread x BadMetadata h u = λ v m. let k = variant_read x (typ h.dtype) h.metadata v m in u k.shredded k.told
variants_unread x BadShape h u = absurd u
variants_unread x _ h u = absurd u

-- Where nothing is planned, the shape does not fit.
unplanned : (x : ExtMeaning) (h : ArrayHead) (s : Option Typ) → IsShredded x h.metadata s → plan (typ h.dtype) h.len s h.nchildren ≡ None → RefusesPlanning BadShape x Variant h
unplanned x h s k e = single_unplanned x Variant h (M.variant s) (variant_metadata x h.metadata (typ h.dtype) s k) e

pub variants_unplanned : (x : ExtMeaning) (h : ArrayHead) (bytes : List ℕ) (s : Option Typ) → bytes ≡ h.metadata → IsShredded x bytes s → plan (typ h.dtype) h.len s h.nchildren ≡ None → RefusesPlanning BadShape x Variant h
variants_unplanned x h bytes s same k e = unplanned x h s (subst (λ (z : List ℕ). IsShredded x z s) same k) e

plan_is : (m : Nullability) (n : ℕ) (s : Option Typ) (k : ℕ) → plan (node (variant m) end) n s k ≡ exactly (child_places (node (variant m) end) s n) k
plan_is m n None k = refl
plan_is m n (Some e) k = refl

plan_at : (d : DType) (m : Nullability) (n : ℕ) (s : Option Typ) (k : ℕ) → d ≡ D.Variant m → plan (typ d) n s k ≡ exactly (child_places (typ d) s n) k
plan_at d m n s k q = ap (λ (z : DType). plan (typ z) n s k) q ∙ plan_is m n s k ∙ ap (λ (z : DType). exactly (child_places (typ z) s n) k) (sym q)

-- The result for the core and the shredded child is the result for the node.
pub variants_planned : (x : ExtMeaning) (h : ArrayHead) (r : Result (List Place) EncodingError) (bytes : List ℕ) (s : Option Typ) (m : Nullability) → bytes ≡ h.metadata → IsShredded x bytes s → h.dtype ≡ D.Variant m
    → IfOk r (λ ps. exactly (child_places (typ h.dtype) s h.len) h.nchildren ≡ Some ps) → IfOk r (λ ps. IsPlanned x Variant h ps)
variants_planned x h (Ok ps) bytes s m same k q p =
    record { value = M.variant s; metadata = variant_metadata x h.metadata (typ h.dtype) s (subst (λ (z : List ℕ). IsShredded x z s) same k); plan = plan_at h.dtype m h.len s h.nchildren q ∙ p }
variants_planned x h (Err error) bytes s m same k q p = tt

without : (error : EncodingError) (x : ExtMeaning) (h : ArrayHead) (s : Option Typ) (m : Nullability) → IsShredded x h.metadata s → h.dtype ≡ D.Variant m
    → RefusesPlaces error (exactly (child_places (typ h.dtype) s h.len) h.nchildren) → RefusesPlanning error x Variant h
without OutOfMemory x h s m k q w = tt
without BadMetadata x h s m k q w = absurd w
without BadShape x h s m k q w = unplanned x h s k (plan_at h.dtype m h.len s h.nchildren q ∙ w)
without _ x h s m k q w = absurd w

pub variants_without : (x : ExtMeaning) (h : ArrayHead) (r : Result (List Place) EncodingError) (s : Option Typ) (m : Nullability) → IsShredded x h.metadata s → h.dtype ≡ D.Variant m
    → IfErr r (λ e. RefusesPlaces e (exactly (child_places (typ h.dtype) s h.len) h.nchildren)) → IfErr r (λ e. RefusesPlanning e x Variant h)
variants_without x h (Ok ps) s m k q w = tt
variants_without x h (Err error) s m k q w = without error x h s m k q w

-- What holds of the plan of variants holds of an encoding that is theirs.
pub planned_at : (x : ExtMeaning) (e : Encoding) (h : ArrayHead) (r : Result (List Place) EncodingError) → e ≡ Variant → IfOk r (λ ps. IsPlanned x Variant h ps) → IfOk r (λ ps. IsPlanned x e h ps)
planned_at x e h r q p = subst (λ (z : Encoding). IfOk r (λ ps. IsPlanned x z h ps)) (sym q) p

pub unplanned_at : (x : ExtMeaning) (e : Encoding) (h : ArrayHead) (r : Result (List Place) EncodingError) → e ≡ Variant → IfErr r (λ error. RefusesPlanning error x Variant h) → IfErr r (λ error. RefusesPlanning error x e h)
unplanned_at x e h r q p = subst (λ (z : Encoding). IfErr r (λ error. RefusesPlanning error x z h)) (sym q) p

-- ---- building

-- What was planned: what the metadata is read as, and the places of the children, as many as there are.
pub record VariantPlan (x : ExtMeaning) (h : ArrayHead) (us : Trees) : Type 0 where
  pub shredded : Option Typ
  pub told : IsShredded x h.metadata shredded
  pub planned : plan_of E.variant (typ h.dtype) h.len (M.variant shredded) (count us) ≡ Some (places us)

pub variant_plan : (x : ExtMeaning) (h : ArrayHead) (us : Trees) → IsPlanned x Variant h (places us) → VariantPlan x h us
variant_plan x h us p =
    let k = variant_read x (typ h.dtype) h.metadata p.value p.metadata in
    let q : plan_of E.variant (typ h.dtype) h.len (M.variant k.shredded) h.nchildren ≡ Some (places us) =
    subst (λ (z : Metadata). plan_of E.variant (typ h.dtype) h.len z h.nchildren ≡ Some (places us)) k.value_is p.plan in
    let c : h.nchildren ≡ count us = sym (planned_count E.variant (typ h.dtype) h.len (M.variant k.shredded) h.nchildren (places us) q) ∙ places_count us in
    record {
      shredded = k.shredded;
      told = k.told;
      planned = subst (λ (j : ℕ). plan_of E.variant (typ h.dtype) h.len (M.variant k.shredded) j ≡ Some (places us)) c q;
    }

bodied : (s : Option Typ) (bs : List Buffer) → bs ≡ [] → body_of E.variant (M.variant s) bs ≡ Some B.variant
bodied s bs e = ap (λ (cs : List Buffer). body_of E.variant (M.variant s) cs) e

-- The array that is built has these parts.
pub variants_built : (x : ExtMeaning) (h : ArrayHead) (bs : List Buffer) (us : Trees) (t : Tree) → IsPlanned x Variant h (places us) → bs ≡ [] → t ≡ node (untold (typ h.dtype) h.len B.variant) us → IsBuilt x Variant h bs us t
variants_built x h bs us t planned b w =
    let k = variant_plan x h us planned in
    single_built x Variant h (M.variant k.shredded) (variant_metadata x h.metadata (typ h.dtype) k.shredded k.told) bs us B.variant t (bodied k.shredded bs b) w

-- Parts that the constructor refuses do not fit the row of a planned node.
pub variants_refused : (x : ExtMeaning) (error : ArrayError) (h : ArrayHead) (bs : List Buffer) (us : Trees) → IsPlanned x Variant h (places us) → bs ≡ []
    → RefusesMaking error (node (untold (typ h.dtype) h.len B.variant) us) → RefusesBuilding (constructor_error error) x Variant h bs us
variants_refused x error h bs us planned b refused =
    let k = variant_plan x h us planned in
    children_refused x Variant h (M.variant k.shredded) (variant_metadata x h.metadata (typ h.dtype) k.shredded k.told) error bs us B.variant
    (node (untold (typ h.dtype) h.len B.variant) us) (bodied k.shredded bs b) k.told.is_type k.planned refl refl refused

-- A node with buffers does not fit.
bufferless : (d : Typ) (n : ℕ) (s : Option Typ) (bs : List Buffer) (k : ℕ) → bs ≢ [] → IsShaped E.variant d n (M.variant s) bs k → ⊥
bufferless d n s [] k none z = none refl
bufferless d n s (b ∷ bs) k none z = let f : None ≡ Some z.body = z.body_is in cc

pub variants_buffers : (x : ExtMeaning) (h : ArrayHead) (bs : List Buffer) (us : Trees) → IsPlanned x Variant h (places us) → bs ≢ [] → RefusesBuilding BadShape x Variant h bs us
variants_buffers x h bs us planned none =
    let k = variant_plan x h us planned in
    record {
      value = M.variant k.shredded;
      metadata = variant_metadata x h.metadata (typ h.dtype) k.shredded k.told;
      wrong = inl (bufferless (typ h.dtype) h.len k.shredded bs (count us) none);
    }

-- The lemmas for the steps of variants.
pub ruleset variant_steps = (variants_unread, variants_unplanned, variants_planned, variants_without, variants_built, variants_refused, variants_buffers)
