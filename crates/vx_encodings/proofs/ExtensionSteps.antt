-- The steps of nodes of extensions.
use Rattle.std.proofs.Common.{ℕ, zero, suc, ◌≡◌, ◌≢◌, List, [], ◌∷◌, Some, None, Result, Ok, Err, IfOk, refl, sym, ap, ◌∙◌, subst, inl}
use Rattle.vx_buffer.specs.Buffer.{Buffer}
use Rattle.vx_trees.specs.Rose.{node, end, more, count}
use Rattle.vx_types.specs.Kind.{extension}
use Rattle.vx_types.specs.Known.{ExtMeaning}
use Rattle.vx_types.specs.Parts as P
use Rattle.vx_types.specs.Seen.{typ}
use Rattle.vx_types.specs.Typ.{Typ}
use Rattle.vx_types.specs.declared.dtype.DType.{DType}
use Rattle.vx_types.specs.declared.dtype.DType.TheVariants as D
use Rattle.vx_array_tree.specs.Body as B
use Rattle.vx_array_tree.specs.Encoding as E
use Rattle.vx_array_tree.specs.Encodings.Exts.{plan}
use Rattle.vx_array_tree.specs.Metadata.{Metadata}
use Rattle.vx_array_tree.specs.Metadata as M
use Rattle.vx_array_tree.specs.Place.{Place, place, exactly}
use Rattle.vx_array_tree.specs.Table.{IsShaped, body_of, plan_of}
use Rattle.vx_array_tree.specs.Tree.{Tree, Trees, places, untold}
use Rattle.vx_arrays.specs.Refused.{RefusesMaking}
use Rattle.vx_rows.specs.declared.error.ArrayError.{ArrayError}
use Rattle.vx_encodings.proofs.Bare.{ext_metadata, ext_nothing}
use Rattle.vx_encodings.proofs.Fitting.{constructor_refused}
use Rattle.vx_encodings.proofs.Singles.{single_unplanned, single_built}
use Rattle.vx_encodings.specs.Steps.{IsPlanned, RefusesPlanning, IsBuilt, RefusesBuilding, constructor_error}
use Rattle.vx_plans.specs.Plans.{RefusesPlaces}
use Rattle.vx_encodings.specs.declared.encoding.Encoding.TheVariants.{Extension}
use Rattle.vx_plans.specs.declared.error.EncodingError.{EncodingError}
use Rattle.vx_plans.specs.declared.error.EncodingError.TheVariants.{OutOfMemory, BadMetadata, BadShape}
use Rattle.vx_plans.specs.declared.head.ArrayHead.{ArrayHead}

-- ---- a plan

-- Metadata that is not empty is refused.
pub extensions_unread : (x : ExtMeaning) (h : ArrayHead) → h.metadata ≢ [] → RefusesPlanning BadMetadata x Extension h
extensions_unread x h b v m = b (ext_nothing x (typ h.dtype) h.metadata v m).0

-- Where nothing is planned, the shape does not fit.
pub extensions_unplanned : (x : ExtMeaning) (h : ArrayHead) → h.metadata ≡ [] → plan (typ h.dtype) h.len h.nchildren ≡ None → RefusesPlanning BadShape x Extension h
extensions_unplanned x h b e = single_unplanned x Extension h M.empty (ext_metadata x (typ h.dtype) h.metadata b) e

plan_at : (d : DType) (e : P.Ext) (n k : ℕ) → d ≡ D.Extension e → plan (typ d) n k ≡ exactly (place e.storage n ∷ []) k
plan_at d e n k q = ap (λ (z : DType). plan (typ z) n k) q

-- The result for the storage is the result for the node.
pub extensions_planned : (x : ExtMeaning) (h : ArrayHead) (r : Result (List Place) EncodingError) (e : P.Ext) (f : Typ) → h.metadata ≡ [] → h.dtype ≡ D.Extension e → f ≡ e.storage
    → IfOk r (λ ps. exactly (place f h.len ∷ []) h.nchildren ≡ Some ps) → IfOk r (λ ps. IsPlanned x Extension h ps)
extensions_planned x h (Ok ps) e f b q g p =
    record { value = M.empty; metadata = ext_metadata x (typ h.dtype) h.metadata b; plan = plan_at h.dtype e h.len h.nchildren q ∙ ap (λ (z : Typ). exactly (place z h.len ∷ []) h.nchildren) (sym g) ∙ p }
extensions_planned x h (Err error) e f b q g p = tt

pub extensions_without : (error : EncodingError) (x : ExtMeaning) (h : ArrayHead) (e : P.Ext) (f : Typ) → h.metadata ≡ [] → h.dtype ≡ D.Extension e → f ≡ e.storage
    → RefusesPlaces error (exactly (place f h.len ∷ []) h.nchildren) → RefusesPlanning error x Extension h
extensions_without OutOfMemory x h e f b q g w = tt
extensions_without BadMetadata x h e f b q g w = absurd w
extensions_without BadShape x h e f b q g w = extensions_unplanned x h b (plan_at h.dtype e h.len h.nchildren q ∙ ap (λ (z : Typ). exactly (place z h.len ∷ []) h.nchildren) (sym g) ∙ w)
extensions_without _ x h e f b q g w = absurd w

-- ---- building

plan_some : (v : Metadata) (d : Typ) (n k : ℕ) (ps : List Place) → v ≡ M.empty → plan_of E.ext d n v k ≡ Some ps → plan d n k ≡ Some ps
plan_some v d n k ps e p = subst (λ (z : Metadata). plan_of E.ext d n z k ≡ Some ps) e p

counted_of : (d : Typ) (n k : ℕ) (us : Trees) → plan d n k ≡ Some (places us) → k ≡ count us
counted_of (node (extension x bs) (more e end)) n zero us p = absurd (cc)
counted_of (node (extension x bs) (more e end)) n (suc zero) end p = absurd (cc)
counted_of (node (extension x bs) (more e end)) n (suc zero) (more t end) p = refl
counted_of (node (extension x bs) (more e end)) n (suc zero) (more t (more u us)) p = absurd (cc)
counted_of (node (extension x bs) (more e end)) n (suc (suc k)) us p = absurd (cc)
counted_of _ n k us p = absurd (cc)

-- What was planned: no byte of metadata, and the places of the children, as many as there are.
pub record ExtensionPlan (h : ArrayHead) (us : Trees) : Type 0 where
  pub no_byte : h.metadata ≡ []
  pub planned : plan (typ h.dtype) h.len (count us) ≡ Some (places us)

pub extension_plan : (x : ExtMeaning) (h : ArrayHead) (us : Trees) → IsPlanned x Extension h (places us) → ExtensionPlan h us
extension_plan x h us p =
    let m = ext_nothing x (typ h.dtype) h.metadata p.value p.metadata in
    let q = plan_some p.value (typ h.dtype) h.len h.nchildren (places us) m.1 p.plan in
    record { no_byte = m.0; planned = subst (λ (k : ℕ). plan (typ h.dtype) h.len k ≡ Some (places us)) (counted_of (typ h.dtype) h.len h.nchildren us q) q }

bodied : (bs : List Buffer) → bs ≡ [] → body_of E.ext M.empty bs ≡ Some B.ext
bodied bs e = ap (λ (cs : List Buffer). body_of E.ext M.empty cs) e

-- The array that is built has these parts.
pub extensions_built : (x : ExtMeaning) (h : ArrayHead) (bs : List Buffer) (us : Trees) (t : Tree) → (y : ExtMeaning) × IsPlanned y Extension h (places us) → bs ≡ [] → t ≡ node (untold (typ h.dtype) h.len B.ext) us → IsBuilt x Extension h bs us t
extensions_built x h bs us t planned b w =
    let k = extension_plan planned.0 h us planned.1 in
    single_built x Extension h M.empty (ext_metadata x (typ h.dtype) h.metadata k.no_byte) bs us B.ext t (bodied bs b) w

-- Parts that the constructor refuses do not fit the row of a planned node.
pub extensions_refused : (x : ExtMeaning) (error : ArrayError) (h : ArrayHead) (bs : List Buffer) (us : Trees) → (y : ExtMeaning) × IsPlanned y Extension h (places us) → bs ≡ []
    → RefusesMaking error (node (untold (typ h.dtype) h.len B.ext) us) → RefusesBuilding (constructor_error error) x Extension h bs us
extensions_refused x error h bs us planned b refused =
    let k = extension_plan planned.0 h us planned.1 in
    constructor_refused x Extension h M.empty (ext_metadata x (typ h.dtype) h.metadata k.no_byte) error bs us B.ext (node (untold (typ h.dtype) h.len B.ext) us) (bodied bs b) tt k.planned refl tt refl refused

-- A node with buffers does not fit.
bufferless : (d : Typ) (n : ℕ) (bs : List Buffer) (k : ℕ) → bs ≢ [] → IsShaped E.ext d n M.empty bs k → ⊥
bufferless d n [] k none s = none refl
bufferless d n (b ∷ bs) k none s = let f : None ≡ Some s.body = s.body_is in cc

pub extensions_buffers : (x : ExtMeaning) (h : ArrayHead) (bs : List Buffer) (us : Trees) → (y : ExtMeaning) × IsPlanned y Extension h (places us) → bs ≢ [] → RefusesBuilding BadShape x Extension h bs us
extensions_buffers x h bs us planned none =
    record {
      value = M.empty;
      metadata = ext_metadata x (typ h.dtype) h.metadata (extension_plan planned.0 h us planned.1).no_byte;
      wrong = inl (bufferless (typ h.dtype) h.len bs (count us) none);
    }

-- The lemmas for the steps of extensions.
pub ruleset extension_steps = (extensions_unread, extensions_unplanned, extensions_planned, extensions_without, extensions_built, extensions_refused, extensions_buffers)
