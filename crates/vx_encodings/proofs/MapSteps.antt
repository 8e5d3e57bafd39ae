-- The steps of nodes of maps.
use Rattle.std.proofs.Common.{ℕ, ◌≡◌, ◌≢◌, List, [], ◌∷◌, Some, None, Result, Ok, Err, IfOk, refl, ap, ◌∙◌, subst, inl}
use Rattle.vx_buffer.specs.Buffer.{Buffer}
use Rattle.vx_trees.specs.Rose.{node, end, more, count}
use Rattle.vx_types.specs.Kind.{list, map}
use Rattle.vx_types.specs.Known.{ExtMeaning}
use Rattle.vx_types.specs.Parts.{Entries}
use Rattle.vx_types.specs.Seen.{typ}
use Rattle.vx_types.specs.Typ.{Typ}
use Rattle.vx_types.specs.Words.{entries}
use Rattle.vx_types.specs.declared.dtype.DType.{DType}
use Rattle.vx_types.specs.declared.dtype.DType.TheVariants as D
use Rattle.vx_types.specs.declared.nullability.Nullability.{Nullability}
use Rattle.vx_array_tree.specs.Body as B
use Rattle.vx_array_tree.specs.Encoding as E
use Rattle.vx_array_tree.specs.Encodings.Maps.{plan}
use Rattle.vx_array_tree.specs.Metadata.{Metadata}
use Rattle.vx_array_tree.specs.Metadata as M
use Rattle.vx_array_tree.specs.Place.{Place, place, exactly}
use Rattle.vx_array_tree.specs.Table.{IsShaped, body_of, plan_of}
use Rattle.vx_array_tree.specs.Tree.{Tree, Trees, places, untold}
use Rattle.vx_arrays.specs.Refused.{RefusesMaking}
use Rattle.vx_rows.specs.declared.error.ArrayError.{ArrayError}
use Rattle.vx_encodings.proofs.Bare.{map_metadata, map_nothing}
use Rattle.vx_encodings.proofs.Fitting.{children_refused}
use Rattle.vx_encodings.proofs.Singles.{single_unplanned, single_built}
use Rattle.vx_encodings.proofs.UnionSteps.{exactly_many}
use Rattle.vx_encodings.specs.Steps.{IsPlanned, RefusesPlanning, IsBuilt, RefusesBuilding, constructor_error}
use Rattle.vx_plans.specs.Plans.{RefusesPlaces}
use Rattle.vx_encodings.specs.declared.encoding.Encoding.TheVariants.{Map}
use Rattle.vx_plans.specs.declared.error.EncodingError.{EncodingError}
use Rattle.vx_plans.specs.declared.error.EncodingError.TheVariants.{OutOfMemory, BadMetadata, BadShape}
use Rattle.vx_plans.specs.declared.head.ArrayHead.{ArrayHead}

-- ---- a plan

-- The place of the entries.
abbrev pub entries_place : Entries → Nullability → ℕ → Place
entries_place v s n = place (node (list s) (more (entries v) end)) n

-- Metadata that is not empty is refused.
pub maps_unread : (x : ExtMeaning) (h : ArrayHead) → h.metadata ≢ [] → RefusesPlanning BadMetadata x Map h
maps_unread x h b v m = b (map_nothing x (typ h.dtype) h.metadata v m).0

-- Where nothing is planned, the shape does not fit.
pub maps_unplanned : (x : ExtMeaning) (h : ArrayHead) → h.metadata ≡ [] → plan (typ h.dtype) h.len h.nchildren ≡ None → RefusesPlanning BadShape x Map h
maps_unplanned x h b e = single_unplanned x Map h M.empty (map_metadata x (typ h.dtype) h.metadata b) e

plan_at : (d : DType) (v : Entries) (s : Nullability) (n k : ℕ) → d ≡ D.Map v s → plan (typ d) n k ≡ exactly (entries_place v s n ∷ []) k
plan_at d v s n k q = ap (λ (z : DType). plan (typ z) n k) q

-- The result for the entries is the result for the node.
pub maps_planned : (x : ExtMeaning) (h : ArrayHead) (r : Result (List Place) EncodingError) (v : Entries) (s : Nullability) → h.metadata ≡ [] → h.dtype ≡ D.Map v s
    → IfOk r (λ ps. exactly (entries_place v s h.len ∷ []) h.nchildren ≡ Some ps) → IfOk r (λ ps. IsPlanned x Map h ps)
maps_planned x h (Ok ps) v s b q p = record { value = M.empty; metadata = map_metadata x (typ h.dtype) h.metadata b; plan = plan_at h.dtype v s h.len h.nchildren q ∙ p }
maps_planned x h (Err error) v s b q p = tt

pub maps_without : (error : EncodingError) (x : ExtMeaning) (h : ArrayHead) (v : Entries) (s : Nullability) → h.metadata ≡ [] → h.dtype ≡ D.Map v s
    → RefusesPlaces error (exactly (entries_place v s h.len ∷ []) h.nchildren) → RefusesPlanning error x Map h
maps_without OutOfMemory x h v s b q w = tt
maps_without BadMetadata x h v s b q w = absurd w
maps_without BadShape x h v s b q w = maps_unplanned x h b (plan_at h.dtype v s h.len h.nchildren q ∙ w)
maps_without _ x h v s b q w = absurd w

-- ---- building

plan_some : (v : Metadata) (d : Typ) (n k : ℕ) (ps : List Place) → v ≡ M.empty → plan_of E.map d n v k ≡ Some ps → plan d n k ≡ Some ps
plan_some v d n k ps e p = subst (λ (z : Metadata). plan_of E.map d n z k ≡ Some ps) e p

count_of : (d : Typ) (n k : ℕ) (us : Trees) → plan d n k ≡ Some (places us) → k ≡ count us
count_of (node (map b s) (more x (more y end))) n k us p = exactly_many (entries_place (record { key = x; value = y; keys_sorted = b }) s n ∷ []) k us p
count_of _ n k us p = absurd (cc)

-- What was planned: no byte of metadata, and the places of the children, as many as there are.
pub record MapPlan (h : ArrayHead) (us : Trees) : Type 0 where
  pub no_byte : h.metadata ≡ []
  pub planned : plan (typ h.dtype) h.len (count us) ≡ Some (places us)

pub map_plan : (x : ExtMeaning) (h : ArrayHead) (us : Trees) → IsPlanned x Map h (places us) → MapPlan h us
map_plan x h us p =
    let m = map_nothing x (typ h.dtype) h.metadata p.value p.metadata in
    let q = plan_some p.value (typ h.dtype) h.len h.nchildren (places us) m.1 p.plan in
    record { no_byte = m.0; planned = subst (λ (k : ℕ). plan (typ h.dtype) h.len k ≡ Some (places us)) (count_of (typ h.dtype) h.len h.nchildren us q) q }

bodied : (bs : List Buffer) → bs ≡ [] → body_of E.map M.empty bs ≡ Some B.map
bodied bs e = ap (λ (cs : List Buffer). body_of E.map M.empty cs) e

-- The array that is built has these parts.
pub maps_built : (x : ExtMeaning) (h : ArrayHead) (bs : List Buffer) (us : Trees) (t : Tree) → (y : ExtMeaning) × IsPlanned y Map h (places us) → bs ≡ [] → t ≡ node (untold (typ h.dtype) h.len B.map) us → IsBuilt x Map h bs us t
maps_built x h bs us t planned b w =
    let k = map_plan planned.0 h us planned.1 in
    single_built x Map h M.empty (map_metadata x (typ h.dtype) h.metadata k.no_byte) bs us B.map t (bodied bs b) w

-- Parts that the constructor refuses do not fit the row of a planned node: where their shape is right, the entries are
-- no list view.
pub maps_refused : (x : ExtMeaning) (error : ArrayError) (h : ArrayHead) (bs : List Buffer) (us : Trees) → (y : ExtMeaning) × IsPlanned y Map h (places us) → bs ≡ []
    → RefusesMaking error (node (untold (typ h.dtype) h.len B.map) us) → RefusesBuilding (constructor_error error) x Map h bs us
maps_refused x error h bs us planned b refused =
    let k = map_plan planned.0 h us planned.1 in
    children_refused x Map h M.empty (map_metadata x (typ h.dtype) h.metadata k.no_byte) error bs us B.map (node (untold (typ h.dtype) h.len B.map) us) (bodied bs b) tt k.planned refl refl refused

-- A node with buffers does not fit.
bufferless : (d : Typ) (n : ℕ) (bs : List Buffer) (k : ℕ) → bs ≢ [] → IsShaped E.map d n M.empty bs k → ⊥
bufferless d n [] k none s = none refl
bufferless d n (b ∷ bs) k none s = let f : None ≡ Some s.body = s.body_is in cc

pub maps_buffers : (x : ExtMeaning) (h : ArrayHead) (bs : List Buffer) (us : Trees) → (y : ExtMeaning) × IsPlanned y Map h (places us) → bs ≢ [] → RefusesBuilding BadShape x Map h bs us
maps_buffers x h bs us planned none =
    record {
      value = M.empty;
      metadata = map_metadata x (typ h.dtype) h.metadata (map_plan planned.0 h us planned.1).no_byte;
      wrong = inl (bufferless (typ h.dtype) h.len bs (count us) none);
    }

-- The lemmas for the steps of maps.
pub ruleset map_steps = (maps_unread, maps_unplanned, maps_without, maps_built, maps_refused, maps_buffers)
