-- The steps of nodes of unions.
use Rattle.std.proofs.Common.{ℕ, suc, ◌≡◌, ◌≢◌, ◌+◌, List, [], ◌∷◌, ◌++◌, Some, None, Result, Ok, Err, IfOk, refl, sym, ap, ◌∙◌, subst, inl, length, add-one}
use Rattle.vx_buffer.specs.Buffer.{Buffer}
use Rattle.vx_trees.specs.Rose.{node, end, roses_of, count}
use Rattle.vx_types.specs.Kind.{primitive, union as union_kind}
use Rattle.vx_types.specs.Known.{ExtMeaning}
use Rattle.vx_types.specs.Parts.{Members}
use Rattle.vx_types.specs.Seen.{typ, typs}
use Rattle.vx_types.specs.Typ.{Typ}
use Rattle.vx_types.specs.declared.dtype.DType.{DType}
use Rattle.vx_types.specs.declared.dtype.DType.TheVariants as D
use Rattle.vx_types.specs.declared.nullability.Nullability.{Nullability}
use Rattle.vx_numbers.specs.declared.ptype.PType.TheVariants.{U8}
use Rattle.vx_array_tree.specs.Body as B
use Rattle.vx_array_tree.specs.Encoding as E
use Rattle.vx_array_tree.specs.Encodings.Unions.{plan}
use Rattle.vx_array_tree.specs.Metadata.{Metadata}
use Rattle.vx_array_tree.specs.Metadata as M
use Rattle.vx_array_tree.specs.Place.{Place, place, exactly, places_at}
use Rattle.vx_array_tree.specs.Table.{IsShaped, body_of, plan_of}
use Rattle.vx_array_tree.specs.Tree.{Tree, Trees, places, untold}
use Rattle.vx_array_tree.proofs.Plans.{exactly_is}
use Rattle.vx_arrays.specs.Refused.{RefusesMaking}
use Rattle.vx_rows.specs.declared.error.ArrayError.{ArrayError}
use Rattle.vx_encodings.proofs.Bare.{union_metadata, union_nothing}
use Rattle.vx_encodings.proofs.Fitting.{constructor_refused}
use Rattle.vx_array_tree.proofs.LawsOfPlaces.{exactly_self, exactly_none, exactly_count, places_count}
use Rattle.vx_encodings.proofs.Singles.{single_unplanned, single_built}
use Rattle.vx_encodings.proofs.StructSteps.{fields_length}
use Rattle.vx_encodings.specs.Steps.{IsPlanned, RefusesPlanning, IsBuilt, RefusesBuilding, constructor_error}
use Rattle.vx_plans.specs.Plans.{RefusesPlaces}
use Rattle.vx_encodings.specs.declared.encoding.Encoding.TheVariants.{Union}
use Rattle.vx_plans.specs.declared.error.EncodingError.{EncodingError}
use Rattle.vx_plans.specs.declared.error.EncodingError.TheVariants.{OutOfMemory, BadMetadata, BadShape}
use Rattle.vx_plans.specs.declared.head.ArrayHead.{ArrayHead}

-- ---- a plan

-- The places of the tags and of the members.
abbrev pub member_places : List Typ → Nullability → ℕ → List Place
member_places ds m n = place (node (primitive U8 m) end) n ∷ places_at (roses_of ds) n

-- There is one child more than there are members.
pub others_unplanned : (ds : List DType) (m : Nullability) (n k : ℕ) → k ≢ length ds + 1 → exactly (member_places (typs ds) m n) k ≡ None
others_unplanned ds m n k h = exactly_none (member_places (typs ds) m n) k (λ e. h (e ∙ ap (λ j. suc j) (fields_length ds n) ∙ sym (add-one (length ds))))

-- The result for the members after the tags is the result for both.
pub members_planned : (r : Result (List Place) EncodingError) (front none : List Place) (p : Place) (ds : List DType) (m : Nullability) (n k : ℕ) → none ≡ [] → p ≡ place (node (primitive U8 m) end) n → front ≡ none ++ p ∷ []
    → k ≡ length ds + 1 → IfOk r (λ ps. ps ≡ front ++ places_at (roses_of (typs ds)) n) → IfOk r (λ ps. exactly (member_places (typs ds) m n) k ≡ Some ps)
members_planned (Ok ps) front none p ds m n k o w f e q =
    let g : front ≡ place (node (primitive U8 m) end) n ∷ [] = f ∙ ap (λ (zs : List Place). zs ++ p ∷ []) o ∙ ap (λ (z : Place). z ∷ []) w in
    let l : k ≡ length (member_places (typs ds) m n) = e ∙ add-one (length ds) ∙ ap (λ j. suc j) (sym (fields_length ds n)) in
    ap (λ j. exactly (member_places (typs ds) m n) j) l ∙ exactly_self (member_places (typs ds) m n)
    ∙ ap (λ (zs : List Place). Some zs) (sym (q ∙ ap (λ (zs : List Place). zs ++ places_at (roses_of (typs ds)) n) g))
members_planned (Err error) front none p ds m n k o w f e q = tt

pub ruleset member_steps = (others_unplanned, members_planned)

-- Metadata that is not empty is refused.
pub unions_unread : (x : ExtMeaning) (h : ArrayHead) → h.metadata ≢ [] → RefusesPlanning BadMetadata x Union h
unions_unread x h b v m = b (union_nothing x (typ h.dtype) h.metadata v m).0

-- Where nothing is planned, the shape does not fit.
pub unions_unplanned : (x : ExtMeaning) (h : ArrayHead) → h.metadata ≡ [] → plan (typ h.dtype) h.len h.nchildren ≡ None → RefusesPlanning BadShape x Union h
unions_unplanned x h b e = single_unplanned x Union h M.empty (union_metadata x (typ h.dtype) h.metadata b) e

plan_at : (d : DType) (v : Members) (m : Nullability) (n k : ℕ) → d ≡ D.Union v m → plan (typ d) n k ≡ exactly (member_places v.types m n) k
plan_at d v m n k q = ap (λ (z : DType). plan (typ z) n k) q

-- The result for the tags and the members is the result for the node.
pub unions_planned : (x : ExtMeaning) (h : ArrayHead) (r : Result (List Place) EncodingError) (v : Members) (ds : List Typ) (m : Nullability) → h.metadata ≡ [] → h.dtype ≡ D.Union v m → ds ≡ v.types
    → IfOk r (λ ps. exactly (member_places ds m h.len) h.nchildren ≡ Some ps) → IfOk r (λ ps. IsPlanned x Union h ps)
unions_planned x h (Ok ps) v ds m b q g p =
    record {
      value = M.empty;
      metadata = union_metadata x (typ h.dtype) h.metadata b;
      plan = plan_at h.dtype v m h.len h.nchildren q ∙ ap (λ (zs : List Typ). exactly (member_places zs m h.len) h.nchildren) (sym g) ∙ p;
    }
unions_planned x h (Err error) v ds m b q g p = tt

pub unions_without : (error : EncodingError) (x : ExtMeaning) (h : ArrayHead) (v : Members) (ds : List Typ) (m : Nullability) → h.metadata ≡ [] → h.dtype ≡ D.Union v m → ds ≡ v.types
    → RefusesPlaces error (exactly (member_places ds m h.len) h.nchildren) → RefusesPlanning error x Union h
unions_without OutOfMemory x h v ds m b q g w = tt
unions_without BadMetadata x h v ds m b q g w = absurd w
unions_without BadShape x h v ds m b q g w =
    unions_unplanned x h b (plan_at h.dtype v m h.len h.nchildren q ∙ ap (λ (zs : List Typ). exactly (member_places zs m h.len) h.nchildren) (sym g) ∙ w)
unions_without _ x h v ds m b q g w = absurd w

-- ---- building

plan_some : (v : Metadata) (d : Typ) (n k : ℕ) (ps : List Place) → v ≡ M.empty → plan_of E.union d n v k ≡ Some ps → plan d n k ≡ Some ps
plan_some v d n k ps e p = subst (λ (z : Metadata). plan_of E.union d n z k ≡ Some ps) e p

pub exactly_many : (ps : List Place) (k : ℕ) (us : Trees) → exactly ps k ≡ Some (places us) → k ≡ count us
exactly_many ps k us p = exactly_count ps k (places us) p ∙ ap (λ (qs : List Place). length qs) (sym (exactly_is ps k (places us) p)) ∙ places_count us

count_of : (d : Typ) (n k : ℕ) (us : Trees) → plan d n k ≡ Some (places us) → k ≡ count us
count_of (node (union_kind ns ids m) ts) n k us p = exactly_many (place (node (primitive U8 m) end) n ∷ places_at ts n) k us p
count_of _ n k us p = absurd (cc)

-- What was planned: no byte of metadata, and the places of the children, as many as there are.
pub record UnionPlan (h : ArrayHead) (us : Trees) : Type 0 where
  pub no_byte : h.metadata ≡ []
  pub planned : plan (typ h.dtype) h.len (count us) ≡ Some (places us)

pub union_plan : (x : ExtMeaning) (h : ArrayHead) (us : Trees) → IsPlanned x Union h (places us) → UnionPlan h us
union_plan x h us p =
    let m = union_nothing x (typ h.dtype) h.metadata p.value p.metadata in
    let q = plan_some p.value (typ h.dtype) h.len h.nchildren (places us) m.1 p.plan in
    record { no_byte = m.0; planned = subst (λ (k : ℕ). plan (typ h.dtype) h.len k ≡ Some (places us)) (count_of (typ h.dtype) h.len h.nchildren us q) q }

bodied : (bs : List Buffer) → bs ≡ [] → body_of E.union M.empty bs ≡ Some B.union
bodied bs e = ap (λ (cs : List Buffer). body_of E.union M.empty cs) e

-- The array that is built has these parts.
pub unions_built : (x : ExtMeaning) (h : ArrayHead) (bs : List Buffer) (us : Trees) (t : Tree) → (y : ExtMeaning) × IsPlanned y Union h (places us) → bs ≡ [] → t ≡ node (untold (typ h.dtype) h.len B.union) us → IsBuilt x Union h bs us t
unions_built x h bs us t planned b w =
    let k = union_plan planned.0 h us planned.1 in
    single_built x Union h M.empty (union_metadata x (typ h.dtype) h.metadata k.no_byte) bs us B.union t (bodied bs b) w

-- Parts that the constructor refuses do not fit the row of a planned node.
pub unions_refused : (x : ExtMeaning) (error : ArrayError) (h : ArrayHead) (bs : List Buffer) (us : Trees) → (y : ExtMeaning) × IsPlanned y Union h (places us) → bs ≡ []
    → RefusesMaking error (node (untold (typ h.dtype) h.len B.union) us) → RefusesBuilding (constructor_error error) x Union h bs us
unions_refused x error h bs us planned b refused =
    let k = union_plan planned.0 h us planned.1 in
    constructor_refused x Union h M.empty (union_metadata x (typ h.dtype) h.metadata k.no_byte) error bs us B.union (node (untold (typ h.dtype) h.len B.union) us) (bodied bs b) tt k.planned refl tt refl refused

-- A node with buffers does not fit.
bufferless : (d : Typ) (n : ℕ) (bs : List Buffer) (k : ℕ) → bs ≢ [] → IsShaped E.union d n M.empty bs k → ⊥
bufferless d n [] k none s = none refl
bufferless d n (b ∷ bs) k none s = let f : None ≡ Some s.body = s.body_is in cc

pub unions_buffers : (x : ExtMeaning) (h : ArrayHead) (bs : List Buffer) (us : Trees) → (y : ExtMeaning) × IsPlanned y Union h (places us) → bs ≢ [] → RefusesBuilding BadShape x Union h bs us
unions_buffers x h bs us planned none =
    record {
      value = M.empty;
      metadata = union_metadata x (typ h.dtype) h.metadata (union_plan planned.0 h us planned.1).no_byte;
      wrong = inl (bufferless (typ h.dtype) h.len bs (count us) none);
    }

-- The lemmas for the steps of unions.
pub ruleset union_steps = (unions_unread, unions_unplanned, unions_without, unions_built, unions_refused, unions_buffers)
