-- The steps of nodes of fixed-size lists.
use Rattle.std.proofs.Common.{ℕ, ◌≡◌, ◌≢◌, ◌≤◌, ◌*◌, List, [], ◌∷◌, Option, Some, None, Result, Ok, Err, IfOk, refl, sym, ap, ◌∙◌, subst, inl, length, arith}
use Rattle.vx_buffer.specs.Buffer.{Buffer}
use Rattle.vx_trees.specs.Rose.{node, end, more, roses_of, count, label}
use Rattle.vx_trees.proofs.Lists.{count-roses_of}
use Rattle.vx_types.specs.Kind.{fixed_size_list}
use Rattle.vx_types.specs.Known.{ExtMeaning}
use Rattle.vx_types.specs.Seen.{typ}
use Rattle.vx_types.specs.Typ.{Typ}
use Rattle.vx_types.specs.declared.dtype.DType.{DType}
use Rattle.vx_types.specs.declared.dtype.DType.TheVariants as D
use Rattle.vx_types.specs.declared.nullability.Nullability.{Nullability}
use Rattle.vx_array_tree.specs.Body as B
use Rattle.vx_array_tree.specs.Encoding as E
use Rattle.vx_array_tree.specs.Encodings.FixedSizeLists.{plan}
use Rattle.vx_array_tree.specs.Metadata.{Metadata}
use Rattle.vx_array_tree.specs.Metadata as M
use Rattle.vx_array_tree.specs.Place.{Place, place, is_len, when, before_validity}
use Rattle.vx_array_tree.specs.Table.{IsShaped, body_of, plan_of}
use Rattle.vx_array_tree.specs.Tree.{Tree, Trees, places, option_trees, untold}
use Rattle.vx_array_tree.proofs.Options.{let_through}
use Rattle.vx_arrays.specs.FixedSizeLists.{IsOfSize, fixed_size_list_tree}
use Rattle.vx_arrays.specs.Refused.{RefusesMaking}
use Rattle.vx_rows.specs.declared.error.ArrayError.{ArrayError}
use Rattle.vx_encodings.proofs.Bare.{fixed_size_list_metadata, fixed_size_list_nothing}
use Rattle.vx_encodings.proofs.Fitting.{constructor_refused}
use Rattle.vx_encodings.proofs.Singles.{single_unplanned, single_built}
use Rattle.vx_encodings.proofs.Validities.{after_few, after_place}
use Rattle.vx_encodings.specs.Steps.{IsPlanned, RefusesPlanning, IsBuilt, RefusesBuilding, constructor_error}
use Rattle.vx_plans.specs.Plans.{RefusesPlaces}
use Rattle.vx_encodings.specs.declared.encoding.Encoding.TheVariants.{FixedSizeList}
use Rattle.vx_plans.specs.declared.error.EncodingError.{EncodingError}
use Rattle.vx_plans.specs.declared.error.EncodingError.TheVariants.{OutOfMemory, BadMetadata, BadShape}
use Rattle.vx_plans.specs.declared.head.ArrayHead.{ArrayHead}

-- ---- a plan

-- Metadata that is not empty is refused.
pub lists_unread : (x : ExtMeaning) (h : ArrayHead) → h.metadata ≢ [] → RefusesPlanning BadMetadata x FixedSizeList h
lists_unread x h b v m = b (fixed_size_list_nothing x (typ h.dtype) h.metadata v m).0

-- Where nothing is planned, the shape does not fit.
pub lists_unplanned : (x : ExtMeaning) (h : ArrayHead) → h.metadata ≡ [] → plan (typ h.dtype) h.len h.nchildren ≡ None → RefusesPlanning BadShape x FixedSizeList h
lists_unplanned x h b e = single_unplanned x FixedSizeList h M.empty (fixed_size_list_metadata x (typ h.dtype) h.metadata b) e

-- The plan of elements and a validity after them.
abbrev pub elements_plan : Typ → ℕ → ℕ → ℕ → Option (List Place)
elements_plan e s n k = when (is_len (n * s)) (before_validity (place e (n * s) ∷ []) n k)

plan_at : (d : DType) (e : Typ) (s : ℕ) (m : Nullability) (n k : ℕ) → d ≡ D.FixedSizeList e s m → plan (typ d) n k ≡ elements_plan e s n k
plan_at d e s m n k q = ap (λ (z : DType). plan (typ z) n k) q

-- The result for them is the result for the node.
pub lists_planned : (x : ExtMeaning) (h : ArrayHead) (r : Result (List Place) EncodingError) (e f : Typ) (s : ℕ) (m : Nullability) → h.metadata ≡ [] → h.dtype ≡ D.FixedSizeList e s m → f ≡ e
    → IfOk r (λ ps. elements_plan f s h.len h.nchildren ≡ Some ps) → IfOk r (λ ps. IsPlanned x FixedSizeList h ps)
lists_planned x h (Ok ps) e f s m b q g p =
    record { value = M.empty; metadata = fixed_size_list_metadata x (typ h.dtype) h.metadata b; plan = plan_at h.dtype e s m h.len h.nchildren q ∙ ap (λ (z : Typ). elements_plan z s h.len h.nchildren) (sym g) ∙ p }
lists_planned x h (Err error) e f s m b q g p = tt

pub lists_without : (error : EncodingError) (x : ExtMeaning) (h : ArrayHead) (e f : Typ) (s : ℕ) (m : Nullability) → h.metadata ≡ [] → h.dtype ≡ D.FixedSizeList e s m → f ≡ e
    → RefusesPlaces error (elements_plan f s h.len h.nchildren) → RefusesPlanning error x FixedSizeList h
lists_without OutOfMemory x h e f s m b q g w = tt
lists_without BadMetadata x h e f s m b q g w = absurd w
lists_without BadShape x h e f s m b q g w = lists_unplanned x h b (plan_at h.dtype e s m h.len h.nchildren q ∙ ap (λ (z : Typ). elements_plan z s h.len h.nchildren) (sym g) ∙ w)
lists_without _ x h e f s m b q g w = absurd w

-- ---- building

-- What was planned: no byte of metadata, a type of fixed-size lists, and the places of the children.
pub record ListsPlan (h : ArrayHead) (us : Trees) : Type 0 where
  pub no_byte : h.metadata ≡ []
  pub sized : IsOfSize (typ h.dtype)
  pub planned : plan (typ h.dtype) h.len h.nchildren ≡ Some (places us)

plan_some : (v : Metadata) (d : Typ) (n k : ℕ) (ps : List Place) → v ≡ M.empty → plan_of E.fixed_size_list d n v k ≡ Some ps → plan d n k ≡ Some ps
plan_some v d n k ps e p = subst (λ (z : Metadata). plan_of E.fixed_size_list d n z k ≡ Some ps) e p

sized_so : (d : Typ) (n k : ℕ) (ps : List Place) → plan d n k ≡ Some ps → IsOfSize d
sized_so (node (fixed_size_list s m) (more e end)) n k ps p = tt
sized_so _ n k ps p = absurd (cc)

pub lists_plan : (x : ExtMeaning) (h : ArrayHead) (us : Trees) → IsPlanned x FixedSizeList h (places us) → ListsPlan h us
lists_plan x h us p =
    let m = fixed_size_list_nothing x (typ h.dtype) h.metadata p.value p.metadata in
    let q = plan_some p.value (typ h.dtype) h.len h.nchildren (places us) m.1 p.plan in
    record { no_byte = m.0; sized = sized_so (typ h.dtype) h.len h.nchildren (places us) q; planned = q }

pub lists_sized : (h : ArrayHead) (us : Trees) → (y : ExtMeaning) × IsPlanned y FixedSizeList h (places us) → IsOfSize (typ h.dtype)
lists_sized h us planned = (lists_plan planned.0 h us planned.1).sized

-- Elements stand first, and at most a validity after them.
few_of : (d : Typ) (n k : ℕ) (us : Trees) → plan d n k ≡ Some (places us) → (1 ≤ count us) × (count us ≤ 2) × (k ≡ count us)
few_of (node (fixed_size_list s m) (more e end)) n k us p = after_few (place e (n * s)) n k us (let_through (is_len (n * s)) _ _ p)
few_of _ n k us p = absurd (cc)

pub some_child : (h : ArrayHead) (us : Trees) (ts : List Tree) → (y : ExtMeaning) × IsPlanned y FixedSizeList h (places us) → roses_of ts ≡ us → 1 ≤ length ts
some_child h us ts planned e =
    let f = few_of (typ h.dtype) h.len h.nchildren us (lists_plan planned.0 h us planned.1).planned in
    omega (arith, f.0, count-roses_of ts, ap (λ z. count z) e)

pub few_children : (h : ArrayHead) (us : Trees) (ts : List Tree) → (y : ExtMeaning) × IsPlanned y FixedSizeList h (places us) → roses_of ts ≡ us → length ts ≤ 2
few_children h us ts planned e =
    let f = few_of (typ h.dtype) h.len h.nchildren us (lists_plan planned.0 h us planned.1).planned in
    omega (arith, f.1, count-roses_of ts, ap (λ z. count z) e)

-- What the constructor makes is the node of the head's type and length over the children.
made : (h : ArrayHead) (us : Trees) (o : Tree) (v : Option Tree) (e : Typ) (s : ℕ) (m : Nullability) → ListsPlan h us → h.dtype ≡ D.FixedSizeList e s m → more o (option_trees v) ≡ us
    → fixed_size_list_tree o s m h.len v ≡ node (untold (typ h.dtype) h.len B.fixed_size_list) us
made h us o v e s m p q r =
    let planned = subst (λ (z : Trees). plan (typ h.dtype) h.len h.nchildren ≡ Some (places z)) (sym r) p.planned in
    let before = let_through (is_len (h.len * s)) _ _ (sym (plan_at h.dtype e s m h.len h.nchildren q) ∙ planned) in
    let element : (label o).dtype ≡ e = ap (λ (z : Place). z.dtype) (after_place (place e (h.len * s)) h.len h.nchildren o (option_trees v) before) in
    ap (λ (z : Typ). node (untold (node (fixed_size_list s m) (more z end)) h.len B.fixed_size_list) (more o (option_trees v))) element
    ∙ ap (λ (z : Trees). node (untold (node (fixed_size_list s m) (more e end)) h.len B.fixed_size_list) z) r
    ∙ ap (λ (z : DType). node (untold (typ z) h.len B.fixed_size_list) us) (sym q)

bodied : (bs : List Buffer) → bs ≡ [] → body_of E.fixed_size_list M.empty bs ≡ Some B.fixed_size_list
bodied bs e = ap (λ (cs : List Buffer). body_of E.fixed_size_list M.empty cs) e

-- The array that is built has these parts.
pub lists_built : (x : ExtMeaning) (h : ArrayHead) (bs : List Buffer) (us : Trees) (o : Tree) (v : Option Tree) (e : Typ) (s : ℕ) (m : Nullability) (t : Tree)
    → (y : ExtMeaning) × IsPlanned y FixedSizeList h (places us) → bs ≡ [] → h.dtype ≡ D.FixedSizeList e s m → more o (option_trees v) ≡ us → t ≡ fixed_size_list_tree o s m h.len v → IsBuilt x FixedSizeList h bs us t
lists_built x h bs us o v e s m t planned b q r w =
    let k = lists_plan planned.0 h us planned.1 in
    single_built x FixedSizeList h M.empty (fixed_size_list_metadata x (typ h.dtype) h.metadata k.no_byte) bs us B.fixed_size_list t (bodied bs b) (w ∙ made h us o v e s m k q r)

-- Parts that the constructor refuses do not fit the row of a planned node.
pub lists_refused : (x : ExtMeaning) (error : ArrayError) (h : ArrayHead) (bs : List Buffer) (us : Trees) (o : Tree) (v : Option Tree) (e : Typ) (s : ℕ) (m : Nullability)
    → (y : ExtMeaning) × IsPlanned y FixedSizeList h (places us) → bs ≡ [] → h.dtype ≡ D.FixedSizeList e s m → more o (option_trees v) ≡ us → RefusesMaking error (fixed_size_list_tree o s m h.len v)
    → RefusesBuilding (constructor_error error) x FixedSizeList h bs us
lists_refused x error h bs us o v e s m planned b q r refused =
    let k = lists_plan planned.0 h us planned.1 in
    let f = few_of (typ h.dtype) h.len h.nchildren us k.planned in
    let counted : plan (typ h.dtype) h.len (count us) ≡ Some (places us) = subst (λ (j : ℕ). plan (typ h.dtype) h.len j ≡ Some (places us)) f.2 k.planned in
    constructor_refused x FixedSizeList h M.empty (fixed_size_list_metadata x (typ h.dtype) h.metadata k.no_byte) error bs us B.fixed_size_list (fixed_size_list_tree o s m h.len v)
    (bodied bs b) tt counted refl tt (made h us o v e s m k q r) refused

-- A node with buffers does not fit.
bufferless : (d : Typ) (n : ℕ) (bs : List Buffer) (k : ℕ) → bs ≢ [] → IsShaped E.fixed_size_list d n M.empty bs k → ⊥
bufferless d n [] k none s = none refl
bufferless d n (b ∷ bs) k none s = let f : None ≡ Some s.body = s.body_is in cc

pub lists_buffers : (x : ExtMeaning) (h : ArrayHead) (bs : List Buffer) (us : Trees) → (y : ExtMeaning) × IsPlanned y FixedSizeList h (places us) → bs ≢ [] → RefusesBuilding BadShape x FixedSizeList h bs us
lists_buffers x h bs us planned none =
    record {
      value = M.empty;
      metadata = fixed_size_list_metadata x (typ h.dtype) h.metadata (lists_plan planned.0 h us planned.1).no_byte;
      wrong = inl (bufferless (typ h.dtype) h.len bs (count us) none);
    }

-- The lemmas for the steps of fixed-size lists.
pub ruleset fixed_size_list_steps = (lists_unread, lists_unplanned, lists_planned, lists_without, lists_sized, some_child, few_children, lists_built, lists_refused, lists_buffers)
