-- The steps of nodes of dictionaries.
use Rattle.std.proofs.Common.{ℕ, zero, suc, ◌≡◌, ◌≢◌, ◌++◌, List, [], ◌∷◌, Option, Some, None, Bool, true, false, Result, Ok, Err, IfOk, IfErr, IsTrue, refl, sym, ap, ◌∙◌, subst, inl}
use Rattle.std.specs.Prelude.{unwrap_or}
use Rattle.vx_buffer.specs.Buffer.{Buffer}
use Rattle.vx_trees.specs.Rose.{node, end, count}
use Rattle.vx_types.specs.Kind.{primitive}
use Rattle.vx_types.specs.Known.{ExtMeaning}
use Rattle.vx_numbers.specs.Numbers.{is_integer}
use Rattle.vx_types.specs.Seen.{typ}
use Rattle.vx_types.specs.Typ.{Typ}
use Rattle.vx_numbers.specs.declared.ptype.PType.{PType}
use Rattle.vx_proto.specs.Reads.{Reads}
use Rattle.vx_array_tree.specs.Body.{Body}
use Rattle.vx_array_tree.specs.Body as B
use Rattle.vx_array_tree.specs.Encoding as E
use Rattle.vx_array_tree.specs.Encodings.Dicts as Dicts
use Rattle.vx_array_tree.specs.Encodings.Dicts.{Allows, lifted, plan}
use Rattle.vx_array_tree.specs.Metadata.{Metadata}
use Rattle.vx_array_tree.specs.Metadata as M
use Rattle.vx_array_tree.specs.Place.{Place, place, exactly}
use Rattle.vx_array_tree.specs.Table.{IsShaped, body_of, plan_of}
use Rattle.vx_array_tree.specs.Tree.{Tree, Trees, places}
use Rattle.vx_array_tree.proofs.Plans.{exactly_is}
use Rattle.vx_array_tree.proofs.Retyped.{own_places}
use Rattle.vx_array_tree.proofs.LawsOfPlaces.{places_count}
use Rattle.vx_array_tree.proofs.PlanCounts.{planned_count}
use Rattle.vx_arrays.specs.Dicts.{dict_head}
use Rattle.vx_arrays.specs.Refused.{RefusesMaking}
use Rattle.vx_rows.specs.declared.error.ArrayError.{ArrayError}
use Rattle.vx_rows.specs.declared.error.ArrayError.TheVariants as A
use Rattle.vx_wire_tree.specs.Fields.{DictFields, codes_nullability}
use Rattle.vx_encodings.proofs.DictFields.{dict_metadata, dict_read, dict_fields_are}
use Rattle.vx_encodings.proofs.Fitting.{unfit}
use Rattle.vx_encodings.proofs.Singles.{single_unplanned, single_built}
use Rattle.vx_encodings.specs.DictMessage.{dict_schema, dict_value, kept_of}
use Rattle.vx_encodings.specs.Steps.{IsPlanned, RefusesPlanning, RefusesMetadata, IsBuilt, RefusesBuilding, constructor_error}
use Rattle.vx_plans.specs.Plans.{RefusesPlaces}
use Rattle.vx_encodings.specs.declared.encoding.Encoding.TheVariants as C
use Rattle.vx_plans.specs.declared.error.EncodingError.{EncodingError}
use Rattle.vx_plans.specs.declared.error.EncodingError.TheVariants.{OutOfMemory, BadMetadata, BadShape}
use Rattle.vx_plans.specs.declared.head.ArrayHead.{ArrayHead}

-- ---- a plan

-- Two children are planned, and no other number of children.
pub two_planned : (ps one none : List Place) (p q a b : Place) (k : ℕ) → k ≡ 2 → none ≡ [] → one ≡ none ++ a ∷ [] → ps ≡ one ++ b ∷ [] → a ≡ p → b ≡ q → exactly (p ∷ q ∷ []) k ≡ Some ps
two_planned ps one none p q a b k c n o e i j = rw (c, e, o, n, i, j) refl

pub others_unplanned : (p q : Place) (k : ℕ) → k ≢ 2 → exactly (p ∷ q ∷ []) k ≡ None
others_unplanned p q zero c = refl
others_unplanned p q (suc zero) c = refl
others_unplanned p q (suc (suc zero)) c = absurd (c refl)
others_unplanned p q (suc (suc (suc k))) c = refl

pub ruleset pair_steps = (two_planned, others_unplanned)

-- Bytes that are no message are no metadata.
pub dicts_unread : (x : ExtMeaning) (error : EncodingError) (h : ArrayHead) → RefusesMetadata error dict_schema 0 h.metadata → RefusesPlanning error x C.Dict h
dicts_unread x OutOfMemory h u = tt
dicts_unread x BadMetadata h u = λ v m. u _ (dict_read x (typ h.dtype) h.metadata v m).reads
dicts_unread x BadShape h u = absurd u
dicts_unread x _ h u = absurd u

no_integer : (p : PType) → is_integer p ≡ false → IsTrue (is_integer p) → ⊥
no_integer p e t = absurd (cc)

-- Nor are those of a float kind.
pub dicts_of_floats : (x : ExtMeaning) (h : ArrayHead) (f : DictFields) (t : Bool) → Reads dict_schema 0 h.metadata (dict_value f) → t ≡ is_integer f.codes_ptype → t ≡ false → RefusesPlanning BadMetadata x C.Dict h
dicts_of_floats x h f t r e g v m =
    no_integer f.codes_ptype (sym e ∙ g) (dict_fields_are (typ h.dtype) h.metadata v f (dict_read x (typ h.dtype) h.metadata v m) r).1

-- The plan of codes and values.
abbrev pub pair_plan : Typ → Typ → ℕ → ℕ → ℕ → Option (List Place)
pair_plan c d n m k = exactly (place c n ∷ place d m ∷ []) k

-- The result for the codes and the values is the result for the node.
pub dicts_planned : (x : ExtMeaning) (h : ArrayHead) (r : Result (List Place) EncodingError) (f : DictFields) (t : Bool) (c : Typ) → Reads dict_schema 0 h.metadata (dict_value f) → t ≡ is_integer f.codes_ptype → t ≡ true
    → c ≡ node (primitive f.codes_ptype (codes_nullability (typ h.dtype) f.is_nullable_codes)) end
    → IfOk r (λ ps. pair_plan c (typ h.dtype) h.len f.values_len h.nchildren ≡ Some ps) → IfOk r (λ ps. IsPlanned x C.Dict h ps)
dicts_planned x h (Ok ps) f t c shown i j q a =
    record {
      value = M.dict (kept_of (typ h.dtype) f);
      metadata = dict_metadata x (typ h.dtype) h.metadata f shown (sym i ∙ j);
      plan = ap (λ (z : Typ). pair_plan z (typ h.dtype) h.len f.values_len h.nchildren) (sym q) ∙ a;
    }
dicts_planned x h (Err error) f t c shown i j q a = tt

pub dicts_without : (x : ExtMeaning) (h : ArrayHead) (r : Result (List Place) EncodingError) (f : DictFields) (t : Bool) (c : Typ) → Reads dict_schema 0 h.metadata (dict_value f) → t ≡ is_integer f.codes_ptype → t ≡ true
    → c ≡ node (primitive f.codes_ptype (codes_nullability (typ h.dtype) f.is_nullable_codes)) end
    → IfErr r (λ e. RefusesPlaces e (pair_plan c (typ h.dtype) h.len f.values_len h.nchildren)) → IfErr r (λ e. RefusesPlanning e x C.Dict h)
dicts_without x h (Ok ps) f t c shown i j q a = tt
dicts_without x h (Err OutOfMemory) f t c shown i j q a = tt
dicts_without x h (Err BadMetadata) f t c shown i j q a = absurd a
dicts_without x h (Err BadShape) f t c shown i j q a =
    single_unplanned x C.Dict h (M.dict (kept_of (typ h.dtype) f)) (dict_metadata x (typ h.dtype) h.metadata f shown (sym i ∙ j))
    (ap (λ (z : Typ). pair_plan z (typ h.dtype) h.len f.values_len h.nchildren) (sym q) ∙ a)
dicts_without x h (Err _) f t c shown i j q a = absurd a

-- ---- building

-- What was planned, by the fields that the bytes show: a kind of integers, and the places of the children, as many as there
-- are.
pub record DictPlan (h : ArrayHead) (us : Trees) (f : DictFields) : Type 0 where
  pub integer : IsTrue (is_integer f.codes_ptype)
  pub planned : plan (typ h.dtype) h.len (kept_of (typ h.dtype) f) (count us) ≡ Some (places us)

plan_some : (v : Metadata) (w : Dicts.Metadata) (d : Typ) (n k : ℕ) (ps : List Place) → v ≡ M.dict w → plan_of E.dict d n v k ≡ Some ps → plan d n w k ≡ Some ps
plan_some v w d n k ps e q = subst (λ (z : Metadata). plan_of E.dict d n z k ≡ Some ps) e q

pub dict_plan : (x : ExtMeaning) (h : ArrayHead) (us : Trees) (f : DictFields) → Reads dict_schema 0 h.metadata (dict_value f) → IsPlanned x C.Dict h (places us) → DictPlan h us f
dict_plan x h us f r p =
    let m = dict_fields_are (typ h.dtype) h.metadata p.value f (dict_read x (typ h.dtype) h.metadata p.value p.metadata) r in
    let v = kept_of (typ h.dtype) f in
    let q = plan_some p.value v (typ h.dtype) h.len h.nchildren (places us) m.0 p.plan in
    let k : h.nchildren ≡ count us = sym (planned_count E.dict (typ h.dtype) h.len (M.dict v) h.nchildren (places us) q) ∙ places_count us in
    record { integer = m.1; planned = subst (λ (j : ℕ). plan (typ h.dtype) h.len v j ≡ Some (places us)) k q }

-- Metadata is read again, and the only refusal is `OutOfMemory`.
pub dicts_read : (x : ExtMeaning) (error : EncodingError) (h : ArrayHead) (bs : List Buffer) (us : Trees) → (y : ExtMeaning) × IsPlanned y C.Dict h (places us) → RefusesMetadata error dict_schema 0 h.metadata → RefusesBuilding error x C.Dict h bs us
dicts_read x OutOfMemory h bs us planned u = tt
dicts_read x BadMetadata h bs us planned u = absurd (u _ (dict_read planned.0 (typ h.dtype) h.metadata planned.1.value planned.1.metadata).reads)
dicts_read x BadShape h bs us planned u = absurd u
dicts_read x _ h bs us planned u = absurd u

bodied : (v : Dicts.Metadata) (b : Bool) (bs : List Buffer) → bs ≡ [] → b ≡ v.all_values_referenced → body_of E.dict (M.dict v) bs ≡ Some (B.dict (record { all_values_referenced = b }))
bodied v b bs e q =
    ap (λ (cs : List Buffer). body_of E.dict (M.dict v) cs) e
    ∙ ap (λ (c : Bool). let y : Dicts.Data = record { all_values_referenced = c } in Some (B.dict y)) (sym q)

-- The array that is built has these parts.
pub dicts_built : (x : ExtMeaning) (h : ArrayHead) (bs : List Buffer) (us : Trees) (f : DictFields) (b : Bool) (t : Tree) → (y : ExtMeaning) × IsPlanned y C.Dict h (places us) → Reads dict_schema 0 h.metadata (dict_value f) → bs ≡ []
    → b ≡ unwrap_or f.all_values_referenced false → t ≡ node (dict_head (typ h.dtype) h.len b) us → IsBuilt x C.Dict h bs us t
dicts_built x h bs us f b t planned r e q w =
    let k = dict_plan planned.0 h us f r planned.1 in
    single_built x C.Dict h (M.dict (kept_of (typ h.dtype) f)) (dict_metadata x (typ h.dtype) h.metadata f r k.integer) bs us (B.dict (record { all_values_referenced = b })) t (bodied (kept_of (typ h.dtype) f) b bs e q) w

-- Children that stand where they are planned are of the dictionary's own type, where codes may be null only where rows
-- may.
level : (d : Typ) (n : ℕ) (v : Dicts.Metadata) (b : Bool) (us : Trees) → plan d n v (count us) ≡ Some (places us) → Allows d v → lifted (places us) ≡ places us
level d n v b us p a =
    let e = exactly_is (place (node (primitive v.codes_ptype v.nullable_codes) end) n ∷ place d v.values_len ∷ []) (count us) (places us) p in
    let x : Dicts.Data = record { all_values_referenced = b } in
    let ps : List Place = place (node (primitive v.codes_ptype v.nullable_codes) end) n ∷ place d v.values_len ∷ [] in
    let own : lifted ps ≡ ps = own_places (B.dict x) d n ps (count us) tt refl a in
    subst (λ (qs : List Place). lifted qs ≡ qs) (sym e) own

-- Parts that the constructor refuses do not fit the row of a planned node.
pub dicts_refused : (x : ExtMeaning) (error : ArrayError) (h : ArrayHead) (bs : List Buffer) (us : Trees) (f : DictFields) (b : Bool) → (y : ExtMeaning) × IsPlanned y C.Dict h (places us) → Reads dict_schema 0 h.metadata (dict_value f) → bs ≡ []
    → b ≡ unwrap_or f.all_values_referenced false → RefusesMaking error (node (dict_head (typ h.dtype) h.len b) us) → RefusesBuilding (constructor_error error) x C.Dict h bs us
dicts_refused x A.OutOfMemory h bs us f b planned r e q refused = tt
dicts_refused x A.BadShape h bs us f b planned r e q refused =
    let k = dict_plan planned.0 h us f r planned.1 in
    let v = kept_of (typ h.dtype) f in
    let body : Body = B.dict (record { all_values_referenced = b }) in
    record {
      value = M.dict v;
      metadata = dict_metadata x (typ h.dtype) h.metadata f r k.integer;
      wrong = inl (λ s. unfit E.dict (typ h.dtype) h.len (M.dict v) bs body us (bodied v b bs e q) k.integer k.planned (level (typ h.dtype) h.len v b us k.planned s.allows) tt refused s);
    }
dicts_refused x A.ForeignControl h bs us f b planned r e q refused =
    let k = dict_plan planned.0 h us f r planned.1 in
    record { value = M.dict (kept_of (typ h.dtype) f); metadata = dict_metadata x (typ h.dtype) h.metadata f r k.integer; foreign = refused.foreign }
dicts_refused x A.BadContent h bs us f b planned r e q refused =
    let k = dict_plan planned.0 h us f r planned.1 in
    let v = kept_of (typ h.dtype) f in
    let again = exactly_is (place (node (primitive v.codes_ptype v.nullable_codes) end) h.len ∷ place (typ h.dtype) v.values_len ∷ []) (count us) (places us) k.planned in
    let allows : Allows (typ h.dtype) v = subst (λ (ps : List Place). Allows (typ h.dtype) (Dicts.metadata_of (record { all_values_referenced = b }) ps)) again refused.shaped.allows in
    record {
      value = M.dict v;
      metadata = dict_metadata x (typ h.dtype) h.metadata f r k.integer;
      shaped = record { body = B.dict (record { all_values_referenced = b }); body_is = bodied v b bs e q; holds = tt; allows = allows };
      controlled = refused.controlled;
      wrong = refused.broken;
    }
dicts_refused x A.ValueTooLarge h bs us f b planned r e q refused = absurd refused
dicts_refused x A.BadCast h bs us f b planned r e q refused = absurd refused

-- A node with buffers does not fit.
bufferless : (d : Typ) (n : ℕ) (v : Dicts.Metadata) (bs : List Buffer) (k : ℕ) → bs ≢ [] → IsShaped E.dict d n (M.dict v) bs k → ⊥
bufferless d n v [] k none s = none refl
bufferless d n v (b ∷ bs) k none s = let f : None ≡ Some s.body = s.body_is in cc

pub dicts_buffers : (x : ExtMeaning) (h : ArrayHead) (bs : List Buffer) (us : Trees) → (y : ExtMeaning) × IsPlanned y C.Dict h (places us) → bs ≢ [] → RefusesBuilding BadShape x C.Dict h bs us
dicts_buffers x h bs us planned none =
    let m = dict_read planned.0 (typ h.dtype) h.metadata planned.1.value planned.1.metadata in
    record {
      value = M.dict (kept_of (typ h.dtype) m.fields);
      metadata = dict_metadata x (typ h.dtype) h.metadata m.fields m.reads m.integer;
      wrong = inl (bufferless (typ h.dtype) h.len (kept_of (typ h.dtype) m.fields) bs (count us) none);
    }

-- The lemmas for the steps of dictionaries.
pub ruleset dict_steps = (dicts_unread, dicts_of_floats, dicts_planned, dicts_without, dicts_read, dicts_built, dicts_refused, dicts_buffers)
