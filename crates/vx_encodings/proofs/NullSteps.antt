-- The steps of nodes of nulls.
use Rattle.std.proofs.Common.{ℕ, zero, suc, ◌≡◌, ◌≢◌, List, [], ◌∷◌, Some, None, refl, sym, subst, inl}
use Rattle.vx_buffer.specs.Buffer.{Buffer}
use Rattle.vx_trees.specs.Rose.{node, end, more, count}
use Rattle.vx_types.specs.Kind.{null}
use Rattle.vx_types.specs.Known.{ExtMeaning}
use Rattle.vx_types.specs.Seen.{typ}
use Rattle.vx_types.specs.Typ.{Typ}
use Rattle.vx_array_tree.specs.Body as B
use Rattle.vx_array_tree.specs.Encoding as E
use Rattle.vx_array_tree.specs.Encodings.Nulls.{plan}
use Rattle.vx_array_tree.specs.Metadata.{Metadata}
use Rattle.vx_array_tree.specs.Metadata as M
use Rattle.vx_array_tree.specs.Place.{Place}
use Rattle.vx_array_tree.specs.Table.{IsShaped, plan_of}
use Rattle.vx_array_tree.specs.Tree.{Tree, Trees, places}
use Rattle.vx_arrays.specs.Nulls.{null_tree}
use Rattle.vx_encodings.proofs.Bare.{null_metadata, null_nothing}
use Rattle.vx_encodings.specs.Steps.{IsPlanned, RefusesPlanning, IsBuilt, RefusesBuilding}
use Rattle.vx_encodings.specs.declared.encoding.Encoding.TheVariants.{Null}
use Rattle.vx_plans.specs.declared.error.EncodingError.TheVariants.{BadMetadata, BadShape}
use Rattle.vx_plans.specs.declared.head.ArrayHead.{ArrayHead}

plan_none : (d : Typ) (n k : ℕ) → d ≡ node null end → k ≡ 0 → plan d n k ≡ Some []
plan_none d n k e q = rw (e, q) refl

-- Under the type of nulls no children are planned.
pub null_planned : (x : ExtMeaning) (h : ArrayHead) (ps : List Place) → h.metadata ≡ [] → typ h.dtype ≡ node null end → h.nchildren ≡ 0 → ps ≡ [] → IsPlanned x Null h ps
null_planned x h ps b d k e =
    subst (λ (z : List Place). IsPlanned x Null h z) (sym e) (record {
      value = M.empty;
      metadata = null_metadata x (typ h.dtype) h.metadata b;
      plan = plan_none (typ h.dtype) h.len h.nchildren d k;
    })

-- Metadata that is not empty is refused.
pub null_unread : (x : ExtMeaning) (h : ArrayHead) → h.metadata ≢ [] → RefusesPlanning BadMetadata x Null h
null_unread x h b v m = b (null_nothing x (typ h.dtype) h.metadata v m).0

-- Where nothing is planned, the shape does not fit.
pub null_unplanned : (x : ExtMeaning) (h : ArrayHead) → h.metadata ≡ [] → plan (typ h.dtype) h.len h.nchildren ≡ None → RefusesPlanning BadShape x Null h
null_unplanned x h b e = record { value = M.empty; metadata = null_metadata x (typ h.dtype) h.metadata b; none = e }

plan_some : (v : Metadata) (d : Typ) (n k : ℕ) (ps : List Place) → v ≡ M.empty → plan_of E.null d n v k ≡ Some ps → plan d n k ≡ Some ps
plan_some v d n k ps e p = subst (λ (z : Metadata). plan_of E.null d n z k ≡ Some ps) e p

-- What was planned: no byte of metadata, the type of nulls, and no children.
pub record NullPlan (h : ArrayHead) (us : Trees) : Type 0 where
  pub no_byte : h.metadata ≡ []
  pub dtype_is : typ h.dtype ≡ node null end
  pub childless : us ≡ end

childless : (d : Typ) (n k : ℕ) (us : Trees) → plan d n k ≡ Some (places us) → (d ≡ node null end) × (us ≡ end)
childless (node null end) n zero end e = (refl, refl)
childless (node null end) n zero (more u us) e = absurd (cc)
childless (node null end) n (suc k) us e = absurd (cc)
childless _ n k us e = absurd (cc)

pub null_plan : (x : ExtMeaning) (h : ArrayHead) (us : Trees) → IsPlanned x Null h (places us) → NullPlan h us
null_plan x h us p =
    let m = null_nothing x (typ h.dtype) h.metadata p.value p.metadata in
    let q = childless (typ h.dtype) h.len h.nchildren us (plan_some p.value (typ h.dtype) h.len h.nchildren (places us) m.1 p.plan) in
    record { no_byte = m.0; dtype_is = q.0; childless = q.1 }

-- The array that is built has these parts.
pub null_built : (x : ExtMeaning) (h : ArrayHead) (bs : List Buffer) (us : Trees) (t : Tree) → (y : ExtMeaning) × IsPlanned y Null h (places us) → bs ≡ [] → t ≡ null_tree h.len → IsBuilt x Null h bs us t
null_built x h bs us t planned e r =
    let p = null_plan planned.0 h us planned.1 in
    record {
      value = M.empty;
      metadata = null_metadata x (typ h.dtype) h.metadata p.no_byte;
      body = B.null;
      body_is = rw e refl;
      tree_is = rw (r, p.dtype_is, p.childless) refl;
    }

misshaped : (d : Typ) (n : ℕ) (bs : List Buffer) (k : ℕ) → bs ≢ [] → IsShaped E.null d n M.empty bs k → ⊥
misshaped d n [] k none s = none refl
misshaped d n (b ∷ bs) k none s = let f : None ≡ Some s.body = s.body_is in cc

-- A node with a buffer does not fit.
pub null_unbuilt : (x : ExtMeaning) (h : ArrayHead) (bs : List Buffer) (us : Trees) → (y : ExtMeaning) × IsPlanned y Null h (places us) → bs ≢ [] → RefusesBuilding BadShape x Null h bs us
null_unbuilt x h bs us planned none =
    let p = null_plan planned.0 h us planned.1 in
    record {
      value = M.empty;
      metadata = null_metadata x (typ h.dtype) h.metadata p.no_byte;
      wrong = inl (misshaped (typ h.dtype) h.len bs (count us) none);
    }

-- The lemmas for the steps of nulls.
pub ruleset null_steps = (null_planned, null_unread, null_unplanned, null_built, null_unbuilt)
