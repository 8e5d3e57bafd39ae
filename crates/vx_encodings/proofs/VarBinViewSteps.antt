-- The steps of nodes of texts and of bytes by views.
use Rattle.std.proofs.Common.{ℕ, ◌≡◌, ◌≢◌, ◌≤◌, ◌↔◌, List, [], ◌∷◌, ◌++◌, Option, Some, None, Bool, true, false, IsTrue, Result, IfOk, refl, sym, ap, ◌∙◌, subst, inl, length}
use Rattle.std.proofs.lemmas.Bool.{iff_false}
use Rattle.vx_buffer.specs.Buffer.{Buffer}
use Rattle.vx_trees.specs.Rose.{node, end, roses_of, count}
use Rattle.vx_types.specs.Kind.{utf8, binary}
use Rattle.vx_types.specs.Known.{ExtMeaning}
use Rattle.vx_types.specs.Seen.{typ}
use Rattle.vx_types.specs.Typ.{Typ}
use Rattle.vx_array_tree.specs.Body as B
use Rattle.vx_array_tree.specs.Encoding as E
use Rattle.vx_array_tree.specs.Encodings.VarBinViews.{plan}
use Rattle.vx_array_tree.specs.Metadata.{Metadata}
use Rattle.vx_array_tree.specs.Metadata as M
use Rattle.vx_array_tree.specs.Place.{Place, before_validity}
use Rattle.vx_array_tree.specs.Table.{IsShaped, body_of, plan_of}
use Rattle.vx_array_tree.specs.Tree.{Tree, Trees, places, option_trees}
use Rattle.vx_array_tree.proofs.Bodies.{body_again}
use Rattle.vx_arrays.specs.Refused.{RefusesMaking}
use Rattle.vx_arrays.specs.VarBins.{IsOfBytes}
use Rattle.vx_arrays.specs.VarBinViews.{varbinview_head, varbinview_tree}
use Rattle.vx_rows.specs.declared.error.ArrayError.{ArrayError}
use Rattle.vx_encodings.proofs.Bare.{varbinview_metadata, varbinview_nothing}
use Rattle.vx_encodings.proofs.Fitting.{constructor_refused}
use Rattle.vx_encodings.proofs.Singles.{single_children, single_planned, single_unplanned, single_without, single_built}
use Rattle.vx_encodings.proofs.Validities.{validity_few}
use Rattle.vx_encodings.specs.Steps.{IsPlanned, RefusesPlanning, IsBuilt, RefusesBuilding, constructor_error}
use Rattle.vx_plans.specs.Plans.{RefusesPlaces}
use Rattle.vx_encodings.specs.declared.encoding.Encoding.TheVariants.{VarBinView}
use Rattle.vx_plans.specs.declared.error.EncodingError.{EncodingError}
use Rattle.vx_plans.specs.declared.error.EncodingError.TheVariants.{BadMetadata, BadShape}
use Rattle.vx_plans.specs.declared.head.ArrayHead.{ArrayHead}

-- ---- a plan

-- Under a type of texts or bytes a validity or nothing is planned.
plan_is : (d : Typ) (n k : ℕ) → IsOfBytes d → plan d n k ≡ before_validity [] n k
plan_is (node (utf8 m) end) n k h = refl
plan_is (node (binary m) end) n k h = refl
plan_is _ n k h = absurd h

plan_none : (d : Typ) (n k : ℕ) → (IsOfBytes d → ⊥) → plan d n k ≡ None
plan_none (node (utf8 m) end) n k h = absurd (h tt)
plan_none (node (binary m) end) n k h = absurd (h tt)
plan_none _ n k h = refl

-- Metadata that is not empty is refused.
pub views_unread : (x : ExtMeaning) (h : ArrayHead) → h.metadata ≢ [] → RefusesPlanning BadMetadata x VarBinView h
views_unread x h b v m = b (varbinview_nothing x (typ h.dtype) h.metadata v m).0

-- Where the type is of another kind, the shape does not fit.
pub views_of_others : (x : ExtMeaning) (h : ArrayHead) (t : Bool) → h.metadata ≡ [] → (IsTrue t ↔ IsOfBytes (typ h.dtype)) → t ≡ false → RefusesPlanning BadShape x VarBinView h
views_of_others x h t b f e = single_unplanned x VarBinView h M.empty (varbinview_metadata x (typ h.dtype) h.metadata b) (plan_none (typ h.dtype) h.len h.nchildren (iff_false f e))

-- Else the result for a validity is the result for the node.
pub views_planned : (x : ExtMeaning) (h : ArrayHead) (r : Result (List Place) EncodingError) (t : Bool) → h.metadata ≡ [] → (IsTrue t ↔ IsOfBytes (typ h.dtype)) → t ≡ true
    → IfOk r (λ ps. before_validity [] h.len h.nchildren ≡ Some ps) → IfOk r (λ ps. IsPlanned x VarBinView h ps)
views_planned x h r t b f e q = single_planned x VarBinView h M.empty (varbinview_metadata x (typ h.dtype) h.metadata b) r (plan_is (typ h.dtype) h.len h.nchildren (f.0 e)) q

pub views_without : (error : EncodingError) (x : ExtMeaning) (h : ArrayHead) (t : Bool) → h.metadata ≡ [] → (IsTrue t ↔ IsOfBytes (typ h.dtype)) → t ≡ true
    → RefusesPlaces error (before_validity [] h.len h.nchildren) → RefusesPlanning error x VarBinView h
views_without error x h t b f e w = single_without x VarBinView h M.empty (varbinview_metadata x (typ h.dtype) h.metadata b) error (plan_is (typ h.dtype) h.len h.nchildren (f.0 e)) w

-- ---- building

-- What was planned: no byte of metadata, a type of texts or of bytes, and at most one child, a validity.
pub record ViewsPlan (h : ArrayHead) (us : Trees) : Type 0 where
  pub no_byte : h.metadata ≡ []
  pub children : before_validity [] h.len h.nchildren ≡ Some (places us)
  pub planned : plan (typ h.dtype) h.len h.nchildren ≡ Some (places us)

plan_children : (d : Typ) (n k : ℕ) (ps : List Place) → plan d n k ≡ Some ps → before_validity [] n k ≡ Some ps
plan_children (node (utf8 m) end) n k ps e = e
plan_children (node (binary m) end) n k ps e = e
plan_children _ n k ps e = absurd (cc)

plan_some : (v : Metadata) (d : Typ) (n k : ℕ) (ps : List Place) → v ≡ M.empty → plan_of E.varbinview d n v k ≡ Some ps → plan d n k ≡ Some ps
plan_some v d n k ps e p = subst (λ (z : Metadata). plan_of E.varbinview d n z k ≡ Some ps) e p

pub views_plan : (x : ExtMeaning) (h : ArrayHead) (us : Trees) → IsPlanned x VarBinView h (places us) → ViewsPlan h us
views_plan x h us p =
    let m = varbinview_nothing x (typ h.dtype) h.metadata p.value p.metadata in
    let q = plan_some p.value (typ h.dtype) h.len h.nchildren (places us) m.1 p.plan in
    record { no_byte = m.0; children = plan_children (typ h.dtype) h.len h.nchildren (places us) q; planned = q }

-- A planned node has at most one child.
pub few_children : (h : ArrayHead) (us : Trees) (ts : List Tree) → (y : ExtMeaning) × IsPlanned y VarBinView h (places us) → roses_of ts ≡ us → length ts ≤ 1
few_children h us ts planned e = single_children h.len h.nchildren us ts (views_plan planned.0 h us planned.1).children e

-- The last of its buffers is that of the views.
views_last : (bs front : List Buffer) (b : Buffer) → bs ≡ front ++ b ∷ [] → body_of E.varbinview M.empty bs ≡ Some (B.varbinview (record { buffers = front; views = b }))
views_last bs front b e = ap (λ (cs : List Buffer). body_of E.varbinview M.empty cs) e ∙ body_again (B.varbinview (record { buffers = front; views = b })) []

-- What the constructor makes is the node of the head's type and length over the children.
made : (h : ArrayHead) (us : Trees) (front : List Buffer) (b : Buffer) (o : Option Tree) → option_trees o ≡ us
    → varbinview_tree (typ h.dtype) h.len front b o ≡ node (varbinview_head (typ h.dtype) h.len (record { buffers = front; views = b })) us
made h us front b o e = ap (λ (z : Trees). node (varbinview_head (typ h.dtype) h.len (record { buffers = front; views = b })) z) e

-- The array that is built has these parts.
pub views_built : (x : ExtMeaning) (h : ArrayHead) (bs : List Buffer) (us : Trees) (front : List Buffer) (b : Buffer) (o : Option Tree) (t : Tree)
    → (y : ExtMeaning) × IsPlanned y VarBinView h (places us) → bs ≡ front ++ b ∷ [] → option_trees o ≡ us → t ≡ varbinview_tree (typ h.dtype) h.len front b o → IsBuilt x VarBinView h bs us t
views_built x h bs us front b o t planned e c r =
    single_built x VarBinView h M.empty (varbinview_metadata x (typ h.dtype) h.metadata (views_plan planned.0 h us planned.1).no_byte) bs us (B.varbinview (record { buffers = front; views = b })) t
    (views_last bs front b e) (r ∙ made h us front b o c)

-- Parts that the constructor refuses do not fit the row of a planned node.
pub views_refused : (x : ExtMeaning) (error : ArrayError) (h : ArrayHead) (bs : List Buffer) (us : Trees) (front : List Buffer) (b : Buffer) (o : Option Tree)
    → (y : ExtMeaning) × IsPlanned y VarBinView h (places us) → bs ≡ front ++ b ∷ [] → option_trees o ≡ us → RefusesMaking error (varbinview_tree (typ h.dtype) h.len front b o)
    → RefusesBuilding (constructor_error error) x VarBinView h bs us
views_refused x error h bs us front b o planned e c refused =
    let q = views_plan planned.0 h us planned.1 in
    let few = validity_few h.len h.nchildren us q.children in
    let counted : plan (typ h.dtype) h.len (count us) ≡ Some (places us) = subst (λ (k : ℕ). plan (typ h.dtype) h.len k ≡ Some (places us)) few.1 q.planned in
    constructor_refused x VarBinView h M.empty (varbinview_metadata x (typ h.dtype) h.metadata q.no_byte) error bs us (B.varbinview (record { buffers = front; views = b }))
    (varbinview_tree (typ h.dtype) h.len front b o) (views_last bs front b e) tt counted refl tt (made h us front b o c) refused

-- Without buffers there are no views.
viewless : (d : Typ) (n : ℕ) (bs : List Buffer) (k : ℕ) → bs ≡ [] → IsShaped E.varbinview d n M.empty bs k → ⊥
viewless d n bs k e s = let f : None ≡ Some s.body = ap (λ (cs : List Buffer). body_of E.varbinview M.empty cs) (sym e) ∙ s.body_is in absurd (cc)

pub views_missing : (x : ExtMeaning) (h : ArrayHead) (bs : List Buffer) (us : Trees) → (y : ExtMeaning) × IsPlanned y VarBinView h (places us) → bs ≡ [] → RefusesBuilding BadShape x VarBinView h bs us
views_missing x h bs us planned e =
    record {
      value = M.empty;
      metadata = varbinview_metadata x (typ h.dtype) h.metadata (views_plan planned.0 h us planned.1).no_byte;
      wrong = inl (viewless (typ h.dtype) h.len bs (count us) e);
    }

-- The lemmas for the steps of texts and of bytes by views.
pub ruleset varbinview_steps = (views_unread, views_of_others, views_planned, views_without, few_children, views_built, views_refused, views_missing)
