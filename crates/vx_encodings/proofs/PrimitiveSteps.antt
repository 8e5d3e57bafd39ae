-- The steps of nodes of numbers.
use Rattle.std.proofs.Common.{ℕ, ◌≡◌, ◌≢◌, ◌≤◌, List, [], ◌∷◌, Option, Some, None, Result, IfOk, refl, sym, ap, ◌∙◌, subst, length}
use Rattle.vx_buffer.specs.Buffer.{Buffer}
use Rattle.vx_trees.specs.Rose.{node, end, roses_of}
use Rattle.vx_types.specs.Kind.{primitive}
use Rattle.vx_types.specs.Known.{ExtMeaning}
use Rattle.vx_types.specs.Seen.{typ}
use Rattle.vx_types.specs.Typ.{Typ}
use Rattle.vx_types.specs.declared.dtype.DType.TheVariants as D
use Rattle.vx_types.specs.declared.nullability.Nullability.{Nullability}
use Rattle.vx_numbers.specs.declared.ptype.PType.{PType}
use Rattle.vx_array_tree.specs.Body as B
use Rattle.vx_array_tree.specs.Encoding as E
use Rattle.vx_array_tree.specs.Encodings.Primitives.{plan}
use Rattle.vx_array_tree.specs.Metadata.{Metadata}
use Rattle.vx_array_tree.specs.Metadata as M
use Rattle.vx_array_tree.specs.Place.{Place, before_validity}
use Rattle.vx_array_tree.specs.Table.{plan_of}
use Rattle.vx_array_tree.specs.Tree.{Tree, Trees, places, option_trees, untold}
use Rattle.vx_arrays.specs.Primitives.{primitive_tree}
use Rattle.vx_arrays.specs.Refused.{RefusesMaking}
use Rattle.vx_rows.specs.declared.error.ArrayError.{ArrayError}
use Rattle.vx_encodings.proofs.Singles.{single_children, single_planned, single_unplanned, single_without, single_built, single_refused, single_buffers}
use Rattle.vx_encodings.proofs.Bare.{primitive_metadata, primitive_nothing}
use Rattle.vx_encodings.specs.Steps.{IsPlanned, RefusesPlanning, IsBuilt, RefusesBuilding, constructor_error}
use Rattle.vx_plans.specs.Plans.{RefusesPlaces}
use Rattle.vx_encodings.specs.declared.encoding.Encoding.TheVariants.{Primitive}
use Rattle.vx_plans.specs.declared.error.EncodingError.{EncodingError}
use Rattle.vx_plans.specs.declared.error.EncodingError.TheVariants.{BadMetadata, BadShape}
use Rattle.vx_plans.specs.declared.head.ArrayHead.{ArrayHead}

-- Under a type of numbers a validity or nothing is planned.
plan_is : (d : Typ) (n k : ℕ) (p : PType) (m : Nullability) → d ≡ node (primitive p m) end → plan d n k ≡ before_validity [] n k
plan_is d n k p m e = rw e refl

-- So the result for a validity is the result for the node.
pub validity_planned : (x : ExtMeaning) (h : ArrayHead) (r : Result (List Place) EncodingError) (p : PType) (m : Nullability) → h.metadata ≡ [] → h.dtype ≡ D.Primitive p m
    → IfOk r (λ ps. before_validity [] h.len h.nchildren ≡ Some ps) → IfOk r (λ ps. IsPlanned x Primitive h ps)
validity_planned x h r p m b d e = single_planned x Primitive h M.empty (primitive_metadata x (typ h.dtype) h.metadata b) r (plan_is (typ h.dtype) h.len h.nchildren p m (ap (λ z. typ z) d)) e

-- Metadata that is not empty is refused.
pub primitive_unread : (x : ExtMeaning) (h : ArrayHead) → h.metadata ≢ [] → RefusesPlanning BadMetadata x Primitive h
primitive_unread x h b v m = b (primitive_nothing x (typ h.dtype) h.metadata v m).0

-- Where nothing is planned, the shape does not fit.
pub primitive_unplanned : (x : ExtMeaning) (h : ArrayHead) → h.metadata ≡ [] → plan (typ h.dtype) h.len h.nchildren ≡ None → RefusesPlanning BadShape x Primitive h
primitive_unplanned x h b e = single_unplanned x Primitive h M.empty (primitive_metadata x (typ h.dtype) h.metadata b) e

-- Why no validity is planned is why the node has no plan.
pub validity_unplanned : (error : EncodingError) (x : ExtMeaning) (h : ArrayHead) (p : PType) (m : Nullability) → h.metadata ≡ [] → h.dtype ≡ D.Primitive p m
    → RefusesPlaces error (before_validity [] h.len h.nchildren) → RefusesPlanning error x Primitive h
validity_unplanned error x h p m b d e = single_without x Primitive h M.empty (primitive_metadata x (typ h.dtype) h.metadata b) error (plan_is (typ h.dtype) h.len h.nchildren p m (ap (λ z. typ z) d)) e

-- What was planned: no byte of metadata, a type of numbers, and at most one child, a validity.
pub record PrimitivePlan (h : ArrayHead) (us : Trees) : Type 0 where
  pub no_byte : h.metadata ≡ []
  pub planned : plan (typ h.dtype) h.len h.nchildren ≡ Some (places us)

plan_some : (v : Metadata) (d : Typ) (n k : ℕ) (ps : List Place) → v ≡ M.empty → plan_of E.primitive d n v k ≡ Some ps → plan d n k ≡ Some ps
plan_some v d n k ps e p = subst (λ (z : Metadata). plan_of E.primitive d n z k ≡ Some ps) e p

pub primitive_plan : (x : ExtMeaning) (h : ArrayHead) (us : Trees) → IsPlanned x Primitive h (places us) → PrimitivePlan h us
primitive_plan x h us p =
    let m = primitive_nothing x (typ h.dtype) h.metadata p.value p.metadata in
    record { no_byte = m.0; planned = plan_some p.value (typ h.dtype) h.len h.nchildren (places us) m.1 p.plan }

-- A planned node of numbers has at most one child.
pub few_children : (h : ArrayHead) (us : Trees) (ts : List Tree) (p : PType) (m : Nullability) → (y : ExtMeaning) × IsPlanned y Primitive h (places us) → h.dtype ≡ D.Primitive p m → roses_of ts ≡ us → length ts ≤ 1
few_children h us ts p m planned d e =
    single_children h.len h.nchildren us ts (sym (plan_is (typ h.dtype) h.len h.nchildren p m (ap (λ z. typ z) d)) ∙ (primitive_plan planned.0 h us planned.1).planned) e

-- What the constructor makes, as the node of the head's type over the children.
made : (h : ArrayHead) (us : Trees) (p : PType) (m : Nullability) (b : Buffer) (o : Option Tree) → h.dtype ≡ D.Primitive p m → option_trees o ≡ us
    → primitive_tree p m h.len b o ≡ node (untold (typ h.dtype) h.len (B.primitive (record { values = b }))) us
made h us p m b o d e = rw (ap (λ z. typ z) d, e) refl

-- The array that is built has these parts.
pub primitive_built : (x : ExtMeaning) (h : ArrayHead) (bs : List Buffer) (us : Trees) (p : PType) (m : Nullability) (b : Buffer) (o : Option Tree) (t : Tree)
    → (y : ExtMeaning) × IsPlanned y Primitive h (places us) → h.dtype ≡ D.Primitive p m → bs ≡ b ∷ [] → option_trees o ≡ us → t ≡ primitive_tree p m h.len b o → IsBuilt x Primitive h bs us t
primitive_built x h bs us p m b o t planned d e c r =
    let q = primitive_plan planned.0 h us planned.1 in
    single_built x Primitive h M.empty (primitive_metadata x (typ h.dtype) h.metadata q.no_byte) bs us (B.primitive (record { values = b })) t (rw e refl) (r ∙ made h us p m b o d c)

-- Parts that the constructor refuses do not fit the row of a planned node.
pub primitive_refused : (x : ExtMeaning) (error : ArrayError) (h : ArrayHead) (bs : List Buffer) (us : Trees) (p : PType) (m : Nullability) (b : Buffer) (o : Option Tree)
    → (y : ExtMeaning) × IsPlanned y Primitive h (places us) → h.dtype ≡ D.Primitive p m → bs ≡ b ∷ [] → option_trees o ≡ us → RefusesMaking error (primitive_tree p m h.len b o)
    → RefusesBuilding (constructor_error error) x Primitive h bs us
primitive_refused x error h bs us p m b o planned d e c refused =
    let q = primitive_plan planned.0 h us planned.1 in
    single_refused x Primitive h M.empty (primitive_metadata x (typ h.dtype) h.metadata q.no_byte) error bs us b (B.primitive (record { values = b })) (primitive_tree p m h.len b o)
    e refl tt (plan_is (typ h.dtype) h.len h.nchildren p m (ap (λ z. typ z) d)) q.planned refl tt (made h us p m b o d c) refused

-- Another number of buffers than one does not fit.
pub primitive_buffers : (x : ExtMeaning) (h : ArrayHead) (bs : List Buffer) (us : Trees) → (y : ExtMeaning) × IsPlanned y Primitive h (places us) → (length bs ≡ 1 → ⊥) → RefusesBuilding BadShape x Primitive h bs us
primitive_buffers x h bs us planned none =
    single_buffers x Primitive h M.empty (primitive_metadata x (typ h.dtype) h.metadata (primitive_plan planned.0 h us planned.1).no_byte) bs us tt none

-- The lemmas for the steps of numbers.
pub ruleset primitive_steps = (validity_planned, primitive_unread, primitive_unplanned, validity_unplanned, few_children, primitive_built, primitive_refused, primitive_buffers)
