-- The steps of nodes of decimals.
use Rattle.std.proofs.Common.{ℕ, ◌≡◌, ◌≤◌, List, [], ◌∷◌, Option, Some, None, Result, IfOk, refl, sym, ap, ◌∙◌, subst, length}
use Rattle.vx_buffer.specs.Buffer.{Buffer}
use Rattle.vx_trees.specs.Rose.{node, end, roses_of}
use Rattle.vx_types.specs.Digits.{Digits}
use Rattle.vx_types.specs.Kind.{decimal}
use Rattle.vx_types.specs.Known.{ExtMeaning}
use Rattle.vx_types.specs.Seen.{typ}
use Rattle.vx_types.specs.Typ.{Typ}
use Rattle.vx_numbers.specs.declared.decimal_type.DecimalType.{DecimalType}
use Rattle.vx_types.specs.declared.dtype.DType.TheVariants as D
use Rattle.vx_types.specs.declared.nullability.Nullability.{Nullability}
use Rattle.vx_proto.specs.Reads.{Reads}
use Rattle.vx_array_tree.specs.Body as B
use Rattle.vx_array_tree.specs.Encoding as E
use Rattle.vx_array_tree.specs.Encodings.Decimals.{plan}
use Rattle.vx_array_tree.specs.Metadata.{Metadata}
use Rattle.vx_array_tree.specs.Metadata as M
use Rattle.vx_array_tree.specs.Place.{Place, before_validity}
use Rattle.vx_array_tree.specs.Table.{plan_of}
use Rattle.vx_array_tree.specs.Tree.{Tree, Trees, places, option_trees, untold}
use Rattle.vx_arrays.specs.Decimals.{decimal_tree}
use Rattle.vx_arrays.specs.Refused.{RefusesMaking}
use Rattle.vx_rows.specs.declared.error.ArrayError.{ArrayError}
use Rattle.vx_encodings.proofs.Singles.{single_children, single_planned, single_unplanned, single_without, single_built, single_refused, single_buffers}
use Rattle.vx_encodings.proofs.Widths.{decimal_metadata, decimal_width, ReadsWidth}
use Rattle.vx_encodings.specs.DecimalMessage.{decimal_schema, decimal_value}
use Rattle.vx_encodings.specs.Steps.{IsPlanned, RefusesPlanning, IsBuilt, RefusesBuilding, RefusesMetadata, constructor_error}
use Rattle.vx_plans.specs.Plans.{RefusesPlaces}
use Rattle.vx_encodings.specs.declared.encoding.Encoding.TheVariants.{Decimal}
use Rattle.vx_plans.specs.declared.error.EncodingError.{EncodingError}
use Rattle.vx_plans.specs.declared.error.EncodingError.TheVariants.{OutOfMemory, BadMetadata, BadShape}
use Rattle.vx_plans.specs.declared.head.ArrayHead.{ArrayHead}

-- Under a decimal type a validity or nothing is planned.
plan_is : (h : ArrayHead) (c : Digits) (m : Nullability) → h.dtype ≡ D.Decimal c m → plan (typ h.dtype) h.len h.nchildren ≡ before_validity [] h.len h.nchildren
plan_is h c m d = let e : typ h.dtype ≡ node (decimal c.precision c.scale m) end = ap (λ z. typ z) d in rw e refl

-- So the result for a validity is the result for the node.
pub decimals_planned : (x : ExtMeaning) (h : ArrayHead) (r : Result (List Place) EncodingError) (w : DecimalType) (c : Digits) (m : Nullability) → Reads decimal_schema 0 h.metadata (decimal_value w) → h.dtype ≡ D.Decimal c m
    → IfOk r (λ ps. before_validity [] h.len h.nchildren ≡ Some ps) → IfOk r (λ ps. IsPlanned x Decimal h ps)
decimals_planned x h r w c m shown d e = single_planned x Decimal h (M.decimal w) (decimal_metadata x (typ h.dtype) h.metadata w shown) r (plan_is h c m d) e

-- Bytes that are no message are no metadata.
pub decimals_unread : (x : ExtMeaning) (error : EncodingError) (h : ArrayHead) → RefusesMetadata error decimal_schema 0 h.metadata → RefusesPlanning error x Decimal h
decimals_unread x OutOfMemory h u = tt
decimals_unread x BadMetadata h u = λ v m. u _ (decimal_width x (typ h.dtype) h.metadata v m).reads
decimals_unread x BadShape h u = absurd u
decimals_unread x _ h u = absurd u

-- Where nothing is planned, the shape does not fit.
pub decimals_unplanned : (x : ExtMeaning) (h : ArrayHead) (w : DecimalType) → Reads decimal_schema 0 h.metadata (decimal_value w) → plan (typ h.dtype) h.len h.nchildren ≡ None → RefusesPlanning BadShape x Decimal h
decimals_unplanned x h w shown e = single_unplanned x Decimal h (M.decimal w) (decimal_metadata x (typ h.dtype) h.metadata w shown) e

-- Why no validity is planned is why the node has no plan.
pub decimals_without : (error : EncodingError) (x : ExtMeaning) (h : ArrayHead) (w : DecimalType) (c : Digits) (m : Nullability) → Reads decimal_schema 0 h.metadata (decimal_value w) → h.dtype ≡ D.Decimal c m
    → RefusesPlaces error (before_validity [] h.len h.nchildren) → RefusesPlanning error x Decimal h
decimals_without error x h w c m shown d e = single_without x Decimal h (M.decimal w) (decimal_metadata x (typ h.dtype) h.metadata w shown) error (plan_is h c m d) e

-- What was planned: metadata of a width, a decimal type, and at most one child, a validity.
pub record DecimalsPlan (h : ArrayHead) (us : Trees) : Type 0 where
  pub value : Metadata
  pub read : ReadsWidth h.metadata value
  pub planned : plan (typ h.dtype) h.len h.nchildren ≡ Some (places us)

plan_some : (v : Metadata) (w : DecimalType) (d : Typ) (n k : ℕ) (ps : List Place) → v ≡ M.decimal w → plan_of E.decimal d n v k ≡ Some ps → plan d n k ≡ Some ps
plan_some v w d n k ps e p = subst (λ (z : Metadata). plan_of E.decimal d n z k ≡ Some ps) e p

pub decimals_plan : (x : ExtMeaning) (h : ArrayHead) (us : Trees) → IsPlanned x Decimal h (places us) → DecimalsPlan h us
decimals_plan x h us p =
    let m = decimal_width x (typ h.dtype) h.metadata p.value p.metadata in
    record { value = p.value; read = m; planned = plan_some p.value m.values_type (typ h.dtype) h.len h.nchildren (places us) m.value_is p.plan }

-- So its metadata is read again, and the only refusal is `OutOfMemory`.
pub decimals_read : (x : ExtMeaning) (error : EncodingError) (h : ArrayHead) (bs : List Buffer) (us : Trees) → (y : ExtMeaning) × IsPlanned y Decimal h (places us) → RefusesMetadata error decimal_schema 0 h.metadata → RefusesBuilding error x Decimal h bs us
decimals_read x OutOfMemory h bs us planned u = tt
decimals_read x BadMetadata h bs us planned u = absurd (u _ (decimals_plan planned.0 h us planned.1).read.reads)
decimals_read x BadShape h bs us planned u = absurd u
decimals_read x _ h bs us planned u = absurd u

-- A planned decimal node has at most one child.
pub few_children : (h : ArrayHead) (us : Trees) (ts : List Tree) (c : Digits) (m : Nullability) → (y : ExtMeaning) × IsPlanned y Decimal h (places us) → h.dtype ≡ D.Decimal c m → roses_of ts ≡ us → length ts ≤ 1
few_children h us ts c m planned d e = single_children h.len h.nchildren us ts (sym (plan_is h c m d) ∙ (decimals_plan planned.0 h us planned.1).planned) e

-- What the constructor makes, as the node of the head's type over the children.
made : (h : ArrayHead) (us : Trees) (w : DecimalType) (c : Digits) (m : Nullability) (b : Buffer) (v : Option Tree) → h.dtype ≡ D.Decimal c m → option_trees v ≡ us
    → decimal_tree b w c m h.len v ≡ node (untold (typ h.dtype) h.len (B.decimal (record { values = b; values_type = w }))) us
made h us w c m b v d e = rw (ap (λ z. typ z) d, e) refl

-- The array that is built has these parts.
pub decimals_built : (x : ExtMeaning) (h : ArrayHead) (bs : List Buffer) (us : Trees) (w : DecimalType) (c : Digits) (m : Nullability) (b : Buffer) (v : Option Tree) (t : Tree)
    → Reads decimal_schema 0 h.metadata (decimal_value w) → h.dtype ≡ D.Decimal c m → bs ≡ b ∷ [] → option_trees v ≡ us → t ≡ decimal_tree b w c m h.len v → IsBuilt x Decimal h bs us t
decimals_built x h bs us w c m b v t shown d p e q =
    single_built x Decimal h (M.decimal w) (decimal_metadata x (typ h.dtype) h.metadata w shown) bs us (B.decimal (record { values = b; values_type = w })) t (rw p refl) (q ∙ made h us w c m b v d e)

-- Parts that the constructor refuses do not fit the row of a planned node.
pub decimals_refused : (x : ExtMeaning) (error : ArrayError) (h : ArrayHead) (bs : List Buffer) (us : Trees) (w : DecimalType) (c : Digits) (m : Nullability) (b : Buffer) (v : Option Tree)
    → (y : ExtMeaning) × IsPlanned y Decimal h (places us) → Reads decimal_schema 0 h.metadata (decimal_value w) → h.dtype ≡ D.Decimal c m → bs ≡ b ∷ [] → option_trees v ≡ us → RefusesMaking error (decimal_tree b w c m h.len v)
    → RefusesBuilding (constructor_error error) x Decimal h bs us
decimals_refused x error h bs us w c m b v planned shown d p e refused =
    single_refused x Decimal h (M.decimal w) (decimal_metadata x (typ h.dtype) h.metadata w shown) error bs us b (B.decimal (record { values = b; values_type = w })) (decimal_tree b w c m h.len v)
    p refl tt (plan_is h c m d) (decimals_plan planned.0 h us planned.1).planned refl tt (made h us w c m b v d e) refused

-- Another number of buffers than one does not fit.
pub decimals_buffers : (x : ExtMeaning) (h : ArrayHead) (bs : List Buffer) (us : Trees) (w : DecimalType) → Reads decimal_schema 0 h.metadata (decimal_value w) → (length bs ≡ 1 → ⊥) → RefusesBuilding BadShape x Decimal h bs us
decimals_buffers x h bs us w shown none = single_buffers x Decimal h (M.decimal w) (decimal_metadata x (typ h.dtype) h.metadata w shown) bs us tt none

-- The lemmas for the steps of decimals.
pub ruleset decimal_steps = (decimals_planned, decimals_unread, decimals_unplanned, decimals_without, decimals_read, few_children, decimals_built, decimals_refused, decimals_buffers)
