-- The steps of nodes of booleans.
use Rattle.std.proofs.Common.{ℕ, ◌≡◌, ◌≤◌, ◌<◌, List, [], ◌∷◌, Option, Some, None, Result, IfOk, refl, sym, ap, ◌∙◌, subst, length, arith}
use Rattle.vx_buffer.specs.Buffer.{Buffer}
use Rattle.vx_trees.specs.Rose.{node, end, roses_of}
use Rattle.vx_types.specs.Kind.{boolean}
use Rattle.vx_types.specs.Known.{ExtMeaning}
use Rattle.vx_types.specs.Seen.{typ}
use Rattle.vx_types.specs.Typ.{Typ}
use Rattle.vx_types.specs.declared.dtype.DType.TheVariants as D
use Rattle.vx_types.specs.declared.nullability.Nullability.{Nullability}
use Rattle.vx_proto.specs.Reads.{Reads}
use Rattle.vx_array_tree.specs.Body as B
use Rattle.vx_array_tree.specs.Encoding as E
use Rattle.vx_array_tree.specs.Encodings.Bools.{plan}
use Rattle.vx_array_tree.specs.Metadata.{Metadata}
use Rattle.vx_array_tree.specs.Metadata as M
use Rattle.vx_array_tree.specs.Place.{Place, before_validity}
use Rattle.vx_array_tree.specs.Table.{plan_of}
use Rattle.vx_array_tree.specs.Tree.{Tree, Trees, places, option_trees, untold}
use Rattle.vx_arrays.specs.Bools.{bool_tree}
use Rattle.vx_arrays.specs.Refused.{RefusesMaking}
use Rattle.vx_rows.specs.declared.error.ArrayError.{ArrayError}
use Rattle.vx_encodings.proofs.Offsets.{bool_metadata, bool_offset, offset_is, ReadsOffset}
use Rattle.vx_encodings.proofs.Singles.{single_children, single_planned, single_unplanned, single_without, single_built, single_refused, single_buffers}
use Rattle.vx_encodings.specs.BoolMessage.{bool_schema, bool_value}
use Rattle.vx_encodings.specs.Steps.{IsPlanned, RefusesPlanning, IsBuilt, RefusesBuilding, RefusesMetadata, constructor_error}
use Rattle.vx_plans.specs.Plans.{RefusesPlaces}
use Rattle.vx_encodings.specs.declared.encoding.Encoding.TheVariants.{Bool}
use Rattle.vx_plans.specs.declared.error.EncodingError.{EncodingError}
use Rattle.vx_plans.specs.declared.error.EncodingError.TheVariants.{OutOfMemory, BadMetadata, BadShape}
use Rattle.vx_plans.specs.declared.head.ArrayHead.{ArrayHead}

-- Under a boolean type a validity or nothing is planned.
plan_is : (d : Typ) (n k : ℕ) (m : Nullability) → d ≡ node (boolean m) end → plan d n k ≡ before_validity [] n k
plan_is d n k m e = rw e refl

-- So the result for a validity is the result for the node.
pub flags_planned : (x : ExtMeaning) (h : ArrayHead) (r : Result (List Place) EncodingError) (o : ℕ) (m : Nullability) → Reads bool_schema 0 h.metadata (bool_value o) → o < 8 → h.dtype ≡ D.Bool m
    → IfOk r (λ ps. before_validity [] h.len h.nchildren ≡ Some ps) → IfOk r (λ ps. IsPlanned x Bool h ps)
flags_planned x h r o m shown lt d e =
    single_planned x Bool h (M.bool o) (bool_metadata x (typ h.dtype) h.metadata o shown lt) r (plan_is (typ h.dtype) h.len h.nchildren m (ap (λ z. typ z) d)) e

-- Bytes that are no message are no metadata.
pub flags_unread : (x : ExtMeaning) (error : EncodingError) (h : ArrayHead) → RefusesMetadata error bool_schema 0 h.metadata → RefusesPlanning error x Bool h
flags_unread x OutOfMemory h u = tt
flags_unread x BadMetadata h u = λ v m. u _ (bool_offset x (typ h.dtype) h.metadata v m).reads
flags_unread x BadShape h u = absurd u
flags_unread x _ h u = absurd u

bool_at : (a b : ℕ) → M.bool a ≡ M.bool b → a ≡ b
bool_at a b e = cc

-- Nor are those of an offset of 8 and more.
pub flags_past : (x : ExtMeaning) (h : ArrayHead) (o : ℕ) → Reads bool_schema 0 h.metadata (bool_value o) → 8 ≤ o → RefusesPlanning BadMetadata x Bool h
flags_past x h o r ge v m =
    let p = bool_offset x (typ h.dtype) h.metadata v m in
    let e = bool_at p.offset o (sym p.value_is ∙ offset_is h.metadata v o p r) in
    omega (arith, p.below)

-- Where nothing is planned, the shape does not fit.
pub flags_unplanned : (x : ExtMeaning) (h : ArrayHead) (o : ℕ) → Reads bool_schema 0 h.metadata (bool_value o) → o < 8 → plan (typ h.dtype) h.len h.nchildren ≡ None → RefusesPlanning BadShape x Bool h
flags_unplanned x h o r lt e = single_unplanned x Bool h (M.bool o) (bool_metadata x (typ h.dtype) h.metadata o r lt) e

-- Why no validity is planned is why the node has no plan.
pub flags_without : (error : EncodingError) (x : ExtMeaning) (h : ArrayHead) (o : ℕ) (m : Nullability) → Reads bool_schema 0 h.metadata (bool_value o) → o < 8 → h.dtype ≡ D.Bool m
    → RefusesPlaces error (before_validity [] h.len h.nchildren) → RefusesPlanning error x Bool h
flags_without error x h o m r lt d e =
    single_without x Bool h (M.bool o) (bool_metadata x (typ h.dtype) h.metadata o r lt) error (plan_is (typ h.dtype) h.len h.nchildren m (ap (λ z. typ z) d)) e

-- What was planned: metadata of an offset, a boolean type, and at most one child, a validity.
pub record FlagsPlan (h : ArrayHead) (us : Trees) : Type 0 where
  pub value : Metadata
  pub read : ReadsOffset h.metadata value
  pub planned : plan (typ h.dtype) h.len h.nchildren ≡ Some (places us)

plan_some : (v : Metadata) (o : ℕ) (d : Typ) (n k : ℕ) (ps : List Place) → v ≡ M.bool o → plan_of E.bool d n v k ≡ Some ps → plan d n k ≡ Some ps
plan_some v o d n k ps e p = subst (λ (z : Metadata). plan_of E.bool d n z k ≡ Some ps) e p

pub flags_plan : (x : ExtMeaning) (h : ArrayHead) (us : Trees) → IsPlanned x Bool h (places us) → FlagsPlan h us
flags_plan x h us p =
    let m = bool_offset x (typ h.dtype) h.metadata p.value p.metadata in
    record { value = p.value; read = m; planned = plan_some p.value m.offset (typ h.dtype) h.len h.nchildren (places us) m.value_is p.plan }

-- So its metadata is read again, and the only refusal is `OutOfMemory`.
pub flags_read : (x : ExtMeaning) (error : EncodingError) (h : ArrayHead) (bs : List Buffer) (us : Trees) → (y : ExtMeaning) × IsPlanned y Bool h (places us) → RefusesMetadata error bool_schema 0 h.metadata → RefusesBuilding error x Bool h bs us
flags_read x OutOfMemory h bs us planned u = tt
flags_read x BadMetadata h bs us planned u = absurd (u _ (flags_plan planned.0 h us planned.1).read.reads)
flags_read x BadShape h bs us planned u = absurd u
flags_read x _ h bs us planned u = absurd u

-- A planned boolean node has at most one child.
pub few_children : (h : ArrayHead) (us : Trees) (ts : List Tree) (m : Nullability) → (y : ExtMeaning) × IsPlanned y Bool h (places us) → h.dtype ≡ D.Bool m → roses_of ts ≡ us → length ts ≤ 1
few_children h us ts m planned d e =
    single_children h.len h.nchildren us ts (sym (plan_is (typ h.dtype) h.len h.nchildren m (ap (λ z. typ z) d)) ∙ (flags_plan planned.0 h us planned.1).planned) e

-- The offset that is read is the one that was planned with, and it is below 8.
read_below : (h : ArrayHead) (us : Trees) (o : ℕ) → FlagsPlan h us → Reads bool_schema 0 h.metadata (bool_value o) → o < 8
read_below h us o p r =
    let e = bool_at p.read.offset o (sym p.read.value_is ∙ offset_is h.metadata p.value o p.read r) in
    omega (arith, p.read.below)

-- What the constructor makes, as the node of the head's type over the children.
made : (h : ArrayHead) (us : Trees) (o : ℕ) (m : Nullability) (b : Buffer) (v : Option Tree) → h.dtype ≡ D.Bool m → option_trees v ≡ us
    → bool_tree b o h.len m v ≡ node (untold (typ h.dtype) h.len (B.bool (record { bits = b; offset = o }))) us
made h us o m b v d e = rw (ap (λ z. typ z) d, e) refl

-- The array that is built has these parts.
pub flags_built : (x : ExtMeaning) (h : ArrayHead) (bs : List Buffer) (us : Trees) (o : ℕ) (m : Nullability) (b : Buffer) (v : Option Tree) (t : Tree)
    → (y : ExtMeaning) × IsPlanned y Bool h (places us) → Reads bool_schema 0 h.metadata (bool_value o) → h.dtype ≡ D.Bool m → bs ≡ b ∷ [] → option_trees v ≡ us → t ≡ bool_tree b o h.len m v → IsBuilt x Bool h bs us t
flags_built x h bs us o m b v t planned r d p e q =
    let lt = read_below h us o (flags_plan planned.0 h us planned.1) r in
    single_built x Bool h (M.bool o) (bool_metadata x (typ h.dtype) h.metadata o r lt) bs us (B.bool (record { bits = b; offset = o })) t (rw p refl) (q ∙ made h us o m b v d e)

-- Parts that the constructor refuses do not fit the row of a planned node.
pub flags_refused : (x : ExtMeaning) (error : ArrayError) (h : ArrayHead) (bs : List Buffer) (us : Trees) (o : ℕ) (m : Nullability) (b : Buffer) (v : Option Tree)
    → (y : ExtMeaning) × IsPlanned y Bool h (places us) → Reads bool_schema 0 h.metadata (bool_value o) → h.dtype ≡ D.Bool m → bs ≡ b ∷ [] → option_trees v ≡ us → RefusesMaking error (bool_tree b o h.len m v)
    → RefusesBuilding (constructor_error error) x Bool h bs us
flags_refused x error h bs us o m b v planned r d p e refused =
    let q = flags_plan planned.0 h us planned.1 in
    let lt = read_below h us o q r in
    single_refused x Bool h (M.bool o) (bool_metadata x (typ h.dtype) h.metadata o r lt) error bs us b (B.bool (record { bits = b; offset = o })) (bool_tree b o h.len m v)
    p refl lt (plan_is (typ h.dtype) h.len h.nchildren m (ap (λ z. typ z) d)) q.planned refl tt (made h us o m b v d e) refused

-- Another number of buffers than one does not fit.
pub flags_buffers : (x : ExtMeaning) (h : ArrayHead) (bs : List Buffer) (us : Trees) (o : ℕ) → (y : ExtMeaning) × IsPlanned y Bool h (places us) → Reads bool_schema 0 h.metadata (bool_value o) → (length bs ≡ 1 → ⊥) → RefusesBuilding BadShape x Bool h bs us
flags_buffers x h bs us o planned r none =
    single_buffers x Bool h (M.bool o) (bool_metadata x (typ h.dtype) h.metadata o r (read_below h us o (flags_plan planned.0 h us planned.1) r)) bs us tt none

-- The lemmas for the steps of booleans.
pub ruleset bool_steps = (flags_planned, flags_unread, flags_past, flags_unplanned, flags_without, flags_read, few_children, flags_built, flags_refused, flags_buffers)
