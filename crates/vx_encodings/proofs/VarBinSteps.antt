-- The steps of nodes of texts and of bytes by offsets.
use Rattle.std.proofs.Common.{ℕ, suc, ◌≡◌, ◌≤◌, ◌<◌, ◌+◌, ◌-◌, ◌^◌, ◌↔◌, List, [], ◌∷◌, Option, Some, None, Bool, true, false, IsTrue, Result, Ok, Err, IfOk, refl, sym, ap, ◌∙◌, subst, length, arith, add-one}
use Rattle.std.proofs.lemmas.Bool.{iff_false, lt-ltb, le-ltb}
use Rattle.vx_buffer.specs.Buffer.{Buffer}
use Rattle.vx_trees.specs.Rose.{node, end, more, roses_of, count, label}
use Rattle.vx_trees.proofs.Lists.{count-roses_of}
use Rattle.vx_types.specs.Kind.{utf8, binary}
use Rattle.vx_types.specs.Known.{ExtMeaning}
use Rattle.vx_numbers.specs.Numbers.{is_integer}
use Rattle.vx_types.specs.Seen.{typ}
use Rattle.vx_types.specs.Typ.{Typ}
use Rattle.vx_numbers.specs.declared.ptype.PType.{PType}
use Rattle.vx_proto.specs.Reads.{Reads}
use Rattle.vx_array_tree.specs.Body as B
use Rattle.vx_array_tree.specs.Encoding as E
use Rattle.vx_array_tree.specs.Encodings.VarBins.{plan, planned}
use Rattle.vx_array_tree.specs.Metadata.{Metadata}
use Rattle.vx_array_tree.specs.Metadata as M
use Rattle.vx_array_tree.specs.Place.{Place, place, numbers, is_len, before_validity}
use Rattle.vx_array_tree.specs.Table.{plan_of}
use Rattle.vx_array_tree.specs.Tree.{Tree, Trees, places, option_trees, untold}
use Rattle.vx_array_tree.proofs.Options.{let_through}
use Rattle.vx_arrays.specs.Refused.{RefusesMaking}
use Rattle.vx_arrays.specs.VarBins.{IsOfBytes, varbin_tree}
use Rattle.vx_rows.specs.declared.error.ArrayError.{ArrayError}
use Rattle.vx_encodings.proofs.Fitting.{constructor_refused}
use Rattle.vx_encodings.proofs.OffsetKinds.{varbin_metadata, varbin_kind, kind_is_integer}
use Rattle.vx_encodings.proofs.Singles.{single_unplanned, single_built, single_buffers}
use Rattle.vx_encodings.proofs.Validities.{after_few, after_place}
use Rattle.vx_encodings.specs.Steps.{IsPlanned, RefusesPlanning, IsBuilt, RefusesBuilding, RefusesMetadata, constructor_error}
use Rattle.vx_plans.specs.Plans.{RefusesPlaces}
use Rattle.vx_encodings.specs.VarBinMessage.{varbin_schema, varbin_value}
use Rattle.vx_encodings.specs.declared.encoding.Encoding.TheVariants.{VarBin}
use Rattle.vx_plans.specs.declared.error.EncodingError.{EncodingError}
use Rattle.vx_plans.specs.declared.error.EncodingError.TheVariants.{OutOfMemory, BadMetadata, BadShape}
use Rattle.vx_plans.specs.declared.head.ArrayHead.{ArrayHead}

-- ---- a plan

-- Bytes that are no message are no metadata.
pub varbins_unread : (x : ExtMeaning) (error : EncodingError) (h : ArrayHead) → RefusesMetadata error varbin_schema 0 h.metadata → RefusesPlanning error x VarBin h
varbins_unread x OutOfMemory h u = tt
varbins_unread x BadMetadata h u = λ v m. u _ (varbin_kind x (typ h.dtype) h.metadata v m).reads
varbins_unread x BadShape h u = absurd u
varbins_unread x _ h u = absurd u

no_integer : (p : PType) → is_integer p ≡ false → IsTrue (is_integer p) → ⊥
no_integer p e t = absurd (cc)

-- Nor are those of a float kind.
pub varbins_of_floats : (x : ExtMeaning) (h : ArrayHead) (p : PType) (t : Bool) → Reads varbin_schema 0 h.metadata (varbin_value p) → t ≡ is_integer p → t ≡ false → RefusesPlanning BadMetadata x VarBin h
varbins_of_floats x h p t r e f v m = no_integer p (sym e ∙ f) (kind_is_integer x (typ h.dtype) h.metadata v p m r)

counted : (n : ℕ) → suc n < 2 ^ 64 → is_len (suc n) ≡ true
counted n h = lt-ltb (suc n) (2 ^ 64) h

uncounted : (n : ℕ) → 2 ^ 64 ≤ suc n → is_len (suc n) ≡ false
uncounted n h = le-ltb (suc n) (2 ^ 64) h

-- Under a type of texts or bytes one offset more than rows is planned, and a validity or nothing after the offsets.
plan_is : (d : Typ) (n : ℕ) (p : PType) (k : ℕ) → IsOfBytes d → suc n < 2 ^ 64 → plan d n p k ≡ before_validity (place (numbers p) (suc n) ∷ []) n k
plan_is (node (utf8 m) end) n p k h lt = rw (counted n lt) refl
plan_is (node (binary m) end) n p k h lt = rw (counted n lt) refl
plan_is _ n p k h lt = absurd h

plan_none : (d : Typ) (n : ℕ) (p : PType) (k : ℕ) → (IsOfBytes d → ⊥) → plan d n p k ≡ None
plan_none (node (utf8 m) end) n p k h = absurd (h tt)
plan_none (node (binary m) end) n p k h = absurd (h tt)
plan_none _ n p k h = refl

plan_past : (d : Typ) (n : ℕ) (p : PType) (k : ℕ) → 2 ^ 64 ≤ suc n → plan d n p k ≡ None
plan_past (node (utf8 m) end) n p k h = rw (uncounted n h) refl
plan_past (node (binary m) end) n p k h = rw (uncounted n h) refl
plan_past _ n p k h = refl

-- Where the type is another one, or the offsets cannot be counted, the shape does not fit.
pub varbins_of_others : (x : ExtMeaning) (h : ArrayHead) (p : PType) (t u : Bool) → Reads varbin_schema 0 h.metadata (varbin_value p) → t ≡ is_integer p → t ≡ true → (IsTrue u ↔ IsOfBytes (typ h.dtype)) → u ≡ false → RefusesPlanning BadShape x VarBin h
varbins_of_others x h p t u r e f g k =
    single_unplanned x VarBin h (M.varbin p) (varbin_metadata x (typ h.dtype) h.metadata p r (sym e ∙ f)) (plan_none (typ h.dtype) h.len p h.nchildren (iff_false g k))

pub varbins_uncounted : (x : ExtMeaning) (h : ArrayHead) (p : PType) (t : Bool) → Reads varbin_schema 0 h.metadata (varbin_value p) → t ≡ is_integer p → t ≡ true → 2 ^ 64 ≤ h.len + 1 → RefusesPlanning BadShape x VarBin h
varbins_uncounted x h p t r e f past =
    single_unplanned x VarBin h (M.varbin p) (varbin_metadata x (typ h.dtype) h.metadata p r (sym e ∙ f)) (plan_past (typ h.dtype) h.len p h.nchildren (omega (arith, past)))

-- The result for offsets and a validity after them is the result for the node.
pub varbins_planned : (x : ExtMeaning) (h : ArrayHead) (r : Result (List Place) EncodingError) (p : PType) (t u : Bool) (k : ℕ) → Reads varbin_schema 0 h.metadata (varbin_value p) → t ≡ is_integer p → t ≡ true → (IsTrue u ↔ IsOfBytes (typ h.dtype)) → u ≡ true → k ≡ h.len + 1 → k < 2 ^ 64
    → IfOk r (λ ps. before_validity (place (numbers p) k ∷ []) h.len h.nchildren ≡ Some ps) → IfOk r (λ ps. IsPlanned x VarBin h ps)
varbins_planned x h (Ok ps) p t u k shown i f g b e lt q =
    record {
      value = M.varbin p;
      metadata = varbin_metadata x (typ h.dtype) h.metadata p shown (sym i ∙ f);
      plan = plan_is (typ h.dtype) h.len p h.nchildren (g.0 b) (omega (arith, e, lt))
          ∙ ap (λ j. before_validity (place (numbers p) j ∷ []) h.len h.nchildren) (sym (e ∙ add-one h.len)) ∙ q;
    }
varbins_planned x h (Err error) p t u k shown i f g b e lt q = tt

pub varbins_without : (error : EncodingError) (x : ExtMeaning) (h : ArrayHead) (p : PType) (t u : Bool) (k : ℕ) → Reads varbin_schema 0 h.metadata (varbin_value p) → t ≡ is_integer p → t ≡ true → (IsTrue u ↔ IsOfBytes (typ h.dtype)) → u ≡ true → k ≡ h.len + 1 → k < 2 ^ 64
    → RefusesPlaces error (before_validity (place (numbers p) k ∷ []) h.len h.nchildren) → RefusesPlanning error x VarBin h
varbins_without OutOfMemory x h p t u k shown i f g b e lt w = tt
varbins_without BadMetadata x h p t u k shown i f g b e lt w = absurd w
varbins_without BadShape x h p t u k shown i f g b e lt w =
    single_unplanned x VarBin h (M.varbin p) (varbin_metadata x (typ h.dtype) h.metadata p shown (sym i ∙ f))
    (plan_is (typ h.dtype) h.len p h.nchildren (g.0 b) (omega (arith, e, lt)) ∙ ap (λ j. before_validity (place (numbers p) j ∷ []) h.len h.nchildren) (sym (e ∙ add-one h.len)) ∙ w)
varbins_without _ x h p t u k shown i f g b e lt w = absurd w

-- ---- building

-- What was planned: metadata of a kind of integers, a type of texts or of bytes, and the places of the children.
pub record VarBinPlan (h : ArrayHead) (us : Trees) : Type 0 where
  pub kind : PType
  pub reads : Reads varbin_schema 0 h.metadata (varbin_value kind)
  pub integer : IsTrue (is_integer kind)
  pub children : before_validity (place (numbers kind) (suc h.len) ∷ []) h.len h.nchildren ≡ Some (places us)
  pub planned : plan (typ h.dtype) h.len kind h.nchildren ≡ Some (places us)

plan_children : (d : Typ) (n : ℕ) (p : PType) (k : ℕ) (ps : List Place) → plan d n p k ≡ Some ps → before_validity (place (numbers p) (suc n) ∷ []) n k ≡ Some ps
plan_children (node (utf8 m) end) n p k ps e = let_through (is_len (suc n)) _ ps e
plan_children (node (binary m) end) n p k ps e = let_through (is_len (suc n)) _ ps e
plan_children _ n p k ps e = absurd (cc)

plan_some : (v : Metadata) (p : PType) (d : Typ) (n k : ℕ) (ps : List Place) → v ≡ M.varbin p → plan_of E.varbin d n v k ≡ Some ps → plan d n p k ≡ Some ps
plan_some v p d n k ps e q = subst (λ (z : Metadata). plan_of E.varbin d n z k ≡ Some ps) e q

pub varbin_plan : (x : ExtMeaning) (h : ArrayHead) (us : Trees) → IsPlanned x VarBin h (places us) → VarBinPlan h us
varbin_plan x h us p =
    let m = varbin_kind x (typ h.dtype) h.metadata p.value p.metadata in
    let q = plan_some p.value m.offsets_ptype (typ h.dtype) h.len h.nchildren (places us) m.value_is p.plan in
    record {
      kind = m.offsets_ptype;
      reads = m.reads;
      integer = m.integer;
      children = plan_children (typ h.dtype) h.len m.offsets_ptype h.nchildren (places us) q;
      planned = q;
    }

-- A planned node has one child or two.
pub some_child : (h : ArrayHead) (us : Trees) (ts : List Tree) → (y : ExtMeaning) × IsPlanned y VarBin h (places us) → roses_of ts ≡ us → 1 ≤ length ts
some_child h us ts planned e =
    let p = varbin_plan planned.0 h us planned.1 in
    let f = after_few (place (numbers p.kind) (suc h.len)) h.len h.nchildren us p.children in
    omega (arith, f.0, count-roses_of ts, ap (λ z. count z) e)

pub few_children : (h : ArrayHead) (us : Trees) (ts : List Tree) → (y : ExtMeaning) × IsPlanned y VarBin h (places us) → roses_of ts ≡ us → length ts ≤ 2
few_children h us ts planned e =
    let p = varbin_plan planned.0 h us planned.1 in
    let f = after_few (place (numbers p.kind) (suc h.len)) h.len h.nchildren us p.children in
    omega (arith, f.1, count-roses_of ts, ap (λ z. count z) e)

-- What the constructor makes is the node of the head's type and length over the children.
made : (h : ArrayHead) (us : Trees) (o : Tree) (b : Buffer) (v : Option Tree) → VarBinPlan h us → more o (option_trees v) ≡ us
    → varbin_tree (typ h.dtype) o b v ≡ node (untold (typ h.dtype) h.len (B.varbin (record { bytes = b }))) us
made h us o b v p e =
    let q = subst (λ (z : Trees). before_validity (place (numbers p.kind) (suc h.len) ∷ []) h.len h.nchildren ≡ Some (places z)) (sym e) p.children in
    let l : (label o).len ≡ suc h.len = ap (λ (z : Place). z.len) (after_place (place (numbers p.kind) (suc h.len)) h.len h.nchildren o (option_trees v) q) in
    let n : (label o).len - 1 ≡ h.len = omega (arith, l) in
    rw (n, e) refl

-- The array that is built has these parts.
pub varbins_built : (x : ExtMeaning) (h : ArrayHead) (bs : List Buffer) (us : Trees) (o : Tree) (b : Buffer) (v : Option Tree) (t : Tree)
    → (y : ExtMeaning) × IsPlanned y VarBin h (places us) → bs ≡ b ∷ [] → more o (option_trees v) ≡ us → t ≡ varbin_tree (typ h.dtype) o b v → IsBuilt x VarBin h bs us t
varbins_built x h bs us o b v t planned p e q =
    let k = varbin_plan planned.0 h us planned.1 in
    single_built x VarBin h (M.varbin k.kind) (varbin_metadata x (typ h.dtype) h.metadata k.kind k.reads k.integer) bs us (B.varbin (record { bytes = b })) t (rw p refl) (q ∙ made h us o b v k e)

-- Parts that the constructor refuses do not fit the row of a planned node.
pub varbins_refused : (x : ExtMeaning) (error : ArrayError) (h : ArrayHead) (bs : List Buffer) (us : Trees) (o : Tree) (b : Buffer) (v : Option Tree)
    → (y : ExtMeaning) × IsPlanned y VarBin h (places us) → bs ≡ b ∷ [] → more o (option_trees v) ≡ us → RefusesMaking error (varbin_tree (typ h.dtype) o b v) → RefusesBuilding (constructor_error error) x VarBin h bs us
varbins_refused x error h bs us o b v planned p e refused =
    let k = varbin_plan planned.0 h us planned.1 in
    let f = after_few (place (numbers k.kind) (suc h.len)) h.len h.nchildren us k.children in
    let counted : plan (typ h.dtype) h.len k.kind (count us) ≡ Some (places us) = subst (λ (j : ℕ). plan (typ h.dtype) h.len k.kind j ≡ Some (places us)) f.2 k.planned in
    constructor_refused x VarBin h (M.varbin k.kind) (varbin_metadata x (typ h.dtype) h.metadata k.kind k.reads k.integer) error bs us (B.varbin (record { bytes = b })) (varbin_tree (typ h.dtype) o b v)
    (rw p refl) k.integer counted refl tt (made h us o b v k e) refused

-- Another number of buffers than one does not fit.
pub varbins_buffers : (x : ExtMeaning) (h : ArrayHead) (bs : List Buffer) (us : Trees) → (y : ExtMeaning) × IsPlanned y VarBin h (places us) → (length bs ≡ 1 → ⊥) → RefusesBuilding BadShape x VarBin h bs us
varbins_buffers x h bs us planned none =
    let k = varbin_plan planned.0 h us planned.1 in
    single_buffers x VarBin h (M.varbin k.kind) (varbin_metadata x (typ h.dtype) h.metadata k.kind k.reads k.integer) bs us tt none

-- The lemmas for the steps of texts and of bytes.
pub ruleset varbin_steps = (varbins_unread, varbins_of_floats, varbins_of_others, varbins_uncounted, varbins_planned, varbins_without, some_child, few_children, varbins_built, varbins_refused, varbins_buffers)
