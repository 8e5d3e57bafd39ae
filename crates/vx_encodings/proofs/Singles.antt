-- The steps of encodings with one buffer, and of those with at most a validity as a child: what is planned, what is
-- built, and why not.
use Rattle.std.proofs.Common.{ℕ, ◌≡◌, ◌≤◌, List, [], ◌∷◌, Some, None, Result, Ok, Err, IfOk, refl, sym, ap, ◌∙◌, subst, inl, length, arith}
use Rattle.vx_buffer.specs.Buffer.{Buffer}
use Rattle.vx_trees.specs.Rose.{node, count, roses_of}
use Rattle.vx_trees.proofs.Lists.{count-roses_of}
use Rattle.vx_types.specs.Known.{ExtMeaning}
use Rattle.vx_types.specs.Seen.{typ}
use Rattle.vx_types.specs.Typ.{Typ}
use Rattle.vx_array_tree.specs.Body.{Body}
use Rattle.vx_array_tree.specs.Encoding.{Encoding}
use Rattle.vx_array_tree.specs.Encoding as E
use Rattle.vx_array_tree.specs.Metadata.{Metadata}
use Rattle.vx_array_tree.specs.Metadata as M
use Rattle.vx_array_tree.specs.Place.{Place, before_validity}
use Rattle.vx_array_tree.specs.Table.{IsFair, IsShaped, Takes, body_of, lifted, plan_of}
use Rattle.vx_array_tree.specs.Tree.{Tree, Trees, places, encodings, untold}
use Rattle.vx_wire_tree.specs.Reads.{IsMetadata}
use Rattle.vx_arrays.specs.Refused.{RefusesMaking}
use Rattle.vx_rows.specs.declared.error.ArrayError.{ArrayError}
use Rattle.vx_encodings.proofs.Fitting.{constructor_refused}
use Rattle.vx_encodings.proofs.Validities.{validity_few}
use Rattle.vx_encodings.specs.Messages.{codec}
use Rattle.vx_encodings.specs.Plain.{plain_encoding}
use Rattle.vx_encodings.specs.Steps.{IsPlanned, RefusesPlanning, IsBuilt, RefusesBuilding, constructor_error}
use Rattle.vx_plans.specs.Plans.{RefusesPlaces}
use Rattle.vx_encodings.specs.declared.encoding.Encoding as Declared
use Rattle.vx_plans.specs.declared.error.EncodingError.{EncodingError}
use Rattle.vx_plans.specs.declared.error.EncodingError.TheVariants.{OutOfMemory, BadMetadata, BadShape}
use Rattle.vx_plans.specs.declared.head.ArrayHead.{ArrayHead}

-- The encodings of one buffer.
abbrev pub IsSingle : Encoding → Type 0
IsSingle E.bool = Unit {0}
IsSingle E.primitive = Unit {0}
IsSingle E.decimal = Unit {0}
IsSingle E.varbin = Unit {0}
IsSingle _ = ⊥

-- Another number of buffers gives no body.
bodiless : (e : Encoding) (v : Metadata) (bs : List Buffer) → IsSingle e → (length bs ≡ 1 → ⊥) → body_of e v bs ≡ None
bodiless E.bool (M.bool o) [] s none = refl
bodiless E.bool (M.bool o) (b ∷ []) s none = absurd (none refl)
bodiless E.bool (M.bool o) (b ∷ c ∷ bs) s none = refl
bodiless E.bool _ bs s none = refl
bodiless E.primitive M.empty [] s none = refl
bodiless E.primitive M.empty (b ∷ []) s none = absurd (none refl)
bodiless E.primitive M.empty (b ∷ c ∷ bs) s none = refl
bodiless E.primitive _ bs s none = refl
bodiless E.decimal (M.decimal w) [] s none = refl
bodiless E.decimal (M.decimal w) (b ∷ []) s none = absurd (none refl)
bodiless E.decimal (M.decimal w) (b ∷ c ∷ bs) s none = refl
bodiless E.decimal _ bs s none = refl
bodiless E.varbin (M.varbin p) [] s none = refl
bodiless E.varbin (M.varbin p) (b ∷ []) s none = absurd (none refl)
bodiless E.varbin (M.varbin p) (b ∷ c ∷ bs) s none = refl
bodiless E.varbin _ bs s none = refl
bodiless _ v bs s none = absurd s

misshaped : (e : Encoding) (d : Typ) (n : ℕ) (v : Metadata) (bs : List Buffer) (k : ℕ) → IsSingle e → (length bs ≡ 1 → ⊥) → IsShaped e d n v bs k → ⊥
misshaped e d n v bs k s none shaped = let f : None ≡ Some shaped.body = sym (bodiless e v bs s none) ∙ shaped.body_is in absurd (cc)

-- Where a validity or nothing is planned, there is at most one child.
pub single_children : (n k : ℕ) (us : Trees) (ts : List Tree) → before_validity [] n k ≡ Some (places us) → roses_of ts ≡ us → length ts ≤ 1
single_children n k us ts planned e = let f = validity_few n k us planned in omega (arith, f.0, count-roses_of ts, ap (λ z. count z) e)

-- A node whose metadata is read.
module _ (x : ExtMeaning) (e : Declared.Encoding) (h : ArrayHead) (v : Metadata) (m : IsMetadata codec x (plain_encoding e) (typ h.dtype) h.metadata v) where
  -- The result for a validity is the result for the node.
  pub single_planned : (r : Result (List Place) EncodingError) → plan_of (plain_encoding e) (typ h.dtype) h.len v h.nchildren ≡ before_validity [] h.len h.nchildren
      → IfOk r (λ ps. before_validity [] h.len h.nchildren ≡ Some ps) → IfOk r (λ ps. IsPlanned x e h ps)
  single_planned (Ok ps) p q = record { value = v; metadata = m; plan = p ∙ q }
  single_planned (Err error) p q = tt

  -- Where nothing is planned, the shape does not fit.
  pub single_unplanned : plan_of (plain_encoding e) (typ h.dtype) h.len v h.nchildren ≡ None → RefusesPlanning BadShape x e h
  single_unplanned none = record { value = v; metadata = m; none = none }

  -- Why no validity is planned is why the node has no plan.
  pub single_without : (error : EncodingError) → plan_of (plain_encoding e) (typ h.dtype) h.len v h.nchildren ≡ before_validity [] h.len h.nchildren
      → RefusesPlaces error (before_validity [] h.len h.nchildren) → RefusesPlanning error x e h
  single_without OutOfMemory p w = tt
  single_without BadMetadata p w = absurd w
  single_without BadShape p w = single_unplanned (p ∙ w)
  single_without _ p w = absurd w

  -- The array that is built has these parts.
  pub single_built : (bs : List Buffer) (us : Trees) (body : Body) (t : Tree) → body_of (plain_encoding e) v bs ≡ Some body → t ≡ node (untold (typ h.dtype) h.len body) us → IsBuilt x e h bs us t
  single_built bs us body t p q = record { value = v; metadata = m; body = body; body_is = p; tree_is = q }

  -- Parts that the constructor refuses do not fit the row of a planned node.
  pub single_refused : (error : ArrayError) (bs : List Buffer) (us : Trees) (b : Buffer) (body : Body) (t : Tree) → bs ≡ b ∷ [] → body_of (plain_encoding e) v (b ∷ []) ≡ Some body → IsFair (plain_encoding e) v
      → plan_of (plain_encoding e) (typ h.dtype) h.len v h.nchildren ≡ before_validity [] h.len h.nchildren → plan_of (plain_encoding e) (typ h.dtype) h.len v h.nchildren ≡ Some (places us)
      → lifted (typ h.dtype) h.len body (places us) ≡ places us → Takes (plain_encoding e) (encodings us) → t ≡ node (untold (typ h.dtype) h.len body) us → RefusesMaking error t
      → RefusesBuilding (constructor_error error) x e h bs us
  single_refused error bs us b body t p body_is fair plan planned level takes q refused =
      let few = validity_few h.len h.nchildren us (sym plan ∙ planned) in
      let counted : plan_of (plain_encoding e) (typ h.dtype) h.len v (count us) ≡ Some (places us) = subst (λ (z : ℕ). plan_of (plain_encoding e) (typ h.dtype) h.len v z ≡ Some (places us)) few.1 planned in
      constructor_refused x e h v m error bs us body t (ap (λ (z : List Buffer). body_of (plain_encoding e) v z) p ∙ body_is) fair counted level takes q refused

  -- Another number of buffers than one does not fit.
  pub single_buffers : (bs : List Buffer) (us : Trees) → IsSingle (plain_encoding e) → (length bs ≡ 1 → ⊥) → RefusesBuilding BadShape x e h bs us
  single_buffers bs us s none = record { value = v; metadata = m; wrong = inl (misshaped (plain_encoding e) (typ h.dtype) h.len v bs (count us) s none) }
