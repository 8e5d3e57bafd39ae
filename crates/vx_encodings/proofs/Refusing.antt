-- What is refused has no plan and no array.
use Rattle.std.proofs.Common.{ℕ, ◌≡◌, ◌⊎◌, List, Option, Some, None, sym, ap, ◌∙◌, subst, inl, inr, Result, Ok, Err, IfErr}
use Rattle.std.proofs.lemmas.Option.{same_Some}
use Rattle.vx_buffer.specs.Buffer.{Buffer}
use Rattle.vx_trees.specs.Rose.{node, count, label, below}
use Rattle.vx_types.specs.Known.{ExtMeaning}
use Rattle.vx_types.specs.Seen.{typ}
use Rattle.vx_types.specs.Typ.{Typ}
use Rattle.vx_array_tree.specs.Body.{Body}
use Rattle.vx_array_tree.specs.Encoding.{Encoding}
use Rattle.vx_array_tree.specs.Metadata.{Metadata}
use Rattle.vx_array_tree.specs.Place.{Place}
use Rattle.vx_array_tree.specs.Sound.{IsSound, IsSoundNode, IsControlledBy}
use Rattle.vx_array_tree.specs.Table.{metadata_of, body_of, plan_of, Allows, Content, Takes, IsShaped}
use Rattle.vx_array_tree.specs.Tree.{Tree, Trees, Head, places, encodings, rows_below, untold}
use Rattle.vx_array_tree.proofs.NodeLaws.{body_encoding}
use Rattle.vx_array_tree.proofs.Plans.{metadata_again}
use Rattle.vx_wire_tree.specs.Limits.{HasMessage}
use Rattle.vx_wire_tree.specs.Steps.{PlansChildren, HasNoPlan, HasParts, HasWrongShape, HasWrongControl, HasWrongContent}
use Rattle.vx_encodings.proofs.Laws.{one_value}
use Rattle.vx_encodings.specs.Messages.{codec}
use Rattle.vx_encodings.specs.Plain.{plain_encoding}
use Rattle.vx_encodings.specs.Steps.{IsPlanned, RefusesPlanning, IsBuilt, RefusesBuilding, RefusesWritingMetadata, IsMemory, IsOkOrMemory}
use Rattle.vx_encodings.specs.declared.encoding.Encoding as Declared
use Rattle.vx_plans.specs.declared.error.EncodingError.{EncodingError}
use Rattle.vx_plans.specs.declared.error.EncodingError.TheVariants.{OutOfMemory, BadMetadata, BadShape, BadContent, ForeignControl, WireLimit}
use Rattle.vx_plans.specs.declared.head.ArrayHead.{ArrayHead}

not_both : {A : Type 0} {x : A} (o : Option A) → o ≡ None → o ≡ Some x → ⊥
not_both o p q = absurd (cc)

no_plan : (x : ExtMeaning) (e : Encoding) (d : Typ) (n : ℕ) (bytes : List ℕ) (k : ℕ) (ps : List Place) → HasNoPlan codec x e d n bytes k → PlansChildren codec x e d n bytes k ps → ⊥
no_plan x e d n bytes k ps u p =
    let same = one_value x e d bytes u.value p.value u.metadata p.metadata in
    not_both (plan_of e d n p.value k) (sym (ap (λ v. plan_of e d n v k) same) ∙ u.none) p.plan

-- Where there is a plan, the only refusal is `OutOfMemory`.
pub planned_refusal : (x : ExtMeaning) (error : EncodingError) (e : Declared.Encoding) (h : ArrayHead) (ps : List Place) → RefusesPlanning error x e h → IsPlanned x e h ps → IsMemory error
planned_refusal x OutOfMemory e h ps u p = tt
planned_refusal x BadMetadata e h ps u p = absurd (u p.value p.metadata)
planned_refusal x BadShape e h ps u p = absurd (no_plan x (plain_encoding e) (typ h.dtype) h.len h.metadata h.nchildren ps u p)
planned_refusal x _ e h ps u p = absurd u

-- The parts of a sound array whose children were planned are as the encoding's row asks.
module _ (x : ExtMeaning) (e : Encoding) (d : Typ) (n : ℕ) (bytes : List ℕ) (k : ℕ) (bs : List Buffer) (ts : Trees) where
  root_is : (t : Tree) (h : Head) → t ≡ node h ts → IsSound t → IsSoundNode h ts
  root_is t h q s = let r : IsSound (node h ts) = subst (λ (z : Tree). IsSound z) q s in r.0

  metadata_is : (v : Metadata) (b : Body) → body_of e v bs ≡ Some b → plan_of e d n v k ≡ Some (places ts) → metadata_of b (places ts) ≡ v
  metadata_is v b p q = metadata_again e d n v k bs b (places ts) p q

  shaped : (v : Metadata) (b : Body) → body_of e v bs ≡ Some b → plan_of e d n v k ≡ Some (places ts) → IsSoundNode (untold d n b) ts → IsShaped e d n v bs (count ts)
  shaped v b p q s = record {
    body = b;
    body_is = p;
    holds = s.holds;
    allows = subst (λ (z : Metadata). Allows e d z (count ts)) (metadata_is v b p q)
        (subst (λ (z : Encoding). Allows z d (metadata_of b (places ts)) (count ts)) (body_encoding e v bs b p) s.allows);
  }

  takes : (v : Metadata) (b : Body) → body_of e v bs ≡ Some b → IsSoundNode (untold d n b) ts → Takes e (encodings ts)
  takes v b p s = subst (λ (z : Encoding). Takes z (encodings ts)) (body_encoding e v bs b p) s.takes

  wrong_parts : (v : Metadata) (b : Body) → body_of e v bs ≡ Some b → plan_of e d n v k ≡ Some (places ts) → IsSoundNode (untold d n b) ts
      → (IsShaped e d n v bs (count ts) → ⊥) ⊎ (Takes e (encodings ts) → ⊥) → ⊥
  wrong_parts v b p q s (inl w) = w (shaped v b p q s)
  wrong_parts v b p q s (inr w) = w (takes v b p s)

  not_wrong : (t : Tree) → PlansChildren codec x e d n bytes k (places ts) → HasParts codec x e d n bytes bs ts t → IsSound t → HasWrongShape codec x e d n bytes bs ts → ⊥
  not_wrong t planned parts sound w =
      let same = one_value x e d bytes planned.value parts.value planned.metadata parts.metadata in
      let other = one_value x e d bytes w.value parts.value w.metadata parts.metadata in
      let plan : plan_of e d n parts.value k ≡ Some (places ts) = subst (λ (z : Metadata). plan_of e d n z k ≡ Some (places ts)) same planned.plan in
      let s = root_is t (untold d n parts.body) parts.tree_is sound in
      wrong_parts parts.value parts.body parts.body_is plan s
      (subst (λ (z : Metadata). (IsShaped e d n z bs (count ts) → ⊥) ⊎ (Takes e (encodings ts) → ⊥)) other w.wrong)

  same_body : (v w : Metadata) (b c : Body) → v ≡ w → body_of e v bs ≡ Some b → body_of e w bs ≡ Some c → c ≡ b
  same_body v w b c q p r = sym (same_Some b c (sym p ∙ ap (λ (z : Metadata). body_of e z bs) q ∙ r))

  -- Nor is its content broken.
  not_broken : (t : Tree) → HasParts codec x e d n bytes bs ts t → IsSound t → HasWrongContent codec x e d n bytes bs ts → ⊥
  not_broken t parts sound w =
      let other = one_value x e d bytes w.value parts.value w.metadata parts.metadata in
      let s = root_is t (untold d n parts.body) parts.tree_is sound in
      let b = same_body w.value parts.value w.shaped.body parts.body other w.shaped.body_is parts.body_is in
      w.wrong (subst (λ (c : Body). Content d n c (rows_below ts)) b s.content)

  -- Nor does a foreign node stand where it says where rows are.
  not_foreign : (t : Tree) → PlansChildren codec x e d n bytes k (places ts) → HasParts codec x e d n bytes bs ts t → IsSound t → HasWrongControl codec x e d n bytes ts → ⊥
  not_foreign t planned parts sound w =
      let s = root_is t (untold d n parts.body) parts.tree_is sound in
      w.foreign (subst (λ (z : Encoding). IsControlledBy z d ts) (body_encoding e parts.value bs parts.body parts.body_is) s.controlled)

-- For the parts of a sound array, the only refusal is `OutOfMemory`.
pub built_refusal : (x : ExtMeaning) (error : EncodingError) (e : Declared.Encoding) (h : ArrayHead) (bs : List Buffer) (ts : Trees) (t : Tree)
    → IsPlanned x e h (places ts) → RefusesBuilding error x e h bs ts → IsBuilt x e h bs ts t → IsSound t → IsMemory error
built_refusal x OutOfMemory e h bs ts t planned u parts sound = tt
built_refusal x BadMetadata e h bs ts t planned u parts sound = absurd u
built_refusal x BadShape e h bs ts t planned u parts sound =
    absurd (not_wrong x (plain_encoding e) (typ h.dtype) h.len h.metadata h.nchildren bs ts t planned parts sound u)
built_refusal x BadContent e h bs ts t planned u parts sound =
    absurd (not_broken x (plain_encoding e) (typ h.dtype) h.len h.metadata h.nchildren bs ts t parts sound u)
built_refusal x ForeignControl e h bs ts t planned u parts sound =
    absurd (not_foreign x (plain_encoding e) (typ h.dtype) h.len h.metadata h.nchildren bs ts t planned parts sound u)
built_refusal x WireLimit e h bs ts t planned u parts sound = absurd u

-- A result whose refusals are those of a plan is Ok or `OutOfMemory`, where there is a plan.
pub plan_complete : (x : ExtMeaning) (e : Declared.Encoding) (h : ArrayHead) (r : Result (List Place) EncodingError) → IfErr r (λ error. RefusesPlanning error x e h)
    → (ps : List Place) → IsPlanned x e h ps → IsOkOrMemory r
plan_complete x e h (Ok qs) u ps p = tt
plan_complete x e h (Err error) u ps p = planned_refusal x error e h ps u p

-- A result whose refusals are those of building is Ok or `OutOfMemory`, where the node is sound.
pub build_complete : (x : ExtMeaning) (e : Declared.Encoding) (h : ArrayHead) (bs : List Buffer) (ts : Trees) (r : Result Tree EncodingError) → IsPlanned x e h (places ts)
    → IfErr r (λ error. RefusesBuilding error x e h bs ts) → (t : Tree) → IsBuilt x e h bs ts t → IsSound t → IsOkOrMemory r
build_complete x e h bs ts (Ok u) planned refused t parts sound = tt
build_complete x e h bs ts (Err error) planned refused t parts sound = built_refusal x error e h bs ts t planned refused parts sound

-- For metadata that fits its message, the only refusal is `OutOfMemory`.
written_refusal : (error : EncodingError) (t : Tree) → RefusesWritingMetadata error t → HasMessage (label t) (below t) → IsMemory error
written_refusal OutOfMemory t u h = tt
written_refusal BadMetadata t u h = absurd u
written_refusal BadShape t u h = absurd u
written_refusal BadContent t u h = absurd u
written_refusal ForeignControl t u h = absurd u
written_refusal WireLimit t u h = absurd (u h)

pub metadata_complete : (t : Tree) (r : Result (List ℕ) EncodingError) → IfErr r (λ error. RefusesWritingMetadata error t) → HasMessage (label t) (below t) → IsOkOrMemory r
metadata_complete t (Ok bytes) u h = tt
metadata_complete t (Err error) u h = written_refusal error t u h
