-- What an entry plans and builds, by what it is.
use Rattle.std.proofs.Common.{◌≡◌, inl, inr, Bool, true, false, List, Option, Some, None, IsSome, Result, Ok, Err, sym, ap, ◌∙◌, subst, length}
use Rattle.std.specs.Prelude.{option_map, IsSomeAnd, IfOk, IfErr, IsTrue, IsFalse}
use Rattle.vx_buffer.specs.Buffer.{Buffer}
use Rattle.vx_trees.specs.Rose.{count}
use Rattle.vx_types.specs.Known.{ExtMeaning}
use Rattle.vx_types.specs.Seen.{typ}
use Rattle.vx_array_tree.specs.Encoding as E
use Rattle.vx_array_tree.specs.Place.{Place}
use Rattle.vx_array_tree.specs.Tree.{Tree, Trees}
use Rattle.vx_wire_tree.specs.Plugin.{PluginMeaning}
use Rattle.vx_wire_tree.specs.Revised.{revised_holds}
use Rattle.vx_wire_tree.specs.Session.{Reader, revised, plugin, encoding_by}
use Rattle.vx_wire_tree.specs.Steps.{HasNoMetadata, HasNoPlan, HasWrongShape, HasWrongControl, HasWrongContent}
use Rattle.vx_encodings.specs.Messages.{codec}
use Rattle.vx_encodings.specs.Plain.{plain_encoding}
use Rattle.vx_encodings.specs.Steps.{IsPlanned, RefusesPlanning, RefusesBuilding}
use Rattle.vx_encodings.specs.declared.encoding.Encoding.{Encoding}
use Rattle.vx_encodings.specs.declared.encoding.Encoding.TheVariants.{Primitive}
use Rattle.vx_plans.specs.declared.error.EncodingError.{EncodingError}
use Rattle.vx_plans.specs.declared.error.EncodingError.TheVariants as encodings
use Rattle.vx_plans.specs.declared.head.ArrayHead.{ArrayHead}
use Rattle.vx_registry.specs.Plugin.{head_in, read_head, IsAnswer}
use Rattle.vx_registry.specs.declared.plugin.PluginError.{PluginError}
use Rattle.vx_registry.specs.declared.plugin.PluginError.TheVariants as plugins
use Rattle.vx_registry.specs.declared.serialization.ArrayDeserialization.{ArrayDeserialization}
use Rattle.vx_serialized.specs.Decoding.{PlansBy, RefusesPlan, head_over, BuildsBy, RefusesBuild, plugin_refusal}
use Rattle.vx_serialized.specs.ReadingSteps.{encoding_refusal}
use Rattle.vx_serialized.specs.declared.error.WireError.{WireError}
use Rattle.vx_serialized.specs.declared.error.WireError.TheVariants.{BadShape}

-- ---- an encoding refuses

module _ (x : ExtMeaning) (r : Option Reader) (g : Encoding) (by : encoding_by r ≡ Some (plain_encoding g)) (h : ArrayHead) where
  -- What holds of the encoding holds of the one that reads.
  of_reader : (P : E.Encoding → Type 0) → P (plain_encoding g) → IsSomeAnd (encoding_by r) P
  of_reader P k = subst (λ o. IsSomeAnd o P) (sym by) k

  pub unplanned : (e : EncodingError) → RefusesPlanning e x g h → RefusesPlan (encoding_refusal e) x r h
  unplanned encodings.OutOfMemory u = tt
  unplanned encodings.BadMetadata u = of_reader (λ f. HasNoMetadata codec x f (typ h.dtype) h.metadata) u
  unplanned encodings.BadShape u = inl (of_reader (λ f. HasNoPlan codec x f (typ h.dtype) h.len h.metadata h.nchildren) u)
  unplanned encodings.BadContent u = absurd u
  unplanned encodings.ForeignControl u = absurd u
  unplanned encodings.WireLimit u = absurd u

  pub unbuilt : (e : EncodingError) (bs : List Buffer) (ts : Trees) → RefusesBuilding e x g h bs ts → RefusesBuild (encoding_refusal e) x r h bs ts
  unbuilt encodings.OutOfMemory bs ts u = tt
  unbuilt encodings.BadMetadata bs ts u = absurd u
  unbuilt encodings.BadShape bs ts u = of_reader (λ f. HasWrongShape codec x f (typ h.dtype) h.len h.metadata bs ts) u
  unbuilt encodings.BadContent bs ts u = of_reader (λ f. HasWrongContent codec x f (typ h.dtype) h.len h.metadata bs ts) u
  unbuilt encodings.ForeignControl bs ts u = of_reader (λ f. HasWrongControl codec x f (typ h.dtype) h.len h.metadata ts) u
  unbuilt encodings.WireLimit bs ts u = absurd u

-- ---- primitives under two identifiers

never_both : (b : Bool) → IsFalse b → IsTrue b → ⊥
never_both true e t = cc
never_both false e t = cc

-- What was planned stands where the identifier holds the length,
pub held_plan : (x : ExtMeaning) (h : ArrayHead) (ps : List Place) (r : Result (List Place) WireError) → IsPlanned x Primitive h ps → IfOk r (λ qs. (qs ≡ ps) × IsTrue (revised_holds h.serialized_id h.len)) → IfOk r (λ qs. PlansBy x (Some revised) h qs)
held_plan x h ps (Ok qs) plan k = (subst (λ (z : List Place). IsPlanned x Primitive h z) (sym k.0) plan, k.1)
held_plan x h ps (Err e) plan k = tt

-- and is refused where it does not.
pub past_plan : (x : ExtMeaning) (h : ArrayHead) (ps : List Place) (r : Result (List Place) WireError) → IsPlanned x Primitive h ps → IfErr r (λ e. (e ≡ BadShape) × IsFalse (revised_holds h.serialized_id h.len)) → IfErr r (λ e. RefusesPlan e x (Some revised) h)
past_plan x h ps (Ok qs) plan k = tt
past_plan x h ps (Err e) plan k = subst (λ z. RefusesPlan z x (Some revised) h) (sym k.0) (inr (record { places = ps; plan = plan; past = λ holds. never_both (revised_holds h.serialized_id h.len) k.1 holds }))

-- ---- a plugin by its number

module _ {B : Type 0} (means : B → PluginMeaning) where
  abbrev reader_of : Option B → Option Reader
  reader_of o = option_map (λ p. plugin p) (option_map means o)

  -- No plugin has such a number.
  pub no_plugin : (o : Option B) → None ≡ o → IsSome (reader_of o) → ⊥
  no_plugin None e h = absurd (cc)
  no_plugin (Some b) e h = absurd (cc)

  module _ (o : Option B) (b : B) (is : Some b ≡ o) (x y : ExtMeaning) (borrowed : y ≡ x) where
    own : reader_of o ≡ Some (plugin (means b))
    own = ap (λ z. reader_of z) (sym is)

    pub plugin_plans : (h : ArrayHead) (ps : List Place) → (means b).plan (head_in h) y ≡ Some ps → PlansBy x (reader_of o) h ps
    plugin_plans h ps e = subst (λ r. PlansBy x r h ps) (sym own) (ap (λ z. (means b).plan (head_in h) z) (sym borrowed) ∙ e)

    plugin_refuses : (e : PluginError) (h : ArrayHead) → IsAnswer {A = List Place} ((means b).plan (head_in h) x) (Err e) → RefusesPlan (plugin_refusal e) x (Some (plugin (means b))) h
    plugin_refuses plugins.OutOfMemory h u = tt
    plugin_refuses plugins.Refused h u = u

    pub plugin_unplanned : (e : PluginError) (h : ArrayHead) → IsAnswer {A = List Place} ((means b).plan (head_in h) y) (Err e) → RefusesPlan (plugin_refusal e) x (reader_of o) h
    plugin_unplanned e h u =
        subst (λ r. RefusesPlan (plugin_refusal e) x r h) (sym own) (plugin_refuses e h (subst (λ z. IsAnswer {A = List Place} ((means b).plan (head_in h) z) (Err e)) borrowed u))

    module _ (h : ArrayHead) (p : ArrayDeserialization) (bs : List Buffer) (ts : Trees) (head : read_head p ≡ head_over h bs ts) (buffers : p.buffers ≡ bs) (children : p.children ≡ ts) where
      same : (means b).build (read_head p) p.buffers p.children y ≡ (means b).build (head_over h bs ts) bs ts x
      same = λ i. (means b).build (head i) (buffers i) (children i) (borrowed i)

      pub plugin_builds : (t : Tree) → (means b).build (read_head p) p.buffers p.children y ≡ Some t → BuildsBy x (reader_of o) h bs ts t
      plugin_builds t e = subst (λ r. BuildsBy x r h bs ts t) (sym own) (sym same ∙ e)

      refuses_parts : (e : PluginError) → IsAnswer {A = Tree} ((means b).build (head_over h bs ts) bs ts x) (Err e) → RefusesBuild (plugin_refusal e) x (Some (plugin (means b))) h bs ts
      refuses_parts plugins.OutOfMemory u = tt
      refuses_parts plugins.Refused u = u

      pub plugin_unbuilt : (e : PluginError) → IsAnswer {A = Tree} ((means b).build (read_head p) p.buffers p.children y) (Err e) → RefusesBuild (plugin_refusal e) x (reader_of o) h bs ts
      plugin_unbuilt e u =
          subst (λ r. RefusesBuild (plugin_refusal e) x r h bs ts) (sym own) (refuses_parts e (subst (λ z. IsAnswer {A = Tree} z (Err e)) same u))

-- The head of a node whose parts are there.
pub told_parts : (p : ArrayDeserialization) (h : ArrayHead) (bs : List Buffer) (ts : Trees) → p.serialized_id ≡ h.serialized_id → typ p.dtype ≡ typ h.dtype → p.len ≡ h.len → p.metadata ≡ h.metadata → p.buffers ≡ bs → p.children ≡ ts
    → read_head p ≡ head_over h bs ts
told_parts p h bs ts a b c d e f = λ i. record { id = a i; dtype = b i; len = c i; metadata = d i; nbuffers = length (e i); nchildren = count (f i) }
