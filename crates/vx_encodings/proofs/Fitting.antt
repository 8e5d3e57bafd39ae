-- Parts that a constructor refuses break the row of their encoding: they are of another shape, or their content is broken.
use Rattle.std.proofs.Common.{ℕ, ◌≡◌, List, Some, sym, ap, ◌∙◌, subst, inl, inr}
use Rattle.std.specs.Prelude.{◌⊎◌}
use Rattle.vx_buffer.specs.Buffer.{Buffer}
use Rattle.vx_trees.specs.Rose.{node, count, label, below}
use Rattle.vx_types.specs.Known.{ExtMeaning}
use Rattle.vx_types.specs.Seen.{typ}
use Rattle.vx_types.specs.Typ.{Typ}
use Rattle.vx_array_tree.specs.Body.{Body}
use Rattle.vx_array_tree.specs.Encoding.{Encoding}
use Rattle.vx_array_tree.specs.Metadata.{Metadata}
use Rattle.vx_array_tree.specs.Place.{Place}
use Rattle.vx_array_tree.specs.Refused.{IsMisshaped, IsWellShaped, IsForeignControlled, HasBrokenContent}
use Rattle.vx_array_tree.specs.Sound.{IsControlled, IsControlledBy}
use Rattle.vx_array_tree.specs.Table.{IsFair, metadata_of, body_of, plan_of, lifted, Allows, Holds, Takes, IsShaped, encoding_of}
use Rattle.vx_array_tree.specs.Tree.{Tree, Trees, places, encodings, untold}
use Rattle.vx_array_tree.proofs.Built.{takes_decided}
use Rattle.vx_array_tree.proofs.NodeLaws.{body_encoding}
use Rattle.vx_array_tree.proofs.Plans.{metadata_again}
use Rattle.vx_wire_tree.specs.Reads.{IsMetadata}
use Rattle.vx_arrays.specs.Refused.{RefusesMaking}
use Rattle.vx_rows.specs.declared.error.ArrayError.{ArrayError}
use Rattle.vx_rows.specs.declared.error.ArrayError.TheVariants as A
use Rattle.vx_encodings.specs.Messages.{codec}
use Rattle.vx_encodings.specs.Plain.{plain_encoding}
use Rattle.vx_encodings.specs.Steps.{RefusesBuilding, constructor_error}
use Rattle.vx_encodings.specs.declared.encoding.Encoding as Declared
use Rattle.vx_plans.specs.declared.head.ArrayHead.{ArrayHead}

module _ (e : Encoding) (d : Typ) (n : ℕ) (v : Metadata) (bs : List Buffer) (b : Body) (us : Trees) where
  same_body : (c : Body) → body_of e v bs ≡ Some b → body_of e v bs ≡ Some c → c ≡ b
  same_body c p q = cc

  well_shaped : encoding_of b ≡ e → metadata_of b (places us) ≡ v → IsFair e v → plan_of e d n v (count us) ≡ Some (lifted d n b (places us)) → Allows e d v (count us) → Takes e (encodings us) → Holds d n b
      → IsWellShaped (untold d n b) us
  well_shaped named again fair planned allows takes holds =
      let fair2 : IsFair (encoding_of b) (metadata_of b (places us)) = subst (λ (z : Encoding). IsFair z (metadata_of b (places us))) (sym named) (subst (λ (w : Metadata). IsFair e w) (sym again) fair) in
      record {
        fair = fair2;
        planned = ap (λ (z : Encoding). plan_of z d n (metadata_of b (places us)) (count us)) named ∙ ap (λ (w : Metadata). plan_of e d n w (count us)) again ∙ planned;
        allows = subst (λ (z : Encoding). Allows z d (metadata_of b (places us)) (count us)) (sym named) (subst (λ (w : Metadata). Allows e d w (count us)) (sym again) allows);
        takes = subst (λ (z : Encoding). Takes z (encodings us)) (sym named) takes;
        holds = holds;
      }

  -- So it is where the children stand where they are planned, and may be of their encodings.
  pub unfit : body_of e v bs ≡ Some b → IsFair e v → plan_of e d n v (count us) ≡ Some (places us) → lifted d n b (places us) ≡ places us → Takes e (encodings us)
      → IsMisshaped (untold d n b) us → IsShaped e d n v bs (count us) → ⊥
  unfit body_is fair planned level takes refused s =
      refused (well_shaped (body_encoding e v bs b body_is) (metadata_again e d n v (count us) bs b (places us) body_is planned) fair
      (planned ∙ ap (λ (ps : List Place). Some ps) (sym level)) s.allows takes (subst (λ (c : Body). Holds d n c) (same_body s.body body_is s.body_is) s.holds))

  -- And that many children may stand below a well-shaped node.
  allowed : body_of e v bs ≡ Some b → plan_of e d n v (count us) ≡ Some (places us) → IsWellShaped (untold d n b) us → Allows e d v (count us)
  allowed body_is planned s =
      subst (λ (w : Metadata). Allows e d w (count us)) (metadata_again e d n v (count us) bs b (places us) body_is planned)
      (subst (λ (z : Encoding). Allows z d (metadata_of b (places us)) (count us)) (body_encoding e v bs b body_is) s.allows)

-- A planned node whose metadata is read.
module _ (x : ExtMeaning) (e : Declared.Encoding) (h : ArrayHead) (v : Metadata) (m : IsMetadata codec x (plain_encoding e) (typ h.dtype) h.metadata v) where
  -- Where the constructor says so, a foreign node stands where rows must be known.
  pub control_refused : (bs : List Buffer) (us : Trees) (body : Body) (t : Tree) → body_of (plain_encoding e) v bs ≡ Some body → t ≡ node (untold (typ h.dtype) h.len body) us
      → RefusesMaking A.ForeignControl t → RefusesBuilding (constructor_error A.ForeignControl) x e h bs us
  control_refused bs us body t body_is q refused =
      let r = subst (λ (z : Tree). IsForeignControlled (label z) (below z)) q refused in
      record {
        value = v;
        metadata = m;
        foreign = λ c. r.foreign (subst (λ (z : Encoding). IsControlledBy z (typ h.dtype) us) (sym (body_encoding (plain_encoding e) v bs body body_is)) c);
      }

  -- The children that say where rows are, are known to the encoding that the parts are of.
  pub controlled_by : (bs : List Buffer) (us : Trees) (body : Body) → body_of (plain_encoding e) v bs ≡ Some body → IsControlled (untold (typ h.dtype) h.len body) us → IsControlledBy (plain_encoding e) (typ h.dtype) us
  controlled_by bs us body body_is c = subst (λ (z : Encoding). IsControlledBy z (typ h.dtype) us) (body_encoding (plain_encoding e) v bs body body_is) c

  -- Parts that the constructor refuses do not fit its row.
  pub constructor_refused : (error : ArrayError) (bs : List Buffer) (us : Trees) (body : Body) (t : Tree) → body_of (plain_encoding e) v bs ≡ Some body → IsFair (plain_encoding e) v
      → plan_of (plain_encoding e) (typ h.dtype) h.len v (count us) ≡ Some (places us) → lifted (typ h.dtype) h.len body (places us) ≡ places us → Takes (plain_encoding e) (encodings us)
      → t ≡ node (untold (typ h.dtype) h.len body) us → RefusesMaking error t → RefusesBuilding (constructor_error error) x e h bs us
  constructor_refused A.OutOfMemory bs us body t body_is fair planned level takes q refused = tt
  constructor_refused A.BadShape bs us body t body_is fair planned level takes q refused =
      let wrong = subst (λ (z : Tree). IsMisshaped (label z) (below z)) q refused in
      record { value = v; metadata = m; wrong = inl (unfit (plain_encoding e) (typ h.dtype) h.len v bs body us body_is fair planned level takes wrong) }
  constructor_refused A.BadContent bs us body t body_is fair planned level takes q refused =
      let broken = subst (λ (z : Tree). HasBrokenContent (label z) (below z)) q refused in
      record {
        value = v;
        metadata = m;
        shaped = record {
          body = body;
          body_is = body_is;
          holds = broken.shaped.holds;
          allows = allowed (plain_encoding e) (typ h.dtype) h.len v bs body us body_is planned broken.shaped;
        };
        controlled = controlled_by bs us body body_is broken.controlled;
        wrong = broken.broken;
      }
  constructor_refused A.ForeignControl bs us body t body_is fair planned level takes q refused = control_refused bs us body t body_is q refused
  constructor_refused A.ValueTooLarge bs us body t body_is fair planned level takes q refused = absurd refused
  constructor_refused A.BadCast bs us body t body_is fair planned level takes q refused = absurd refused

  -- Nor do they where children of their encodings may not stand below the node.
  either_refused : (error : ArrayError) (bs : List Buffer) (us : Trees) (body : Body) (t : Tree) → Takes (plain_encoding e) (encodings us) ⊎ (Takes (plain_encoding e) (encodings us) → ⊥) → body_of (plain_encoding e) v bs ≡ Some body → IsFair (plain_encoding e) v
      → plan_of (plain_encoding e) (typ h.dtype) h.len v (count us) ≡ Some (places us) → lifted (typ h.dtype) h.len body (places us) ≡ places us
      → t ≡ node (untold (typ h.dtype) h.len body) us → RefusesMaking error t → RefusesBuilding (constructor_error error) x e h bs us
  either_refused error bs us body t (inl takes) body_is fair planned level q refused = constructor_refused error bs us body t body_is fair planned level takes q refused
  either_refused A.OutOfMemory bs us body t (inr none) body_is fair planned level q refused = tt
  either_refused A.BadShape bs us body t (inr none) body_is fair planned level q refused = record { value = v; metadata = m; wrong = inr none }
  either_refused A.BadContent bs us body t (inr none) body_is fair planned level q refused =
      let broken = subst (λ (z : Tree). HasBrokenContent (label z) (below z)) q refused in
      absurd (none (subst (λ (z : Encoding). Takes z (encodings us)) (body_encoding (plain_encoding e) v bs body body_is) broken.shaped.takes))
  either_refused A.ForeignControl bs us body t (inr none) body_is fair planned level q refused = control_refused bs us body t body_is q refused
  either_refused A.ValueTooLarge bs us body t (inr none) body_is fair planned level q refused = absurd refused
  either_refused A.BadCast bs us body t (inr none) body_is fair planned level q refused = absurd refused

  pub children_refused : (error : ArrayError) (bs : List Buffer) (us : Trees) (body : Body) (t : Tree) → body_of (plain_encoding e) v bs ≡ Some body → IsFair (plain_encoding e) v
      → plan_of (plain_encoding e) (typ h.dtype) h.len v (count us) ≡ Some (places us) → lifted (typ h.dtype) h.len body (places us) ≡ places us
      → t ≡ node (untold (typ h.dtype) h.len body) us → RefusesMaking error t → RefusesBuilding (constructor_error error) x e h bs us
  children_refused error bs us body t body_is fair planned level q refused = either_refused error bs us body t (takes_decided (plain_encoding e) (encodings us)) body_is fair planned level q refused
