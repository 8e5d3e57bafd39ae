-- What is serialized of an array that meets what is asked is read again as the array.
use Rattle.std.proofs.Common.{ℕ, zero, suc, ◌≡◌, ◌≤◌, List, Option, Some, None, Bool, true, false, refl, subst, arith}
use Rattle.std.specs.Prelude.{if◌then◌else◌}
use Rattle.vx_buffer.specs.Buffer.{Buffer}
use Rattle.vx_trees.specs.Everywhere.{EverywhereBelow}
use Rattle.vx_trees.specs.Rose.{node, end, more}
use Rattle.vx_trees.specs.Walks.{levels, levels_below}
use Rattle.vx_array_tree.specs.Body.{Body}
use Rattle.vx_array_tree.specs.Body as B
use Rattle.vx_array_tree.specs.Place.{Place}
use Rattle.vx_array_tree.specs.Table.{encoding_of, id_of, metadata_of}
use Rattle.vx_array_tree.specs.Tree.{Tree, Trees, Head}
use Rattle.vx_wire_tree.specs.Context.{Context, is_among}
use Rattle.vx_wire_tree.specs.Limits.{HasMessage, HasMessages}
use Rattle.vx_wire_tree.specs.Fields.{FitsMessage}
use Rattle.vx_wire_tree.specs.Plugin.{PluginMeaning, Parts, Answer, none, refused, given}
use Rattle.vx_wire_tree.specs.ReadBack.{IsStorableNode, HasStorableStats}
use Rattle.vx_wire_tree.specs.Returns.{IsOwnCanon, ReturnsBy, ReturnsAs, Returns}
use Rattle.vx_wire_tree.specs.Session.{SessionMeaning, Reader, shipped, revised, plugin}
use Rattle.vx_wire_tree.specs.Taken.{Step, written, unwritten, undeclared, IsWrittenStep, given_head, plugin_step, writer_step, step_by, step_head, step_below, each, Each, taken, IsTaken}
use Rattle.vx_wire_tree.proofs.Laws.{places_taken}
use Rattle.vx_encodings.specs.Messages.{codec}
use Rattle.vx_serde.specs.declared.options.SerializeOptions.{SerializeOptions}
use Rattle.vx_serde.specs.Limits.{most_levels}
use Rattle.vx_serde.specs.Returning.{IsReadByWriter, IsReadAs, AreReadByWriters, IsReturnable}
use Rattle.vx_serde.specs.Serializing.{IsSerialized, ReturnsWhole}
use Rattle.vx_serde.proofs.WrittenOwn.{levels_within}

module _ (s : SessionMeaning) where
  -- What is known of a step that is written, and of the arrays below it as they are written with room for n levels.
  record IsStepped (n : ℕ) (x : Step) (h : Head) : Type 0 where
    step : IsWrittenStep x
    taken_each : Each (λ u. IsTaken s n u) (step_below x)
    within : levels_below (each (taken s n) (step_below x)) ≤ n
    message : HasMessage (step_head x h) (each (taken s n) (step_below x))
    messages : EverywhereBelow HasMessage (each (taken s n) (step_below x))
    storable : codec.IsStorable (step_head x h).stats
    storables : EverywhereBelow (IsStorableNode codec) (each (taken s n) (step_below x))

  -- What is to be shown of each array with room for n levels.
  abbrev IsReturned : ℕ → Type 0
  IsReturned n = (t : Tree) → IsTaken s n t → levels (taken s n t) ≤ n → HasMessages (taken s n t) → HasStorableStats codec (taken s n t) → AreReadByWriters s n t → Returns codec s n t

  module _ (n : ℕ) (ih : IsReturned n) where
    all_returned : (us : Trees) → Each (λ u. IsTaken s n u) us → levels_below (each (taken s n) us) ≤ n → EverywhereBelow HasMessage (each (taken s n) us) → EverywhereBelow (IsStorableNode codec) (each (taken s n) us)
        → Each (λ u. AreReadByWriters s n u) us → Each (λ u. Returns codec s n u) us
    all_returned end k l m b r = tt
    all_returned (more u us) k l m b r = (ih u k.0 (omega (arith, l)) m.0 b.0 r.0, all_returned us k.1 (omega (arith, l)) m.1 b.1 r.1)

    all_given : (us : Trees) → Each (λ u. IsTaken s n u) us → levels_below (each (taken s n) us) ≤ n → EverywhereBelow HasMessage (each (taken s n) us) → EverywhereBelow (IsStorableNode codec) (each (taken s n) us)
        → Each (λ u. IsOwnCanon codec s u × AreReadByWriters s n u) us → Each (λ u. IsOwnCanon codec s u × Returns codec s n u) us
    all_given end k l m b r = tt
    all_given (more u us) k l m b r = ((r.0.0, ih u k.0 (omega (arith, l)) m.0 b.0 r.0.1), all_given us k.1 (omega (arith, l)) m.1 b.1 r.1)

    abbrev Below : Trees → Type 0
    Below us = Each (λ u. Returns codec s n u) us

    abbrev Given : Trees → Type 0
    Given us = Each (λ u. IsOwnCanon codec s u × Returns codec s n u) us

    abbrev ReadBelow : Trees → Type 0
    ReadBelow us = Each (λ u. AreReadByWriters s n u) us

    abbrev ReadGiven : Trees → Type 0
    ReadGiven us = Each (λ u. IsOwnCanon codec s u × AreReadByWriters s n u) us

    own_message : (h : Head) (ts : Trees) → HasMessage h (each (taken s n) ts) → HasMessage h ts
    own_message h ts m = subst (λ (ps : List Place). FitsMessage (metadata_of h.body ps)) (places_taken s n ts) m

    declared_returns : (p : PluginMeaning) (h : Head) (ts : Trees) (y : Parts) (b : Bool) → is_among y.id p.declared ≡ b → p.serialize (node h ts) ≡ given y
        → IsStepped n (if b then written (given_head h y) y.children else unwritten undeclared) h → (s.reader y.id ≡ Some (plugin p)) × ReadGiven y.children
        → codec.IsStorable h.stats × ReturnsBy s (Some (plugin p)) h ts Below Given
    declared_returns p h ts y false d e f r = absurd f.step
    declared_returns p h ts y true d e f r =
        (f.storable, record { parts = y; serialized = e; declared = d; reader = r.0; below = all_given y.children f.taken_each f.within f.messages f.storables r.1 })

    plugin_returns : (p : PluginMeaning) (h : Head) (ts : Trees) (a : Answer) → p.serialize (node h ts) ≡ a → IsStepped n (plugin_step p h a) h
        → IsReadByWriter s (Some (plugin p)) h ts ReadBelow ReadGiven → codec.IsStorable h.stats × ReturnsBy s (Some (plugin p)) h ts Below Given
    plugin_returns p h ts none e f r = absurd f.step
    plugin_returns p h ts refused e f r = absurd f.step
    plugin_returns p h ts (given y) e f r = declared_returns p h ts y (is_among y.id p.declared) refl e f (r y e)

    writer_returns : (o : Option Reader) (h : Head) (ts : Trees) → IsStepped n (writer_step o h ts) h → IsReadByWriter s o h ts ReadBelow ReadGiven → codec.IsStorable h.stats × ReturnsBy s o h ts Below Given
    writer_returns None h ts f r = absurd f.step
    writer_returns (Some (shipped e)) h ts f r =
        (f.storable, record { message = own_message h ts f.message; reader = r.0; below = all_returned ts f.taken_each f.within f.messages f.storables r.1 })
    writer_returns (Some revised) h ts f r =
        (f.storable, record { message = own_message h ts f.message; reader = r.0; below = all_returned ts f.taken_each f.within f.messages f.storables r.1 })
    writer_returns (Some (plugin p)) h ts f r = plugin_returns p h ts (p.serialize (node h ts)) refl f r

    body_returns : (b : Body) (h : Head) (ts : Trees) → IsStepped n (step_by s b h ts) h → IsReadAs s b h ts ReadBelow ReadGiven → codec.IsStorable h.stats × ReturnsAs s b h ts Below Given
    body_returns (B.foreign x) h ts f r = absurd r
    body_returns _ h ts f r = writer_returns (s.writer _) h ts f r

  returned : (n : ℕ) → IsReturned n
  returned zero t k l m b r = absurd (omega (arith, l))
  returned (suc n) (node h ts) k l m b r =
      body_returns n (λ t k l m b r. returned n t k l m b r) h.body h ts
      (record { step = k.0; taken_each = k.1; within = omega (arith, l); message = m.0; messages = m.1; storable = b.0; storables = b.1 }) r

-- An array that was serialized returns, where it meets what is asked.
pub serialized_returns : (s : SessionMeaning) (t : Tree) (o : SerializeOptions) (before after : Context) (bs : List Buffer) → IsSerialized s t o before after bs → IsReturnable s o t → ReturnsWhole s o t
serialized_returns s t o before after bs x r = record {
  own = r.own;
  returns = returned s (most_levels o) t x.taken (levels_within s t o before after bs x) x.blob.limits.messages x.blob.storable r.read;
}
