-- What is written of an array, node by node, and why a node is not.
use Rattle.std.specs.Prelude.{Box, IsSomeAnd, slice_get}
use Rattle.std.specs.Global.{Global}
use Rattle.std.proofs.Common.{ℕ, zero, suc, Option, Some, None, Bool, ◌≡◌, ◌≤◌, inl, inr, List, [], ◌∷◌, refl, sym, ap, ◌∙◌, subst, arith}
use Rattle.vx_trees.specs.Rose.{node, more, label, below, roses_of}
use Rattle.vx_trees.specs.Walks.{levels}
use Rattle.vx_trees.specs.Everywhere.{EverywhereBelow}
use Rattle.vx_scalars.specs.Stats.{FitStats}
use Rattle.vx_array_tree.specs.Sound.{metadata_in}
use Rattle.vx_array_tree.specs.Table.{metadata_of, buffers_of}
use Rattle.vx_array_tree.specs.Tree.{Tree, Trees, Head, places}
use Rattle.vx_wire_tree.specs.Context.{Context, grown}
use Rattle.vx_wire_tree.specs.Fields.{FitsMessage, told}
use Rattle.vx_wire_tree.specs.Limits.{HasMessage, HasMessages}
use Rattle.vx_wire_tree.specs.Session.{SessionMeaning, IsShipped}
use Rattle.vx_wire_tree.specs.Taken.{Step, written, unwritten, Unwritten, unserializable, IsWrittenStep, given_head, step, step_head, step_below, each, Each, Any, taken, IsTaken, HasUntaken}
use Rattle.vx_wire_tree.specs.ReadBack.{IsWritten}
use Rattle.vx_wire_tree.proofs.Laws.{places_taken, taken_own, never_untaken}
use Rattle.vx_wire_tree.proofs.Laws as laws
use Rattle.vx_encodings.specs.Messages.{codec, message_bytes}
use Rattle.vx_wire_tree.specs.Written.{head_id}
use Rattle.vx_registry.specs.Serialization.{RefusesSerializing, HasLargeMetadata, array_id}
use Rattle.vx_registry.specs.declared.error.RegistryError.{RegistryError}
use Rattle.vx_registry.specs.declared.error.RegistryError.TheVariants as registry
use Rattle.vx_serialized.specs.declared.error.WireError.{WireError}
use Rattle.vx_serialized.specs.declared.error.WireError.TheVariants.{OutOfMemory, NotPermitted, WireLimit, NotSerializable}
use Rattle.vx_serde.specs.declared.options.SerializeOptions.{SerializeOptions}
use Rattle.vx_serde.specs.Causes.{RefusesWriting, RefusesArray}
use Rattle.vx_serialized.specs.Errors.{registry_refusal}
use Rattle.vx_serde.specs.Limits.{most_levels}
use Rattle.vx_serde.specs.Spells.{KeepsWriterLimits}
use Rattle.vx_serde.specs.declared.taken.GivenParts.{GivenParts}
use Rattle.vx_serde.specs.Taking.{as_written, own_parts, taken_head, StandsAs, unwritten_by, RefusesTaking, RefusesOneOf}
use Rattle.vx_serde.proofs.WiredNodes.{wired-levels}

-- A refusal stands for no cause where none holds.
never_because : (o : Option Unwritten) (P : Unwritten → Type 0) → ((why : Unwritten) → P why → ⊥) → IsSomeAnd o P → ⊥
never_because None P f k = k
never_because (Some why) P f k = f why k

-- What follows from each cause follows from the one that a refusal stands for.
because : (o : Option Unwritten) (P Q : Unwritten → Type 0) → ((why : Unwritten) → P why → Q why) → IsSomeAnd o P → IsSomeAnd o Q
because None P Q f k = k
because (Some why) P Q f k = f why k

module _ (s : SessionMeaning) where
  pub message_by_places : (h : Head) (us ts : Trees) → places us ≡ places ts → HasMessage h us → HasMessage h ts
  message_by_places h us ts e m = subst (λ ps. FitsMessage (metadata_of h.body ps)) e m

  -- ---- a node whose step writes it

  module _ (n : ℕ) (t : Tree) (h : Head) (ts : Trees) (e : step s t ≡ written h ts) where
    pub taken_by : (us : Trees) → us ≡ each (taken s n) ts → node h us ≡ taken s (suc n) t
    taken_by us f = ap (λ z. node h z) f ∙ sym (ap (λ x. node (step_head x (label t)) (each (taken s n) (step_below x))) e)

    pub is_taken_by : Each (λ u. IsTaken s n u) ts → IsTaken s (suc n) t
    is_taken_by k = subst (λ x. IsWrittenStep x × Each (λ u. IsTaken s n u) (step_below x)) (sym e) (tt, k)

    taken_is : taken s (suc n) t ≡ node h (each (taken s n) ts)
    taken_is = ap (λ x. node (step_head x (label t)) (each (taken s n) (step_below x))) e

    -- The metadata of the node does not fit its message.
    pub large_root : (HasMessage h ts → ⊥) → RefusesTaking s (suc n) t WireLimit
    large_root k = inr (λ m.
        let own = subst (λ z. HasMessages z) taken_is m in
        k (message_by_places h (each (taken s n) ts) ts (places_taken s n ts) own.0))

    untaken_below : (why : Unwritten) → Any (λ u. HasUntaken s n why u) ts → HasUntaken s (suc n) why t
    untaken_below why k = inr (subst (λ x. Any (λ u. HasUntaken s n why u) (step_below x)) (sym e) k)

    -- A node below it is not written.
    pub below_refused : (x : WireError) → RefusesOneOf s n ts x → RefusesTaking s (suc n) t x
    below_refused OutOfMemory k = tt
    below_refused WireLimit (inl k) = inl (omega (arith, k, ap (λ z. levels z) taken_is))
    below_refused WireLimit (inr k) = inr (λ m. let own = subst (λ z. HasMessages z) taken_is m in k own.1)
    below_refused x k = because (unwritten_by x) (λ why. Any (λ u. HasUntaken s n why u) ts) (λ why. HasUntaken s (suc n) why t) untaken_below k

  -- ---- a node whose step does not write it

  large_by : (n : ℕ) (t : Tree) (x : Step) → step s t ≡ x → HasLargeMetadata x → RefusesTaking s (suc n) t WireLimit
  large_by n t (written h ts) e k = large_root n t h ts e k
  large_by n t (unwritten why) e k = absurd k

  -- The registry does not write the root.
  pub root_refused : (n : ℕ) (t : Tree) (e : RegistryError) → RefusesSerializing e (step s t) → RefusesTaking s (suc n) t (registry_refusal e)
  root_refused n t registry.OutOfMemory k = tt
  root_refused n t registry.NotRegistered k = inl k
  root_refused n t registry.UndeclaredId k = inl k
  root_refused n t registry.PluginRefused k = inl k
  root_refused n t registry.WireLimit k = large_by n t (step s t) refl k

  -- ---- one of several

  first_refused : (n : ℕ) (t : Tree) (ts : Trees) (e : WireError) → RefusesTaking s n t e → RefusesOneOf s n (more t ts) e
  first_refused n t ts OutOfMemory k = tt
  first_refused n t ts WireLimit (inl k) = inl (omega (arith, k))
  first_refused n t ts WireLimit (inr k) = inr (λ m. k m.0)
  first_refused n t ts e k = because (unwritten_by e) (λ why. HasUntaken s n why t) (λ why. Any (λ u. HasUntaken s n why u) (more t ts)) (λ why u. inl u) k

  later_refused : (n : ℕ) (t : Tree) (ts : Trees) (e : WireError) → RefusesOneOf s n ts e → RefusesOneOf s n (more t ts) e
  later_refused n t ts OutOfMemory k = tt
  later_refused n t ts WireLimit (inl k) = inl (omega (arith, k))
  later_refused n t ts WireLimit (inr k) = inr (λ m. k m.1)
  later_refused n t ts e k = because (unwritten_by e) (λ why. Any (λ u. HasUntaken s n why u) ts) (λ why. Any (λ u. HasUntaken s n why u) (more t ts)) (λ why u. inr u) k

  pub one_refused : (n : ℕ) (ts : List Tree) (i : ℕ) (t : Tree) (e : WireError) → slice_get ts i ≡ Some t → RefusesTaking s n t e → RefusesOneOf s n (roses_of ts) e
  one_refused n [] i t e p k = absurd (cc)
  one_refused n (x ∷ ts) zero t e p k = let same : t ≡ x = cc in first_refused n x (roses_of ts) e (subst (λ z. RefusesTaking s n z e) same k)
  one_refused n (x ∷ ts) (suc i) t e p k = later_refused n x (roses_of ts) e (one_refused n ts i t e p k)

  -- ---- an array that is not taken

  pub untaken : (o : SerializeOptions) (t : Tree) (c : Context) (e : WireError) → RefusesTaking s (most_levels o) t e → RefusesArray s t c o e
  untaken o t c OutOfMemory k = tt
  untaken o t c WireLimit (inl k) = λ l. omega (arith, k, l.writable.tree.nested, wired-levels s (as_written s o t))
  untaken o t c WireLimit (inr k) = λ l. k l.messages
  untaken o t c NotPermitted k = absurd k
  untaken o t c e k = k

-- ---- a node that is written

-- Its metadata depends on the places below alone.
pub metadata_at : (h : Head) (us ts : Trees) → places us ≡ places ts → message_bytes (told (metadata_in h ts)) ≡ message_bytes (told (metadata_in h us))
metadata_at h us ts e = ap (λ ps. message_bytes (told (metadata_of h.body ps))) (sym e)

-- A node that stands for an array's root, over other nodes.
module _ (src : Tree) (us : Trees) (t : Tree) where
  -- Unchanged.
  module _ (g : Option (Box GivenParts Global)) (none : g ≡ None) (is : node (taken_head (label src) g) us ≡ t) where
    own_label : label src ≡ label t
    own_label = ap (λ z. taken_head (label src) z) (sym none) ∙ ap (λ z. label z) is

    pub own_id : (two : Bool) → array_id two src ≡ array_id two t
    own_id two = ap (λ h. head_id two h) own_label

    pub own_buffers : buffers_of (label src).body ≡ buffers_of (label t).body
    own_buffers = ap (λ (h : Head). buffers_of h.body) own_label

    pub own_bytes : StandsAs g us (below src) → message_bytes (told (metadata_in (label src) (below src))) ≡ message_bytes (told (metadata_in (label t) (below t)))
    own_bytes k =
        metadata_at (label src) us (below src) (subst (λ z. StandsAs z us (below src)) none k)
        ∙ (λ i. message_bytes (told (metadata_in (own_label i) (below (is i)))))

  -- As a plugin gives it.
  module _ (g : Option (Box GivenParts Global)) (p : Box GivenParts Global) (some : g ≡ Some p) (is : node (taken_head (label src) g) us ≡ t) where
    given_label : given_head (label src) (own_parts p.value) ≡ label t
    given_label = ap (λ z. taken_head (label src) z) (sym some) ∙ ap (λ (z : Tree). label z) is

    pub given_id : (two : Bool) → p.value.id ≡ array_id two t
    given_id two = ap (λ h. head_id two h) given_label

    pub given_buffers : p.value.buffers ≡ buffers_of (label t).body
    given_buffers = ap (λ (h : Head). buffers_of h.body) given_label

    pub given_bytes : p.value.metadata ≡ message_bytes (told (metadata_in (label t) (below t)))
    given_bytes = ap (λ (h : Head). message_bytes (told (metadata_in h (below t)))) given_label

  -- Its statistics are the array's.
  module _ (g : Option (Box GivenParts Global)) (is : node (taken_head (label src) g) us ≡ t) where
    head_stats : (h : Head) (x : Option (Box GivenParts Global)) → (taken_head h x).stats ≡ h.stats
    head_stats h None = refl
    head_stats h (Some y) = refl

    fit_head : (h : Head) (x : Option (Box GivenParts Global)) → FitStats h.dtype h.stats → FitStats (taken_head h x).dtype (taken_head h x).stats
    fit_head h None f = f
    fit_head h (Some y) f = f

    pub same_stats : (label src).stats ≡ (label t).stats
    same_stats = sym (head_stats (label src) g) ∙ ap (λ (z : Tree). (label z).stats) is

    pub same_fit : FitStats (label src).dtype (label src).stats → FitStats (label t).dtype (label t).stats
    same_fit f = subst (λ (z : Tree). FitStats (label z).dtype (label z).stats) is (fit_head (label src) g f)

-- ---- where there is room for one level more than below

-- A root is not written, and neither is the array.
pub root_at : (s : SessionMeaning) (n room : ℕ) (e : suc n ≡ room) (t : Tree) (x : RegistryError) → RefusesSerializing x (step s t) → RefusesTaking s room t (registry_refusal x)
root_at s n room e t x k = subst (λ m. RefusesTaking s m t (registry_refusal x)) e (root_refused s n t x k)

-- Its plugin has no form for it.
pub formless_at : (s : SessionMeaning) (n room : ℕ) (e : suc n ≡ room) (t : Tree) → step s t ≡ unwritten unserializable → RefusesTaking s room t NotSerializable
formless_at s n room e t k = subst (λ m. RefusesTaking s m t NotSerializable) e (inl k)

-- A node that is written, over what is written below it.
module _ (s : SessionMeaning) (n room : ℕ) (e : suc n ≡ room) (t : Tree) (h : Head) (ts : Trees) (w : step s t ≡ written h ts) where
  pub taken_at : (us : Trees) → us ≡ each (taken s n) ts → node h us ≡ taken s room t
  taken_at us f = subst (λ m. node h us ≡ taken s m t) e (taken_by s n t h ts w us f)

  pub is_taken_at : Each (λ u. IsTaken s n u) ts → IsTaken s room t
  is_taken_at k = subst (λ m. IsTaken s m t) e (is_taken_by s n t h ts w k)

  pub below_at : (x : WireError) → RefusesOneOf s n ts x → RefusesTaking s room t x
  below_at x k = subst (λ m. RefusesTaking s m t x) e (below_refused s n t h ts w x k)

-- The places of what is written of arrays are those of the arrays.
pub stands_at : (s : SessionMeaning) (n : ℕ) (us ts : Trees) → us ≡ each (taken s n) ts → places us ≡ places ts
stands_at s n us ts e = ap (λ z. places z) e ∙ places_taken s n ts

-- Allocation failed.
pub wanted : (s : SessionMeaning) (n : ℕ) (t : Tree) (e : WireError) → e ≡ OutOfMemory → RefusesTaking s n t e
wanted s n t e p = subst (λ x. RefusesTaking s n t x) (sym p) tt

-- There is no room.
pub no_room : (s : SessionMeaning) (room : ℕ) (t : Tree) → room ≡ 0 → RefusesTaking s room t WireLimit
no_room s room t e = subst (λ m. RefusesTaking s m t WireLimit) (sym e) (inl (omega arith))

-- The metadata of a node, and of those below it, fits its messages.
pub own_messages : (s : SessionMeaning) (n : ℕ) (h : Head) (us ts : Trees) → us ≡ each (taken s n) ts → HasMessage h ts → EverywhereBelow HasMessage us → HasMessages (node h us)
own_messages s n h us ts e m k = (message_by_places s h ts us (sym (stands_at s n us ts e)) m, k)

-- ---- an array that is taken, and has no blob

pub without_blob : (s : SessionMeaning) (o : SerializeOptions) (t : Tree) (c : Context) (e : WireError) → IsTaken s (most_levels o) t → levels (as_written s o t) ≤ most_levels o → RefusesWriting s (as_written s o t) c o e
    → RefusesArray s t c o e
without_blob s o t c OutOfMemory taken l k = tt
without_blob s o t c NotPermitted taken l k = record { taken = taken; levels_are = l; none = k }
without_blob s o t c WireLimit taken l k = k
without_blob s o t c _ taken l k = absurd k

-- Where no plugin writes and each node has a writer, an array that is not written has no blob itself.
pub refused_own : (s : SessionMeaning) → IsShipped s → (t : Tree) (c : Context) (o : SerializeOptions) (e : WireError) → IsWritten s t → RefusesArray s t c o e → RefusesWriting s t c o e
refused_own s ok t c o OutOfMemory w k = tt
refused_own s ok t c o NotPermitted w k = subst (λ (z : Tree). grown codec s c z ≡ None) (taken_own s ok (most_levels o) t k.taken k.levels_are) k.none
refused_own s ok t c o WireLimit w k = λ fits.
    let whole = laws.taken_whole s ok (most_levels o) t w (omega (arith, fits.writable.tree.nested, wired-levels s t)) in
    k (subst (λ (z : Tree). KeepsWriterLimits s z c o) (sym whole) fits)
refused_own s ok t c o e w k = absurd (never_because (unwritten_by e) (λ why. HasUntaken s (most_levels o) why t) (λ why u. never_untaken s ok (most_levels o) why t w u) k)

-- What is taken, where no plugin writes, is the array.
pub taken_as_own : (s : SessionMeaning) (n : ℕ) (t u : Tree) → IsShipped s → u ≡ taken s n t → IsTaken s n t → levels u ≤ n → u ≡ t
taken_as_own s n t u ok e k l = e ∙ taken_own s ok n t k (omega (arith, l, ap (λ z. levels z) e))

-- ---- where there is room for as many levels as may be written

module _ (s : SessionMeaning) (o : SerializeOptions) (room : ℕ) (same : room ≡ most_levels o) (t : Tree) where
  pub taken_whole : (u : Tree) → u ≡ taken s room t → u ≡ as_written s o t
  taken_whole u e = e ∙ ap (λ n. taken s n t) same

  pub is_taken_whole : IsTaken s room t → IsTaken s (most_levels o) t
  is_taken_whole k = subst (λ n. IsTaken s n t) same k

  pub untaken_whole : (c : Context) (e : WireError) → RefusesTaking s room t e → RefusesArray s t c o e
  untaken_whole c e k = untaken s o t c e (subst (λ n. RefusesTaking s n t e) same k)
