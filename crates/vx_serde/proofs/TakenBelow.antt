-- What is taken of arrays, one after the other.
use Rattle.std.proofs.Common.{ℕ, ◌≡◌, ◌+◌, ◌-◌, ◌<◌, ◌≤◌, ◌⊎◌, inl, inr, List, [], ◌∷◌, ◌++◌, Some, None, length, map, take, refl, sym, ap, ◌∙◌, subst, arith}
use Rattle.std.specs.Prelude.{slice_get, get_or, Result, Ok, Err, IfErr, OnOk, IsOk}
use Rattle.std.proofs.lemmas.List.{map-append, take_all}
use Rattle.std.proofs.lemmas.Option.{slice_get_read}
use Rattle.vx_trees.specs.Everywhere.{EverywhereBelow}
use Rattle.vx_trees.specs.Rose.{node, more, label, below, roses_of, roses_list}
use Rattle.vx_trees.specs.Walks.{levels, levels_below}
use Rattle.vx_trees.proofs.Lists.{roses_of-roses_list, roses_list-roses_of}
use Rattle.vx_array_tree.specs.Tree.{Tree, Trees, Head, places}
use Rattle.vx_wire_tree.specs.Limits.{HasMessage, HasMessages}
use Rattle.vx_wire_tree.specs.Session.{SessionMeaning}
use Rattle.vx_wire_tree.specs.Taken.{step, written, taken, IsTaken, each, Each}
use Rattle.vx_serialized.specs.declared.error.WireError.{WireError}
use Rattle.vx_serialized.specs.declared.error.WireError.TheVariants.{OutOfMemory}
use Rattle.vx_serde.specs.declared.taken.TakenRoot.{TakenRoot}
use Rattle.vx_serde.specs.Taking.{source_tree, root_head, root_below, root_node, root_arrays, IsOwn, AreTaken, AreWithinLevels, IsRootAt, RefusesTaking, RefusesOneOf}
use Rattle.vx_serde.proofs.ListSteps.{take_next}
use Rattle.vx_serde.proofs.Taking.{stands_at, own_messages, taken_at, is_taken_at, below_at, one_refused}

-- ---- trees, and one more after them

-- One of the arrays that lie below another.
pub item_below : (xs : List Tree) (ts : Trees) (i : ℕ) (x : Tree) → roses_of xs ≡ ts → i < length xs → x ≡ get_or xs i x → slice_get (roses_list ts) i ≡ Some x
item_below xs ts i x e h at = ap (λ z. slice_get z i) (ap (λ z. roses_list z) (sym e) ∙ roses_list-roses_of xs) ∙ slice_get_read xs (length xs) i x refl h at

each_of : (f : Tree → Tree) (ts : List Tree) → roses_of (map f ts) ≡ each f (roses_of ts)
each_of f [] = refl
each_of f (t ∷ ts) = ap (λ z. more (f t) z) (each_of f ts)

facts_behind : (P : Tree → Type 0) (ts : List Tree) (t : Tree) → Each P (roses_of ts) → P t → Each P (roses_of (ts ++ t ∷ []))
facts_behind P [] t k p = (p, tt)
facts_behind P (x ∷ ts) t k p = (k.0, facts_behind P ts t k.1 p)

levels_behind : (n : ℕ) (ts : List Tree) (t : Tree) → levels_below (roses_of ts) ≤ n → levels t ≤ n → levels_below (roses_of (ts ++ t ∷ [])) ≤ n
levels_behind n [] t h l = omega (arith, l)
levels_behind n (x ∷ ts) t h l = let r = levels_behind n ts t (omega (arith, h)) l in omega (arith, h, r)

messages_behind : (ts : List Tree) (t : Tree) → EverywhereBelow HasMessage (roses_of ts) → HasMessages t → EverywhereBelow HasMessage (roses_of (ts ++ t ∷ []))
messages_behind [] t k m = (m, tt)
messages_behind (x ∷ ts) t k m = (k.0, messages_behind ts t k.1 m)

-- ---- nodes that are within the room, and whose metadata fits

pub none_within : (n : ℕ) (us : List Tree) → us ≡ [] → AreWithinLevels n us
none_within n us e = subst (λ z. AreWithinLevels n z) (sym e) (record { levels_are = omega arith; messages = tt })

pub one_more_within : (n : ℕ) (old new : List Tree) (u : Tree) → AreWithinLevels n old → levels u ≤ n → HasMessages u → new ≡ old ++ u ∷ [] → AreWithinLevels n new
one_more_within n old new u k l m e = subst (λ z. AreWithinLevels n z) (sym e) (record { levels_are = levels_behind n old u k.levels_are l; messages = messages_behind old u k.messages m })

-- A node has one level more than those below it.
pub node_levels : (room : ℕ) (h : Head) (us : List Tree) → 0 < room → AreWithinLevels (room - 1) us → levels (node h (roses_of us)) ≤ room
node_levels room h us p k = omega (arith, p, k.levels_are)

-- ---- nodes that are taken of arrays, each of which is

module _ (s : SessionMeaning) (n : ℕ) where
  pub one_more_taken : (ts : List Tree) (i : ℕ) (t : Tree) (old new : List Tree) (u : Tree) → slice_get ts i ≡ Some t → AreTaken s n (take i ts) old → u ≡ taken s n t → IsTaken s n t → new ≡ old ++ u ∷ []
      → AreTaken s n (take (i + 1) ts) new
  one_more_taken ts i t old new u at k is w e =
      let next = take_next ts i t at in
      record {
        made = e ∙ (λ j. k.made j ++ is j ∷ []) ∙ sym (ap (λ z. map (λ v. taken s n v) z) next ∙ map-append (λ v. taken s n v) (take i ts) (t ∷ []));
        written_each = subst (λ z. Each (λ v. IsTaken s n v) (roses_of z)) (sym next) (facts_behind (λ v. IsTaken s n v) (take i ts) t k.written_each w);
      }

  -- All arrays are taken.
  pub whole_taken : (ts : List Tree) (i : ℕ) (us : List Tree) → length ts ≤ i → AreTaken s n (take i ts) us → AreTaken s n ts us
  whole_taken ts i us past k = subst (λ z. AreTaken s n z us) (take_all i ts past) k

  module _ (ts : Trees) (us : List Tree) (k : AreTaken s n (roses_list ts) us) where
    pub all_made : roses_of us ≡ each (taken s n) ts
    all_made = ap (λ z. roses_of z) k.made ∙ each_of (λ v. taken s n v) (roses_list ts) ∙ ap (λ z. each (taken s n) z) (roses_of-roses_list ts)

    pub all_written : Each (λ t. IsTaken s n t) ts
    all_written = subst (λ z. Each (λ v. IsTaken s n v) z) (roses_of-roses_list ts) k.written_each

    pub stands_below : places (roses_of us) ≡ places ts
    stands_below = stands_at s n (roses_of us) ts all_made

    pub node_messages : (h : Head) → HasMessage h ts → AreWithinLevels n us → HasMessages (node h (roses_of us))
    node_messages h m w = own_messages s n h (roses_of us) ts all_made m w.messages

-- ---- a node over what is taken below it

module _ (s : SessionMeaning) (room : ℕ) (p : 0 < room) (t : Tree) (h : Head) (ts : Trees) (w : step s t ≡ written h ts) where
  pub root_refused_below : (e : WireError) → RefusesOneOf s (room - 1) ts e → RefusesTaking s room t e
  root_refused_below e k = below_at s (room - 1) room (omega (arith, p)) t h ts w e k

  module _ (us : List Tree) (k : AreTaken s (room - 1) (roses_list ts) us) where
    pub node_taken : node h (roses_of us) ≡ taken s room t
    node_taken = taken_at s (room - 1) room (omega (arith, p)) t h ts w (roses_of us) (all_made s (room - 1) ts us k)

    pub node_is_taken : IsTaken s room t
    node_is_taken = is_taken_at s (room - 1) room (omega (arith, p)) t h ts w (all_written s (room - 1) ts us k)

-- ---- one of several arrays

-- It is not taken.
pub one_below : (s : SessionMeaning) (room : ℕ) (arrays : Trees) (i : ℕ) (t : Tree) (e : WireError) → slice_get (roses_list arrays) i ≡ Some t → RefusesTaking s room t e → RefusesOneOf s room arrays e
one_below s room arrays i t e at k = subst (λ z. RefusesOneOf s room z e) (roses_of-roses_list arrays) (one_refused s room (roses_list arrays) i t e at k)

pub wanted_below : (s : SessionMeaning) (n : ℕ) (ts : Trees) (e : WireError) → e ≡ OutOfMemory → RefusesOneOf s n ts e
wanted_below s n ts e p = subst (λ x. RefusesOneOf s n ts x) (sym p) tt

-- One below it is not taken: allocation failed, or it was refused.
pub filled_not : {A : Type 0} (s : SessionMeaning) (room : ℕ) → 0 < room → (arrays : Trees) (i : ℕ) (h : Head) (ts : Trees) → IsRootAt s arrays i h ts → (r : Result A WireError) (e : WireError)
    → IfErr r (RefusesOneOf s (room - 1) ts) → (e ≡ OutOfMemory) ⊎ (r ≡ Err e) → RefusesOneOf s room arrays e
filled_not s room p arrays i h ts o r e k (inl m) = wanted_below s room arrays e m
filled_not s room p arrays i h ts o r e k (inr m) =
    one_below s room arrays i o.array e o.stands (root_refused_below s room p o.array h ts o.step_is e (subst (λ z. IfErr z (RefusesOneOf s (room - 1) ts)) m k))

-- A result that is Ok.
pub well : {T E : Type 0} (r : Result T E) (x : T) → r ≡ Ok x → IsOk r
well (Ok y) x e = refl
well (Err y) x e = absurd (cc)

-- What holds of an Ok result.
pub of_ok : {T E : Type 0} (r : Result T E) (P : Type 0) → IsOk r → OnOk r P → P
of_ok (Ok x) P k h = h
of_ok (Err e) P k h = absurd (cc)

-- ---- a root that is written unchanged, over its array's own children

pub own_root : (r : TakenRoot) (us : List Tree) → us ≡ roses_list (root_arrays r) → r.given ≡ None → IsOwn r us
own_root r us e g = record { ungiven = g; children_are = e ∙ ap (λ z. roses_list (root_below (below (source_tree r.source)) z)) g }

pub whole_tree : (t : Tree) → node (label t) (below t) ≡ t
whole_tree (node h ts) = refl

-- Its tree is its array's.
pub own_tree : (r : TakenRoot) (us : List Tree) → IsOwn r us → node (root_node r) (roses_of us) ≡ source_tree r.source
own_tree r us k =
    let t = source_tree r.source in
    ap (λ z. node (root_head (label t) z) (roses_of us)) k.ungiven ∙ ap (λ z. node (label t) z) (ap (λ z. roses_of z) k.children_are ∙ roses_of-roses_list (below t)) ∙ whole_tree t

-- One more child unchanged.
pub one_more_own : (ts : List Tree) (i : ℕ) (t : Tree) (old new : List Tree) (u : Tree) → slice_get ts i ≡ Some t → old ≡ take i ts → u ≡ t → new ≡ old ++ u ∷ [] → new ≡ take (i + 1) ts
one_more_own ts i t old new u at k is e = e ∙ (λ j. k j ++ is j ∷ []) ∙ sym (take_next ts i t at)
