-- An array as it is written: how many levels it has, and that it is unchanged, and has writers, where no plugin writes.
use Rattle.std.proofs.Common.{ℕ, zero, suc, ◌≡◌, ◌+◌, ◌≤◌, inl, inr, Option, Some, None, Bool, true, false, refl, sym, ap, ◌∙◌, subst, arith}
use Rattle.vx_trees.specs.Everywhere.{EverywhereBelow}
use Rattle.vx_trees.specs.Rose.{node, end, more}
use Rattle.vx_trees.specs.Walks.{levels, levels_below}
use Rattle.vx_array_tree.specs.Body.{Body}
use Rattle.vx_array_tree.specs.Encoding.{Encoding}
use Rattle.vx_array_tree.specs.Table.{encoding_of, id_of}
use Rattle.vx_array_tree.specs.Tree.{Head, Tree, Trees}
use Rattle.vx_wire_tree.specs.ReadBack.{HasWriter, IsWrittenBy, IsWrittenNode, IsWritten}
use Rattle.vx_wire_tree.specs.Session.{SessionMeaning, Reader, shipped, revised, plugin, IsShippedReader, IsShipped}
use Rattle.vx_wire_tree.specs.Taken.{Step, written, unwritten, Unwritten, IsWrittenStep, foreign_step, writer_step, step_by, step, step_head, step_below, each, Each, Any, taken, IsTaken, HasUntaken}
use Rattle.vx_wire_tree.proofs.Natives.{native_or, step_native, native_writer, native_written}

module _ (s : SessionMeaning) where
  each_within : (n : ℕ) → ((t : Tree) → levels (taken s n t) ≤ n + 1) → (us : Trees) → levels_below (each (taken s n) us) ≤ n + 1
  each_within n ih end = omega arith
  each_within n ih (more u us) = let a = ih u in let b = each_within n ih us in omega (arith, a, b)

  -- Whatever plugins give, what is written has at most one level more than the descent goes down.
  pub taken_within : (n : ℕ) (t : Tree) → levels (taken s n t) ≤ n + 1
  taken_within zero t = omega arith
  taken_within (suc n) t = let a = each_within n (taken_within n) (step_below (step s t)) in omega (arith, a)

  module _ (ok : IsShipped s) where
    writer_own : (r : Option Reader) → IsShippedReader r → (h : Head) (ts : Trees) → IsWrittenStep (writer_step r h ts) → writer_step r h ts ≡ written h ts
    writer_own None k h ts w = absurd w
    writer_own (Some (shipped e)) k h ts w = refl
    writer_own (Some revised) k h ts w = refl
    writer_own (Some (plugin p)) k h ts w = absurd k

    foreign_own : (b : Bool) (h : Head) (ts : Trees) → IsWrittenStep (foreign_step b h ts) → foreign_step b h ts ≡ written h ts
    foreign_own true h ts w = refl
    foreign_own false h ts w = absurd w

    -- A node that is written is written unchanged.
    step_own : (b : Body) (h : Head) (ts : Trees) → IsWrittenStep (step_by s b h ts) → step_by s b h ts ≡ written h ts
    step_own b h ts w =
        elim (native_or b) [
          | inl k ↦
              let e = step_native s b h ts k in
              e ∙ writer_own (s.writer (id_of (encoding_of b))) (ok.writes (id_of (encoding_of b))) h ts (subst (λ x. IsWrittenStep x) e w)
          | inr q ↦
              let e = ap (λ z. step_by s z h ts) q.1 in
              e ∙ foreign_own s.ext.unknown h ts (subst (λ x. IsWrittenStep x) e w)
        ]

    each_own : (n : ℕ) → ((t : Tree) → IsTaken s n t → levels (taken s n t) ≤ n → taken s n t ≡ t) → (us : Trees) → Each (λ u. IsTaken s n u) us → levels_below (each (taken s n) us) ≤ n → each (taken s n) us ≡ us
    each_own n ih end k l = refl
    each_own n ih (more u us) k l =
        let a = ih u k.0 (omega (arith, l)) in
        let b = each_own n ih us k.1 (omega (arith, l)) in
        λ i. more (a i) (b i)

    -- An array that is written, within the levels, is written unchanged.
    pub taken_own : (n : ℕ) (t : Tree) → IsTaken s n t → levels (taken s n t) ≤ n → taken s n t ≡ t
    taken_own zero (node h ts) k l = absurd (omega (arith, l))
    taken_own (suc n) (node h ts) k l =
        let e = step_own h.body h ts k.0 in
        let down : step_below (step s (node h ts)) ≡ ts = ap (λ x. step_below x) e in
        let K : Trees → Type 0 = λ us. Each (λ u. IsTaken s n u) us in
        let L : Trees → Type 0 = λ us. levels_below (each (taken s n) us) ≤ n in
        let m : levels_below (each (taken s n) (step_below (step s (node h ts)))) ≤ n = omega (arith, l) in
        let a = ap (λ x. step_head x h) e in
        let b = ap (λ us. each (taken s n) us) down ∙ each_own n (λ t x y. taken_own n t x y) ts (subst K down k.1) (subst L down m) in
        λ i. node (a i) (b i)

    -- ---- and each of its nodes has a writer

    has_writer : (e : Encoding) (r : Option Reader) → s.writer (id_of e) ≡ r → (h : Head) (ts : Trees) → IsWrittenStep (writer_step r h ts) → HasWriter s e
    has_writer e None p h ts w = absurd w
    has_writer e (Some r) p h ts w = record { writer = r; writer_is = p }

    is_allowed : (b : Bool) (h : Head) (ts : Trees) → IsWrittenStep (foreign_step b h ts) → b ≡ true
    is_allowed true h ts w = refl
    is_allowed false h ts w = absurd w

    node_written : (b : Body) (h : Head) (ts : Trees) → IsWrittenStep (step_by s b h ts) → IsWrittenBy s b
    node_written b h ts w =
        elim (native_or b) [
          | inl k ↦ native_written s b k (has_writer (encoding_of b) (s.writer (id_of (encoding_of b))) refl h ts (subst (λ x. IsWrittenStep x) (step_native s b h ts k) w))
          | inr q ↦
              let e = ap (λ z. step_by s z h ts) q.1 in
              subst (λ z. IsWrittenBy s z) (sym q.1) (is_allowed s.ext.unknown h ts (subst (λ x. IsWrittenStep x) e w))
        ]

    each_written : (n : ℕ) → ((t : Tree) → IsTaken s n t → levels (taken s n t) ≤ n → IsWritten s t) → (us : Trees) → Each (λ u. IsTaken s n u) us → levels_below (each (taken s n) us) ≤ n → EverywhereBelow (IsWrittenNode s) us
    each_written n ih end k l = tt
    each_written n ih (more u us) k l = (ih u k.0 (omega (arith, l)), each_written n ih us k.1 (omega (arith, l)))

    -- An array that is written, within the levels, has writers.
    pub taken_written : (n : ℕ) (t : Tree) → IsTaken s n t → levels (taken s n t) ≤ n → IsWritten s t
    taken_written zero (node h ts) k l = absurd (omega (arith, l))
    taken_written (suc n) (node h ts) k l =
        let down : step_below (step s (node h ts)) ≡ ts = ap (λ x. step_below x) (step_own h.body h ts k.0) in
        let K : Trees → Type 0 = λ us. Each (λ u. IsTaken s n u) us in
        let L : Trees → Type 0 = λ us. levels_below (each (taken s n) us) ≤ n in
        let m : levels_below (each (taken s n) (step_below (step s (node h ts)))) ≤ n = omega (arith, l) in
        (node_written h.body h ts k.0, each_written n (λ t x y. taken_written n t x y) ts (subst K down k.1) (subst L down m))

    -- ---- and where each node has a writer, none is not written

    writer_writes : (r : Option Reader) → IsShippedReader r → (q : Reader) → r ≡ Some q → (h : Head) (ts : Trees) → writer_step r h ts ≡ written h ts
    writer_writes None k q e h ts = absurd (cc)
    writer_writes (Some (shipped e)) k q p h ts = refl
    writer_writes (Some revised) k q p h ts = refl
    writer_writes (Some (plugin p)) k q e h ts = absurd k

    step_writes : (b : Body) (h : Head) (ts : Trees) → IsWrittenBy s b → step_by s b h ts ≡ written h ts
    step_writes b h ts w =
        elim (native_or b) [
          | inl k ↦
              let own = native_writer s b k w in
              let id = id_of (encoding_of b) in
              step_native s b h ts k ∙ writer_writes (s.writer id) (ok.writes id) own.writer own.writer_is h ts
          | inr q ↦
              let allowed : s.ext.unknown ≡ true = subst (λ z. IsWrittenBy s z) q.1 w in
              ap (λ z. step_by s z h ts) q.1 ∙ ap (λ z. foreign_step z h ts) allowed
        ]

    both_steps : (why : Unwritten) (x : Step) (h : Head) (ts : Trees) → x ≡ written h ts → x ≡ unwritten why → ⊥
    both_steps why x h ts e f = cc

    any_untaken : (n : ℕ) (why : Unwritten) → ((t : Tree) → IsWritten s t → HasUntaken s n why t → ⊥) → (us : Trees) → EverywhereBelow (IsWrittenNode s) us → Any (λ u. HasUntaken s n why u) us → ⊥
    any_untaken n why ih end w k = k
    any_untaken n why ih (more u us) w (inl k) = ih u w.0 k
    any_untaken n why ih (more u us) w (inr k) = any_untaken n why ih us w.1 k

    -- An array whose nodes have writers is written.
    pub never_untaken : (n : ℕ) (why : Unwritten) (t : Tree) → IsWritten s t → HasUntaken s n why t → ⊥
    never_untaken zero why (node h ts) w k = both_steps why (step s (node h ts)) h ts (step_writes h.body h ts w.0) k
    never_untaken (suc n) why (node h ts) w (inl k) = both_steps why (step s (node h ts)) h ts (step_writes h.body h ts w.0) k
    never_untaken (suc n) why (node h ts) w (inr k) =
        let down : step_below (step s (node h ts)) ≡ ts = ap (λ x. step_below x) (step_writes h.body h ts w.0) in
        let K : Trees → Type 0 = λ us. Any (λ u. HasUntaken s n why u) us in
        any_untaken n why (λ t x y. never_untaken n why t x y) ts w.1 (subst K down k)

    each_whole : (n : ℕ) → ((t : Tree) → IsWritten s t → levels t ≤ n → taken s n t ≡ t) → (us : Trees) → EverywhereBelow (IsWrittenNode s) us → levels_below us ≤ n → each (taken s n) us ≡ us
    each_whole n ih end w l = refl
    each_whole n ih (more u us) w l =
        let a = ih u w.0 (omega (arith, l)) in
        let b = each_whole n ih us w.1 (omega (arith, l)) in
        λ i. more (a i) (b i)

    -- It is written unchanged, within the levels.
    pub taken_whole : (n : ℕ) (t : Tree) → IsWritten s t → levels t ≤ n → taken s n t ≡ t
    taken_whole zero (node h ts) w l = absurd (omega (arith, l))
    taken_whole (suc n) (node h ts) w l =
        let e = step_writes h.body h ts w.0 in
        let a = ap (λ x. step_head x h) e in
        let b = ap (λ x. each (taken s n) (step_below x)) e ∙ each_whole n (λ t x y. taken_whole n t x y) ts w.1 (omega (arith, l)) in
        λ i. node (a i) (b i)
