-- Arrays with other buffers, as their encodings make them.
use Rattle.std.proofs.Common.{ℕ, ◌≡◌, ◌≤◌, List, [], ◌∷◌, Option, Some, None, Result, Ok, Err, IfOk, IfErr, length, get_or, option_map, refl, sym, ap, ◌∙◌, subst, arith}
use Rattle.std.proofs.lemmas.Option.{same_Some, none-some}
use Rattle.std.specs.Prelude.{IfSome, IsOkUnless, IsSomeAnd}
use Rattle.vx_buffer.specs.Buffer.{Buffer}
use Rattle.vx_trees.specs.Rose.{node, end, more, label, below, count, roses_of}
use Rattle.vx_scalars.specs.Stats.{Stats}
use Rattle.vx_array_tree.specs.Body.{Body}
use Rattle.vx_array_tree.specs.Place.{before_validity}
use Rattle.vx_array_tree.specs.Refused.{IsWellShaped, IsMisshaped, IsForeignControlled, HasBrokenContent}
use Rattle.vx_array_tree.specs.Sound.{IsControlled, IsSound}
use Rattle.vx_array_tree.specs.Table.{bufferless}
use Rattle.vx_array_tree.specs.Tree.{Tree, Trees, Head, places, with_stats}
use Rattle.vx_arrays.specs.NewBuffers.{rebuffered, with_buffers, RefusesBuffers}
use Rattle.vx_arrays.specs.Refused.{IsMemory, RefusesMaking, IsOkOrMemory}
use Rattle.vx_rows.specs.declared.error.ArrayError.{ArrayError}
use Rattle.vx_rows.specs.declared.error.ArrayError.TheVariants.{OutOfMemory, BadShape, BadContent, ForeignControl, ValueTooLarge, BadCast}

-- The only child of a node whose only child may be a validity.
pub only_child : (n : ℕ) (ts : List Tree) (t u : Tree) → before_validity [] n (count (roses_of ts)) ≡ Some (places (roses_of ts)) → 1 ≤ length ts → u ≡ get_or ts 0 u → t ≡ u → more t end ≡ roses_of ts
only_child n [] t u p l e q = absurd (omega (arith, l))
only_child n (x ∷ []) t u p l e q = ap (λ z. more z end) (q ∙ e)
only_child n (x ∷ y ∷ ts) t u p l e q = absurd (cc)

-- ---- what is answered is what a constructor answers

module _ (t u : Tree) (bs : List Buffer) (made : with_buffers t bs ≡ Some u) (r : Result Tree ArrayError) where
  pub answer_ok : IfOk r (λ a. a ≡ u) → IfOk r (λ a. with_buffers t bs ≡ Some a)
  answer_ok h = ok r h
    where
      ok : (r : Result Tree ArrayError) → IfOk r (λ a. a ≡ u) → IfOk r (λ a. with_buffers t bs ≡ Some a)
      ok (Ok a) h = made ∙ ap (λ z. Some z) (sym h)
      ok (Err e) h = tt

  refused : (e : ArrayError) → RefusesMaking e u → RefusesBuffers e t bs
  refused OutOfMemory h = tt
  refused BadShape h = subst (λ (o : Option Tree). IfSome o (λ v. IsMisshaped (label v) (below v))) (sym made) h
  refused BadContent h = subst (λ (o : Option Tree). IsSomeAnd o (λ v. HasBrokenContent (label v) (below v))) (sym made) h
  refused ForeignControl h = subst (λ (o : Option Tree). IsSomeAnd o (λ v. IsForeignControlled (label v) (below v))) (sym made) h
  refused ValueTooLarge h = h
  refused BadCast h = h

  pub answer_err : IfErr r (λ e. RefusesMaking e u) → IfErr r (λ e. RefusesBuffers e t bs)
  answer_err h = err r h
    where
      err : (r : Result Tree ArrayError) → IfErr r (λ e. RefusesMaking e u) → IfErr r (λ e. RefusesBuffers e t bs)
      err (Ok a) h = tt
      err (Err e) h = refused e h

  pub answer_complete : (IsSound u → IsOkOrMemory r) → (v : Tree) → with_buffers t bs ≡ Some v → IsSound v → IsOkOrMemory r
  answer_complete h v e s = h (subst (λ (z : Tree). IsSound z) (sym (same_Some u v (sym made ∙ e))) s)

-- ---- nodes without buffers

module _ (h : Head) (ts : Trees) (bs : List Buffer) (e : rebuffered h.body bs ≡ bufferless h.body bs) where
  remade : with_buffers (node h ts) bs ≡ option_map (λ (b : Body). node (record { dtype = h.dtype; len = h.len; stats = h.stats; body = b }) ts) (bufferless h.body bs)
  remade = ap (λ (o : Option Body). option_map (λ (b : Body). node (record { dtype = h.dtype; len = h.len; stats = h.stats; body = b }) ts) o) e

  none_made : (cs : List Buffer) → (cs ≡ [] → ⊥) → bufferless h.body cs ≡ None
  none_made [] n = absurd (n refl)
  none_made (c ∷ cs) n = refl

  module _ (n : bs ≡ [] → ⊥) where
    not_made : with_buffers (node h ts) bs ≡ None
    not_made = remade ∙ ap (λ (o : Option Body). option_map (λ (b : Body). node (record { dtype = h.dtype; len = h.len; stats = h.stats; body = b }) ts) o) (none_made bs n)

    -- Buffers make no node that has none.
    pub bare_refused : RefusesBuffers BadShape (node h ts) bs
    bare_refused = subst (λ (o : Option Tree). IfSome o (λ v. IsMisshaped (label v) (below v))) (sym not_made) tt

    pub bare_unmade : (u : Tree) → with_buffers (node h ts) bs ≡ Some u → ⊥
    bare_unmade u q = none-some u (sym not_made ∙ q)

  -- Without buffers such a node is what it was.
  pub bare_made : bs ≡ [] → with_buffers (node h ts) bs ≡ Some (node h ts)
  bare_made q = remade ∙ ap (λ (cs : List Buffer). option_map (λ (b : Body). node (record { dtype = h.dtype; len = h.len; stats = h.stats; body = b }) ts) (bufferless h.body cs)) q

-- A allocation failure is among the refusals, and is no other.
pub memory_refused : (r : Result Tree ArrayError) (t : Tree) (bs : List Buffer) → IsOkUnless r OutOfMemory → IfErr r (λ x. RefusesBuffers x t bs)
memory_refused (Ok a) t bs h = tt
memory_refused (Err x) t bs h = subst (λ (y : ArrayError). RefusesBuffers y t bs) (sym h) tt

pub memory_alone : (r : Result Tree ArrayError) → IsOkUnless r OutOfMemory → IsOkOrMemory r
memory_alone (Ok a) h = tt
memory_alone (Err x) h = subst (λ (y : ArrayError). IsMemory y) (sym h) tt

-- ---- statistics

abbrev told_head : Head → Stats → Body → Head
told_head h x b = record { dtype = h.dtype; len = h.len; stats = x; body = b }

other_stats : (h : Head) (x y : Stats) (b : Body) (ts : Trees) → IsWellShaped (told_head h x b) ts → IsWellShaped (told_head h y b) ts
other_stats h x y b ts s = record { fair = s.fair; planned = s.planned; allows = s.allows; takes = s.takes; holds = s.holds }

other_control : (h : Head) (x y : Stats) (b : Body) (ts : Trees) → IsControlled (told_head h x b) ts → IsControlled (told_head h y b) ts
other_control h x y b ts k = record { controls = k.controls; entries = k.entries }

-- Whether buffers are refused does not depend on statistics.
pub told_refused : (e : ArrayError) (x : Stats) (t : Tree) (bs : List Buffer) → RefusesBuffers e (with_stats x t) bs → RefusesBuffers e t bs
told_refused OutOfMemory x t bs r = tt
told_refused BadShape x (node h ts) bs r = misshaped (rebuffered h.body bs) r
  where
    misshaped : (o : Option Body) → IfSome (option_map (λ (b : Body). node (told_head h x b) ts) o) (λ u. IsMisshaped (label u) (below u))
        → IfSome (option_map (λ (b : Body). node (told_head h h.stats b) ts) o) (λ u. IsMisshaped (label u) (below u))
    misshaped None r = tt
    misshaped (Some b) r = λ s. r (other_stats h h.stats x b ts s)
told_refused BadContent x (node h ts) bs r = broken (rebuffered h.body bs) r
  where
    broken : (o : Option Body) → IsSomeAnd (option_map (λ (b : Body). node (told_head h x b) ts) o) (λ u. HasBrokenContent (label u) (below u))
        → IsSomeAnd (option_map (λ (b : Body). node (told_head h h.stats b) ts) o) (λ u. HasBrokenContent (label u) (below u))
    broken None r = r
    broken (Some b) r = record { shaped = other_stats h x h.stats b ts r.shaped; controlled = other_control h x h.stats b ts r.controlled; broken = r.broken }
told_refused ForeignControl x (node h ts) bs r = foreign (rebuffered h.body bs) r
  where
    foreign : (o : Option Body) → IsSomeAnd (option_map (λ (b : Body). node (told_head h x b) ts) o) (λ u. IsForeignControlled (label u) (below u))
        → IsSomeAnd (option_map (λ (b : Body). node (told_head h h.stats b) ts) o) (λ u. IsForeignControlled (label u) (below u))
    foreign None r = r
    foreign (Some b) r = record { shaped = other_stats h x h.stats b ts r.shaped; foreign = λ k. r.foreign (other_control h h.stats x b ts k) }
told_refused ValueTooLarge x t bs r = r
told_refused BadCast x t bs r = r
