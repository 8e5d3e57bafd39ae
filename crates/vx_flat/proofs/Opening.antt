-- The view of a message's root, and of a place.
use Rattle.std.proofs.Common.{◌≡◌, ℕ, ◌-◌, ◌≤◌, List, length, refl, sym, subst, ◌∙◌}
use Rattle.std.proofs.Common.{arith, IsSome}
use Rattle.vx_flat.specs.declared.error.FlatError.{FlatError}
use Rattle.vx_flat.specs.declared.error.FlatError.TheVariants.{OutOfMemory, BadTable, TableLimit, MessageTooLong}
use Rattle.vx_flat.specs.declared.reading.budget.Budget.{Budget}
use Rattle.vx_flat.specs.declared.viewing.View.{View}
use Rattle.vx_flat.specs.Schema.{Schema}
use Rattle.vx_flat.specs.Value.{Fields}
use Rattle.vx_flat.specs.Weight.{Weight, weight, table_weight}
use Rattle.vx_flat.specs.Limits.{Limits, KeepsLimits}
use Rattle.vx_flat.specs.Counting.{HasBudget, Counted, Fails, all_of}
use Rattle.vx_flat.specs.Places.{u32_at}
use Rattle.vx_flat.specs.Shows.{ShowsAt, Shows}
use Rattle.vx_flat.specs.Reading.{table_shown}
use Rattle.vx_flat.specs.Seen.{schema_in, seen, IsViewAt, IsRootView}
use Rattle.vx_flat.proofs.Agree.{none_shown, table_complete}
use Rattle.vx_flat.proofs.Counting.{same_weight}
use Rattle.vx_flat.proofs.Roots.{at_root, root_weight, budget}
use Rattle.vx_flat.proofs.Seeing.{view_stands}

pub view_is : (v : View) (s : Schema) (m : List ℕ) (t : ℕ) (w : Weight) → schema_in v ≡ s → v.message.now ≡ m
    → v.table ≡ s.root → v.place ≡ t → v.weight ≡ w → IsViewAt s m t w v
view_is v s m t w a b c d e =
    let h = view_stands v in
    let h1 = subst (λ s. ShowsAt s v.message.now v.place v.table (seen v)) a h in
    let h2 = subst (λ m. ShowsAt s m v.place v.table (seen v)) b h1 in
    let h3 = subst (λ T. ShowsAt s m v.place T (seen v)) c h2 in
    let h4 = subst (λ t. ShowsAt s m t s.root (seen v)) d h3 in
    record { schema = a; message = b; table = c; place = d; weight = e; shows = h4 }

pub root_view_is : (v : View) (s : Schema) (m : List ℕ) → 4 ≤ length m → schema_in v ≡ s → v.message.now ≡ m
    → v.table ≡ s.root → v.place ≡ u32_at m 0 → v.weight ≡ weight s m → IsRootView s m v
root_view_is v s m l a b c d e = let h = view_is v s m (u32_at m 0) (weight s m) a b c d e in ((l, h.shows), h)

-- what was counted is the weight of the message
pub weight_counted : (s : Schema) (m : List ℕ) (t T : ℕ) (l : Limits) (r q : Budget) → t ≡ u32_at m 0 → T ≡ s.root
    → 4 ≤ length m → r ≡ all_of l → Counted r l.nested (table_weight s m t T) q
    → (x y : ℕ) → x ≡ l.nested - q.levels → y ≡ l.tables - q.tables
    → record { nested = x; tables = y; bytes = l.bytes - q.bytes } ≡ weight s m
weight_counted s m t T l r q p root long all h x y is_x is_y =
    let w : Weight = table_weight s m t T in
    let k = subst (λ r. Counted r l.nested w q) all h in
    let left = k.left (omega arith) in
    same_weight record { nested = x; tables = y; bytes = l.bytes - q.bytes } w
    (omega (arith, left, k.nested, is_x)) (omega (arith, k.tables, is_y)) (omega (arith, k.bytes))
    ∙ sym (root_weight s m t T p root long)

module _ (s : Schema) (m : List ℕ) (t T : ℕ) (l : Limits) (c : Budget) (p : t ≡ u32_at m 0) (r : T ≡ s.root) where
  pub bad_is : (f : FlatError) → Fails f (table_shown s m t T) c l.nested (table_weight s m t T) → f ≡ BadTable
      → (vs : Fields) → Shows s m vs → ⊥
  bad_is BadTable h e vs shows = none_shown s m t T vs h (at_root s m t T vs p r shows)
  bad_is OutOfMemory h e vs shows = h
  bad_is TableLimit h e vs shows = absurd cc
  bad_is MessageTooLong h e vs shows = h

  pub complete_is : 4 ≤ length m → c ≡ all_of l → (f : FlatError)
      → Fails f (table_shown s m t T) c l.nested (table_weight s m t T)
      → (vs : Fields) → Shows s m vs → KeepsLimits l (weight s m) → ⊥
  complete_is long all BadTable h vs shows within_limits = none_shown s m t T vs h (at_root s m t T vs p r shows)
  complete_is long all OutOfMemory h vs shows within_limits = h
  complete_is long all TableLimit h vs shows within_limits =
      h (subst (λ c. HasBudget c l.nested (table_weight s m t T)) (sym all)
      (budget l (table_weight s m t T) (subst (λ w. KeepsLimits l w) (root_weight s m t T p r long) within_limits)))
  complete_is long all MessageTooLong h vs shows within_limits = h

pub shown_at : (s : Schema) (m : List ℕ) (t T : ℕ) (vs : Fields) → ShowsAt s m t T vs → IsSome (table_shown s m t T)
shown_at s m t T vs h = rw (table_complete s m t T vs h) refl
