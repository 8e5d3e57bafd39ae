-- A table whose fields are verified while they are counted.
use Rattle.std.proofs.Common.{◌≡◌, ℕ, suc, Bool, true, false, ◌&&◌, cond, List, ◌∷◌, Option, Some, None, Result, Ok, Err, refl, subst, ◌+◌, arith}
use Rattle.vx_flat.specs.declared.reading.budget.Budget.{Budget}
use Rattle.vx_flat.specs.declared.error.FlatError.{FlatError}
use Rattle.vx_flat.specs.declared.error.FlatError.TheVariants.{OutOfMemory, BadTable, TableLimit, MessageTooLong}
use Rattle.vx_flat.specs.declared.schema.FieldKind.{FieldKind}
use Rattle.vx_flat.specs.declared.reading.places.FieldTable.{FieldTable}
use Rattle.std.specs.Prelude.{IsSome}
use Rattle.vx_flat.specs.Schema.{Schema, fields_of, slots}
use Rattle.vx_flat.specs.Weight.{Weight, nothing, table_around, table_weight}
use Rattle.vx_flat.specs.Counting.{HasBudget, Counted, Fails, Verifies}
use Rattle.vx_flat.specs.declared.schema.FieldKind.TheVariants.{Union}
use Rattle.std.specs.Prelude.{is_none, ◌==◌}
use Rattle.std.proofs.Common.{length, ◌≤◌}
use Rattle.vx_flat.proofs.Parts.{both, leb_le}
use Rattle.vx_flat.specs.Places.{table_at, field_table, are_inline, is_inline, place_of, lies, tag_at, same}
use Rattle.vx_flat.specs.Reading.{table_shown}
use Rattle.vx_flat.proofs.Tables.{table_missing, no_levels, crowded, table_verified}
use Rattle.vx_flat.proofs.FieldsLoop.{shown_from, weighs_from}

-- a refusal stands where the fields are inline, and else there is nothing to show
pub judged : {Y : Type 0} (b : Bool) (e : FlatError) (x : Option Y) (c : Budget) (levels : ℕ) (w : Weight)
    → Fails e x c levels w → Fails (cond b e BadTable) (cond b x None) c levels (cond b w nothing)
judged true e x c levels w h = h
judged false e x c levels w h = refl

pub not_inline : {Y : Type 0} (b : Bool) (x : Option Y) → b ≡ false → cond b x None ≡ None
not_inline true x e = absurd cc
not_inline false x e = refl

pub all_inline : {Y : Type 0} (b : Bool) (x : Option Y) (c : Budget) (levels : ℕ) (w : Weight) (d : Budget) → b ≡ true
    → IsSome x × Counted c levels w d → IsSome (cond b x None) × Counted c levels (cond b w nothing) d
all_inline true x c levels w d e h = h
all_inline false x c levels w d e h = absurd cc

-- a field that is shown is inline
pub was_inline : {Y : Type 0} (b : Bool) (x : Option Y) → IsSome (cond b x None) → (b ≡ true) × IsSome x
was_inline true x h = (refl, h)
was_inline false x h = absurd cc

pub was_counted : (b : Bool) (c : Budget) (levels : ℕ) (w : Weight) (d : Budget) → b ≡ true
    → Counted c levels (cond b w nothing) d → Counted c levels w d
was_counted true c levels w d e h = h
was_counted false c levels w d e h = absurd cc

-- a field fails, whether it is inline or not, and so does the table
pub field_judged : {X Y : Type 0} (one all : Bool) (e : FlatError) (x : Option X) (y : Option Y) (c d : Budget) (levels : ℕ) (v w : Weight)
    → (one ≡ false → all ≡ false) → Fails e (cond one x None) d levels (cond one v nothing)
    → (Fails e x d levels v → Fails e y c levels w)
    → Fails (cond all e BadTable) (cond all y None) c levels (cond all w nothing)
field_judged one false e x y c d levels v w off h whole = refl
field_judged true true e x y c d levels v w off h whole = whole h
field_judged false true e x y c d levels v w off h whole = absurd (let k = off refl in cc)

module _ (m : List ℕ) (t : ℕ) (f : FieldTable) (k : FieldKind) (rest left : List FieldKind) (i : ℕ) (is : left ≡ k ∷ rest) where
  pub inline_next : is_inline m k (place_of m t f i) (place_of m t f (i + 1)) ≡ true
      → are_inline m t f rest (i + slots k) ≡ are_inline m t f left i
  inline_next e = rw (is, e) refl

  pub inline_here : is_inline m k (place_of m t f i) (place_of m t f (i + 1)) ≡ false → are_inline m t f left i ≡ false
  inline_here e = rw (is, e) refl

module _ (s : Schema) (m : List ℕ) (t T : ℕ) (f : FieldTable) (ks : List FieldKind) (is : ks ≡ fields_of s T)
    (found : Some f ≡ field_table m t) where
  found_at : (b : Bool) → are_inline m t f ks 0 ≡ b → cond b (Some f) None ≡ table_at m t ks
  unfolding table_at
  found_at b e = rw (← found, e) refl

  pub checked_levels : (c : Budget) (levels : ℕ) (b : Bool) → are_inline m t f ks 0 ≡ b → levels ≡ 0
      → Fails (cond b TableLimit BadTable) (table_shown s m t T) c levels (table_weight s m t T)
  checked_levels c levels true i e = no_levels s m t T f ks is (found_at true i) c levels e
  checked_levels c levels false i e = table_missing s m t T ks is (found_at false i)

  pub checked_budget : (c : Budget) (levels : ℕ) (b : Bool) → are_inline m t f ks 0 ≡ b
      → (HasBudget c (suc levels) (table_around nothing) → ⊥)
      → Fails (cond b TableLimit BadTable) (table_shown s m t T) c (suc levels) (table_weight s m t T)
  checked_budget c levels true i h = crowded s m t T f ks is (found_at true i) c levels h
  checked_budget c levels false i h = table_missing s m t T ks is (found_at false i)

  pub table_checked : {X : Type 0} (r : Result X FlatError) (c d e : Budget) (levels : ℕ) (b : Bool)
      → are_inline m t f ks 0 ≡ b → Counted c (suc levels) (table_around nothing) d
      → Verifies r (cond b (shown_from s m t f ks 0) None) d levels (cond b (weighs_from s m t f ks 0) nothing) e
      → Verifies r (table_shown s m t T) c (suc levels) (table_weight s m t T) e
  table_checked r c d e levels true i k g = table_verified s m t T f ks is (found_at true i) r c d e levels k g
  table_checked (Ok x) c d e levels false i k g = absurd cc
  table_checked (Err OutOfMemory) c d e levels false i k g = g
  table_checked (Err BadTable) c d e levels false i k g = table_missing s m t T ks is (found_at false i)
  table_checked (Err TableLimit) c d e levels false i k g =
      absurd (g (record { nested = omega arith; tables = omega arith; bytes = omega arith }))
  table_checked (Err MessageTooLong) c d e levels false i k g = g

lost_at : (m : List ℕ) (t : ℕ) (ks : List FieldKind) → None ≡ field_table m t → None ≡ table_at m t ks
unfolding table_at
lost_at m t ks e = rw (← e) refl

-- a table without a field table
pub table_lost : (s : Schema) (m : List ℕ) (t T : ℕ) (ks : List FieldKind) → ks ≡ fields_of s T → None
    ≡ field_table m t → table_shown s m t T ≡ None
table_lost s m t T ks is e = table_missing s m t T ks is (lost_at m t ks e)

pub verifies_inline : {X Y : Type 0} (r : Result X FlatError) (b : Bool) (x : Option Y) (c : Budget) (levels : ℕ) (w : Weight)
    (d : Budget) → b ≡ true → Verifies r x c levels w d → Verifies r (cond b x None) c levels (cond b w nothing) d
verifies_inline r true x c levels w d e h = h
verifies_inline r false x c levels w d e h = absurd cc

-- the inline part of a union
module _ (m : List ℕ) (u : ℕ) (p q : Option ℕ) (i : is_inline m (Union u) p q ≡ true) where
  pub union_tag : lies m 1 p ≡ true
  union_tag = (both (lies m 1 p) (lies m 4 q && same (tag_at m p == 0) (is_none q)) i).0

  pub union_target : (n : ℕ) → q ≡ Some n → n + 4 ≤ length m
  union_target n e =
      let k = both (lies m 1 p) (lies m 4 q && same (tag_at m p == 0) (is_none q)) i in
      let l = both (lies m 4 q) (same (tag_at m p == 0) (is_none q)) k.1 in
      leb_le (n + 4) (length m) (subst (λ q. lies m 4 q ≡ true) e l.0)
