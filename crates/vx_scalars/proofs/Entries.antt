-- Entries of a set of statistics: found, added, replaced and taken out.
use Rattle.std.specs.Prelude.{ℕ, zero, suc, ◌≡◌, ◌==◌, ◌<◌, ◌+◌, Bool, true, false, cond, List, [], ◌∷◌, ◌++◌}
use Rattle.std.specs.Prelude.{length, take, slice_set, refl}
use Rattle.std.specs.Cmp.{unsigned_Decides}
use Rattle.std.proofs.Common.{arith, get_or, sym, ap, ◌∙◌, add-one, true≢false}
use Rattle.std.specs.List.{remove}
use Rattle.vx_scalars.specs.Places.{IsPlace, changed, Changes, absence}
use Rattle.vx_scalars.specs.StatTypes.{stat_index}
use Rattle.vx_scalars.specs.Stats.{Told, stats_of, told_at, with_told, told, Entry, told_in, IsNowhere, IsTold}
use Rattle.vx_scalars.specs.Stats.{AreEntries}
use Rattle.vx_scalars.specs.declared.precision.Precision.{Precision}
use Rattle.vx_scalars.specs.declared.precision.Precision.TheVariants.{Exact, Inexact, Absent}
use Rattle.vx_scalars.specs.declared.stat.Stat.{Stat}
use Rattle.vx_scalars.specs.declared.value.ScalarValue.{ScalarValue}
use Rattle.vx_scalars.specs.declared.stat.Stat.TheVariants.{Min, Max, Sum, IsSorted, IsStrictSorted, IsConstant}
use Rattle.vx_scalars.specs.declared.stat.Stat.TheVariants.{NullCount, UncompressedSizeInBytes, NaNCount}

-- ---- equality of statistics by their indices

abbrev is : Stat → Stat → Bool
is r s = stat_index r == stat_index s

not_true : (v : Bool) → (v ≡ true → ⊥) → v ≡ false
not_true true f = absurd (f refl)
not_true false f = refl

same : (r s : Stat) → is r s ≡ true → stat_index r ≡ stat_index s
same r s e = (unsigned_Decides (stat_index r) (stat_index s)).0 e

is_of : (r s : Stat) → stat_index r ≡ stat_index s → is r s ≡ true
is_of r s e = (unsigned_Decides (stat_index r) (stat_index s)).1 e

differ : (r s : Stat) → (stat_index r ≡ stat_index s → ⊥) → is r s ≡ false
differ r s f = not_true (is r s) (λ e. f (same r s e))

apart : (r s : Stat) → is r s ≡ false → stat_index r ≡ stat_index s → ⊥
apart r s e f = true≢false (sym (is_of r s f) ∙ e)

-- ---- sets by their nine statistics

pub stats_ext : (f g : Stat → Told) → ((r : Stat) → f r ≡ g r) → stats_of f ≡ stats_of g
stats_ext f g h = λ i. stats_of (λ r. h r i)

with_told-stats_of : (f : Stat → Told) (s : Stat) (x : Told) → stats_of (changed s x f) ≡ with_told (stats_of f) s x
with_told-stats_of f Min x = refl
with_told-stats_of f Max x = refl
with_told-stats_of f Sum x = refl
with_told-stats_of f IsSorted x = refl
with_told-stats_of f IsStrictSorted x = refl
with_told-stats_of f IsConstant x = refl
with_told-stats_of f NullCount x = refl
with_told-stats_of f UncompressedSizeInBytes x = refl
with_told-stats_of f NaNCount x = refl

pub told_at-stats_of : (f : Stat → Told) (s : Stat) → told_at (stats_of f) s ≡ f s
told_at-stats_of f Min = refl
told_at-stats_of f Max = refl
told_at-stats_of f Sum = refl
told_at-stats_of f IsSorted = refl
told_at-stats_of f IsStrictSorted = refl
told_at-stats_of f IsConstant = refl
told_at-stats_of f NullCount = refl
told_at-stats_of f UncompressedSizeInBytes = refl
told_at-stats_of f NaNCount = refl

pub changes-view : (s : Stat) (x : Told) (es fs : List Entry) → Changes s x es fs
    → stats_of (λ r. told_in r fs) ≡ with_told (stats_of (λ r. told_in r es)) s x
changes-view s x es fs h =
    stats_ext (λ r. told_in r fs) (changed s x (λ q. told_in q es)) h ∙ with_told-stats_of (λ q. told_in q es) s x

-- ---- the index of a statistic

pub place-found : (s : Stat) (i : ℕ) (es : List Entry) (d : Entry) → i < length es → IsNowhere s (take i es)
    → stat_index (get_or es i d).0 ≡ stat_index s → IsPlace s i es
place-found s i [] d h f e = absurd (omega (arith, h))
place-found s zero (x ∷ es) d h f e = is_of s x.0 (sym e)
place-found s (suc i) (x ∷ es) d h f e = (f.0, place-found s i es d (omega (arith, h)) f.1 e)

nowhere-more_suc : (s : Stat) (i : ℕ) (es : List Entry) (d : Entry) → i < length es → IsNowhere s (take i es)
    → (stat_index (get_or es i d).0 ≡ stat_index s → ⊥) → IsNowhere s (take (suc i) es)
nowhere-more_suc s i [] d h f e = absurd (omega (arith, h))
nowhere-more_suc s zero (x ∷ es) d h f e = (differ s x.0 (λ g. e (sym g)), tt)
nowhere-more_suc s (suc i) (x ∷ es) d h f e = (f.0, nowhere-more_suc s i es d (omega (arith, h)) f.1 e)

pub nowhere-more : (s : Stat) (i : ℕ) (es : List Entry) (d : Entry) → i < length es → IsNowhere s (take i es)
    → (stat_index (get_or es i d).0 ≡ stat_index s → ⊥) → IsNowhere s (take (i + 1) es)
nowhere-more s i es d h f e = rw (add-one i) (nowhere-more_suc s i es d h f e)

pub place-below : (s : Stat) (i : ℕ) (es : List Entry) → IsPlace s i es → i < length es
place-below s i [] p = absurd p
place-below s zero (x ∷ es) p = omega arith
place-below s (suc i) (x ∷ es) p = omega (arith, place-below s i es p.1)

pub place-tells : (s : Stat) (i : ℕ) (es : List Entry) (d : Entry) → IsPlace s i es
    → told (get_or es i d).1 ≡ told_in s es
place-tells s i [] d p = absurd p
place-tells s zero (x ∷ es) d p = rw p refl
place-tells s (suc i) (x ∷ es) d p = rw p.0 (place-tells s i es d p.1)

pub nowhere-tells : (s : Stat) (es : List Entry) → IsNowhere s es → told_in s es ≡ Absent
nowhere-tells s [] f = refl
nowhere-tells s (x ∷ es) f = rw f.0 (nowhere-tells s es f.1)

nowhere-same : (r s : Stat) (es : List Entry) → stat_index r ≡ stat_index s → IsNowhere s es → IsNowhere r es
nowhere-same r s [] e f = tt
nowhere-same r s (x ∷ es) e f = (differ r x.0 (λ g. apart s x.0 f.0 (sym e ∙ g)), nowhere-same r s es e f.1)

-- ---- one step along a list

pass : (a b : Bool) (p q v : Told) → (a ≡ true → b ≡ false) → cond a p (cond b v q) ≡ cond b v (cond a p q)
pass true true p q v f = absurd (true≢false (f refl))
pass true false p q v f = refl
pass false b p q v f = refl

skip : (a b : Bool) (p q v : Told) → (b ≡ false → a ≡ false) → cond b v q ≡ cond b v (cond a p q)
skip a true p q v f = refl
skip true false p q v f = absurd (true≢false (f refl))
skip false false p q v f = refl

-- An entry of another statistic in front does not change what the list gives for a statistic.
past : (s : Stat) (x : Told) (e : Entry) (es fs : List Entry) → is s e.0 ≡ false → Changes s x es fs
    → Changes s x (e ∷ es) (e ∷ fs)
past s x e es fs h f = λ r.
    ap (λ z. cond (is r e.0) (told e.1) z) (f r) ∙ pass (is r e.0) (is r s) (told e.1) (told_in r es) x (λ g. differ r s (λ k. apart s e.0 h (sym k ∙ same r e.0 g)))

pub push-changes : (s : Stat) (v : Entry) (es : List Entry) → v.0 ≡ s → IsNowhere s es
    → Changes s (told v.1) es (es ++ v ∷ [])
push-changes s v [] e f = λ r. ap (λ q. cond (is r q) (told v.1) Absent) e
push-changes s v (x ∷ es) e f = past s (told v.1) x es (es ++ v ∷ []) f.0 (push-changes s v es e f.1)

pub set-changes : (s : Stat) (v : Entry) (i : ℕ) (es : List Entry) → v.0 ≡ s → IsPlace s i es
    → Changes s (told v.1) es (slice_set es i v)
set-changes s v i [] e p = absurd p
set-changes s v zero (x ∷ es) e p = λ r.
    ap (λ q. cond (is r q) (told v.1) (told_in r es)) e ∙ skip (is r x.0) (is r s) (told x.1) (told_in r es) (told v.1) (λ g. differ r x.0 (λ k. apart r s g (k ∙ sym (same s x.0 p))))
set-changes s v (suc i) (x ∷ es) e p = past s (told v.1) x es (slice_set es i v) p.0 (set-changes s v i es e p.1)

gone : (b a : Bool) (p q : Told) → (b ≡ true → q ≡ Absent) → (b ≡ false → a ≡ false) → q ≡ cond b Absent (cond a p q)
gone true a p q f g = f refl
gone false true p q f g = absurd (true≢false (g refl))
gone false false p q f g = refl

pub remove-changes : (s : Stat) (i : ℕ) (es : List Entry) → AreEntries es → IsPlace s i es
    → Changes s Absent es (remove es i)
remove-changes s i [] a p = absurd p
remove-changes s zero (x ∷ es) a p = λ r.
    gone (is r s) (is r x.0) (told x.1) (told_in r es) (λ g. nowhere-tells r es (nowhere-same r x.0 es (same r s g ∙ same s x.0 p) a.0)) (λ g. differ r x.0 (λ k. apart r s g (k ∙ sym (same s x.0 p))))
remove-changes s (suc i) (x ∷ es) a p = past s Absent x es (remove es i) p.0 (remove-changes s i es a.2 p.1)

still : (b : Bool) (q : Told) → (b ≡ true → q ≡ Absent) → q ≡ cond b Absent q
still true q f = f refl
still false q f = refl

-- A statistic without an entry is Absent, so to set it Absent changes nothing.
pub nowhere-changes : (s : Stat) (es : List Entry) → IsNowhere s es → Changes s Absent es es
nowhere-changes s es f =
    λ r. still (is r s) (told_in r es) (λ g. nowhere-tells r es (nowhere-same r s es (same r s g) f))

pub told-absent : (v : Precision ScalarValue) → absence v ≡ true → told v ≡ Absent
told-absent (Exact v) e = absurd (true≢false (sym e))
told-absent (Inexact v) e = absurd (true≢false (sym e))
told-absent Absent e = refl

-- ---- the invariant of the entries is kept

nowhere-push : (s : Stat) (v : Entry) (es : List Entry) → is s v.0 ≡ false → IsNowhere s es → IsNowhere s (es ++ v ∷ [])
nowhere-push s v [] e f = (e, tt)
nowhere-push s v (x ∷ es) e f = (f.0, nowhere-push s v es e f.1)

pub push-entries : (v : Entry) (es : List Entry) → AreEntries es → IsNowhere v.0 es → IsTold (told v.1)
    → AreEntries (es ++ v ∷ [])
push-entries v [] a f t = (tt, t, tt)
push-entries v (x ∷ es) a f t =
    (nowhere-push x.0 v es (differ x.0 v.0 (λ k. apart v.0 x.0 f.0 (sym k))) a.0, a.1, push-entries v es a.2 f.1 t)

nowhere-set : (s : Stat) (v : Entry) (i : ℕ) (es : List Entry) → IsPlace v.0 i es → IsNowhere s es
    → IsNowhere s (slice_set es i v)
nowhere-set s v i [] p f = absurd p
nowhere-set s v zero (x ∷ es) p f = (differ s v.0 (λ k. apart s x.0 f.0 (k ∙ same v.0 x.0 p)), f.1)
nowhere-set s v (suc i) (x ∷ es) p f = (f.0, nowhere-set s v i es p.1 f.1)

pub set-entries : (v : Entry) (i : ℕ) (es : List Entry) → AreEntries es → IsPlace v.0 i es → IsTold (told v.1)
    → AreEntries (slice_set es i v)
set-entries v i [] a p t = absurd p
set-entries v zero (x ∷ es) a p t = (nowhere-same v.0 x.0 es (same v.0 x.0 p) a.0, t, a.2)
set-entries v (suc i) (x ∷ es) a p t = (nowhere-set x.0 v i es p.1 a.0, a.1, set-entries v i es a.2 p.1 t)

nowhere-remove : (s : Stat) (i : ℕ) (es : List Entry) → i < length es → IsNowhere s es → IsNowhere s (remove es i)
nowhere-remove s i [] h f = absurd (omega (arith, h))
nowhere-remove s zero (x ∷ es) h f = f.1
nowhere-remove s (suc i) (x ∷ es) h f = (f.0, nowhere-remove s i es (omega (arith, h)) f.1)

pub remove-entries : (i : ℕ) (es : List Entry) → i < length es → AreEntries es → AreEntries (remove es i)
remove-entries i [] h a = absurd (omega (arith, h))
remove-entries zero (x ∷ es) h a = a.2
remove-entries (suc i) (x ∷ es) h a =
    (nowhere-remove x.0 i es (omega (arith, h)) a.0, a.1, remove-entries i es (omega (arith, h)) a.2)

-- For the loop over entries.
pub ruleset placing = (place-found, nowhere-more)
