-- A table shows one set of statistics at most, of arrays of a type, and each that it shows fits.
use Rattle.std.specs.Prelude.{Option}
use Rattle.std.proofs.Common.{◌≡◌, ◌==◌, ◌∙◌, ◌+◌, ◌<◌, ◌≤◌, Bool, true, false, ℕ, zero, suc, Some, get_or, refl, sym, ap, subst, true≢false, arith}
use Rattle.std.specs.Cmp.{unsigned_Decides}
use Rattle.vx_flat.specs.Value.{Field, absent, number, elements, Fields}
use Rattle.vx_type_wire.specs.Known.{no_readers}
use Rattle.vx_types.specs.Typ.{Typ}
use Rattle.vx_types.specs.Value as V
use Rattle.vx_types.specs.Value.{lone, is_null}
use Rattle.vx_scalars.specs.StatTypes.{all_stats, stat_index, stat_type, flag_type, count_type}
use Rattle.vx_scalars.specs.Stats.{Told, Stats, stats_of, told_at, with_told, FitsTold, FitStats, IsOfType}
use Rattle.vx_scalars.specs.declared.precision.Precision.TheVariants.{Exact, Inexact, Absent}
use Rattle.vx_scalars.specs.declared.stat.Stat.{Stat}
use Rattle.vx_scalars.specs.declared.stat.Stat.TheVariants.{Min, Max, Sum, IsSorted, IsStrictSorted, IsConstant, NullCount, UncompressedSizeInBytes, NaNCount}
use Rattle.vx_scalar_wire.specs.StatsShown.{HoldsStat, TellsNothing, ShowsBound, ShowsSum, ShowsFlag, ShowsCount, ShowsStat, ShowsStats, part}
use Rattle.vx_scalar_wire.proofs.LawsScalars.{one_shown}

-- ---- one field

pub holds_one : (o : Option Typ) (f : Field) (v u : V.Value) → HoldsStat o f v → HoldsStat o f u → v ≡ u
holds_one (Some d) (elements bytes) v u h k = one_shown no_readers d bytes v u h.0 k.0
holds_one _ f v u h k = absurd h

pub not_both : (o : Option Typ) (f : Field) (v : V.Value) → HoldsStat o f v → TellsNothing o f → ⊥
not_both (Some d) (elements bytes) v h k =
    let e : v ≡ lone V.null = one_shown no_readers d bytes v (lone V.null) h.0 k in
    true≢false (sym (ap (λ (x : V.Value). is_null x) e) ∙ h.1.1)
not_both _ f v h k = h

one_precision : (p : Field) → p ≡ number 1 → p ≡ number 0 → ⊥
one_precision p e f = let g : number 1 ≡ number 0 = sym e ∙ f in absurd (cc)

-- ---- one statistic

bound_one : (o : Option Typ) (f p : Field) (x y : Told) → ShowsBound o f p x → ShowsBound o f p y → x ≡ y
bound_one o f p (Exact v) (Exact u) h k = ap (λ (z : V.Value). Exact z) (holds_one o f v u h.0 k.0)
bound_one o f p (Exact v) (Inexact u) h k = absurd (one_precision p h.1 k.1)
bound_one o f p (Exact v) Absent h k = absurd (not_both o f v h.0 k)
bound_one o f p (Inexact v) (Exact u) h k = absurd (one_precision p k.1 h.1)
bound_one o f p (Inexact v) (Inexact u) h k = ap (λ (z : V.Value). Inexact z) (holds_one o f v u h.0 k.0)
bound_one o f p (Inexact v) Absent h k = absurd (not_both o f v h.0 k)
bound_one o f p Absent (Exact u) h k = absurd (not_both o f u k.0 h)
bound_one o f p Absent (Inexact u) h k = absurd (not_both o f u k.0 h)
bound_one o f p Absent Absent h k = refl

sum_one : (o : Option Typ) (f : Field) (x y : Told) → ShowsSum o f x → ShowsSum o f y → x ≡ y
sum_one o f (Exact v) (Exact u) h k = ap (λ (z : V.Value). Exact z) (holds_one o f v u h k)
sum_one o f (Exact v) (Inexact u) h k = absurd k
sum_one o f (Exact v) Absent h k = absurd (not_both o f v h k)
sum_one o f (Inexact v) y h k = absurd h
sum_one o f Absent (Exact u) h k = absurd (not_both o f u k h)
sum_one o f Absent (Inexact u) h k = absurd k
sum_one o f Absent Absent h k = refl

flag_one : (f : Field) (x y : Told) → ShowsFlag f x → ShowsFlag f y → x ≡ y
flag_one absent x y h k = h ∙ sym k
flag_one (number n) x y h k = h ∙ sym k
flag_one _ x y h k = absurd h

count_one : (f : Field) (x y : Told) → ShowsCount f x → ShowsCount f y → x ≡ y
count_one absent x y h k = h ∙ sym k
count_one (number n) x y h k = h ∙ sym k
count_one _ x y h k = absurd h

pub stat_one : (s : Stat) (d : Typ) (vs : Fields) (x y : Told) → ShowsStat s d vs x → ShowsStat s d vs y → x ≡ y
stat_one Min d vs x y h k = bound_one (stat_type Min d) (part vs 0) (part vs 1) x y h k
stat_one Max d vs x y h k = bound_one (stat_type Max d) (part vs 2) (part vs 3) x y h k
stat_one Sum d vs x y h k = sum_one (stat_type Sum d) (part vs 4) x y h k
stat_one IsSorted d vs x y h k = flag_one (part vs 5) x y h k
stat_one IsStrictSorted d vs x y h k = flag_one (part vs 6) x y h k
stat_one IsConstant d vs x y h k = flag_one (part vs 7) x y h k
stat_one NullCount d vs x y h k = count_one (part vs 8) x y h k
stat_one UncompressedSizeInBytes d vs x y h k = count_one (part vs 9) x y h k
stat_one NaNCount d vs x y h k = count_one (part vs 10) x y h k

-- ---- sets

pub same_stats : (t u : Stats) → ((s : Stat) → told_at t s ≡ told_at u s) → t ≡ u
same_stats t u h = λ i. stats_of (λ s. h s i)

pub stats_one : (d : Typ) (vs : Fields) (t u : Stats) → ShowsStats d vs t → ShowsStats d vs u → t ≡ u
stats_one d vs t u h k = same_stats t u (λ s. stat_one s d vs (told_at t s) (told_at u s) (h s) (k s))

-- ---- what is shown fits

holds_fits : (o : Option Typ) (f : Field) (v : V.Value) → HoldsStat o f v → IsOfType o v
holds_fits (Some d) (elements bytes) v h = h.1
holds_fits _ f v h = absurd h

bound_fits : (o : Option Typ) (f p : Field) (x : Told) → ShowsBound o f p x → FitsTold o x
bound_fits o f p (Exact v) h = holds_fits o f v h.0
bound_fits o f p (Inexact v) h = holds_fits o f v h.0
bound_fits o f p Absent h = tt

sum_fits : (o : Option Typ) (f : Field) (x : Told) → ShowsSum o f x → FitsTold o x
sum_fits o f (Exact v) h = holds_fits o f v h
sum_fits o f (Inexact v) h = absurd h
sum_fits o f Absent h = tt

flag_fits : (f : Field) (x : Told) → ShowsFlag f x → FitsTold (Some flag_type) x
flag_fits absent x h = subst (λ (y : Told). FitsTold (Some flag_type) y) (sym h) tt
flag_fits (number n) x h = subst (λ (y : Told). FitsTold (Some flag_type) y) (sym h) ((tt, refl), refl)
flag_fits _ x h = absurd h

count_fits : (f : Field) (x : Told) → ShowsCount f x → FitsTold (Some count_type) x
count_fits absent x h = subst (λ (y : Told). FitsTold (Some count_type) y) (sym h) tt
count_fits (number n) x h = subst (λ (y : Told). FitsTold (Some count_type) y) (sym h) ((refl, refl), refl)
count_fits _ x h = absurd h

stat_fits : (s : Stat) (d : Typ) (vs : Fields) (x : Told) → ShowsStat s d vs x → FitsTold (stat_type s d) x
stat_fits Min d vs x h = bound_fits (stat_type Min d) (part vs 0) (part vs 1) x h
stat_fits Max d vs x h = bound_fits (stat_type Max d) (part vs 2) (part vs 3) x h
stat_fits Sum d vs x h = sum_fits (stat_type Sum d) (part vs 4) x h
stat_fits IsSorted d vs x h = flag_fits (part vs 5) x h
stat_fits IsStrictSorted d vs x h = flag_fits (part vs 6) x h
stat_fits IsConstant d vs x h = flag_fits (part vs 7) x h
stat_fits NullCount d vs x h = count_fits (part vs 8) x h
stat_fits UncompressedSizeInBytes d vs x h = count_fits (part vs 9) x h
stat_fits NaNCount d vs x h = count_fits (part vs 10) x h

pub stats_fit : (d : Typ) (vs : Fields) (t : Stats) → ShowsStats d vs t → FitStats d t
stats_fit d vs t h = λ s. stat_fits s d vs (told_at t s) (h s)

-- ---- one statistic after the other

pub index_below : (s : Stat) → stat_index s < 9
index_below Min = omega arith
index_below Max = omega arith
index_below Sum = omega arith
index_below IsSorted = omega arith
index_below IsStrictSorted = omega arith
index_below IsConstant = omega arith
index_below NullCount = omega arith
index_below UncompressedSizeInBytes = omega arith
index_below NaNCount = omega arith

-- The statistic at each place of the nine has that place.
abbrev pub stat_at : ℕ → Stat
stat_at i = get_or all_stats i Min

pub index_at : (i : ℕ) → i < 9 → stat_index (stat_at i) ≡ i
index_at zero h = refl
index_at (suc zero) h = refl
index_at (suc (suc zero)) h = refl
index_at (suc (suc (suc zero))) h = refl
index_at (suc (suc (suc (suc zero)))) h = refl
index_at (suc (suc (suc (suc (suc zero))))) h = refl
index_at (suc (suc (suc (suc (suc (suc zero)))))) h = refl
index_at (suc (suc (suc (suc (suc (suc (suc zero))))))) h = refl
index_at (suc (suc (suc (suc (suc (suc (suc (suc zero)))))))) h = refl
index_at (suc (suc (suc (suc (suc (suc (suc (suc (suc i))))))))) h = absurd (omega (arith, h))

pub at_index : (s : Stat) → stat_at (stat_index s) ≡ s
at_index Min = refl
at_index Max = refl
at_index Sum = refl
at_index IsSorted = refl
at_index IsStrictSorted = refl
at_index IsConstant = refl
at_index NullCount = refl
at_index UncompressedSizeInBytes = refl
at_index NaNCount = refl

same_told : (t : Stats) (s : Stat) (x : Told) → told_at (with_told t s x) s ≡ x
same_told t Min x = refl
same_told t Max x = refl
same_told t Sum x = refl
same_told t IsSorted x = refl
same_told t IsStrictSorted x = refl
same_told t IsConstant x = refl
same_told t NullCount x = refl
same_told t UncompressedSizeInBytes x = refl
same_told t NaNCount x = refl

other_told : (t : Stats) (s r : Stat) (x : Told) → (stat_index r ≡ stat_index s → ⊥) → told_at (with_told t s x) r ≡ told_at t r
other_told t Min Min x h = absurd (h refl)
other_told t Min _ x h = refl
other_told t Max Max x h = absurd (h refl)
other_told t Max _ x h = refl
other_told t Sum Sum x h = absurd (h refl)
other_told t Sum _ x h = refl
other_told t IsSorted IsSorted x h = absurd (h refl)
other_told t IsSorted _ x h = refl
other_told t IsStrictSorted IsStrictSorted x h = absurd (h refl)
other_told t IsStrictSorted _ x h = refl
other_told t IsConstant IsConstant x h = absurd (h refl)
other_told t IsConstant _ x h = refl
other_told t NullCount NullCount x h = absurd (h refl)
other_told t NullCount _ x h = refl
other_told t UncompressedSizeInBytes UncompressedSizeInBytes x h = absurd (h refl)
other_told t UncompressedSizeInBytes _ x h = refl
other_told t NaNCount NaNCount x h = absurd (h refl)
other_told t NaNCount _ x h = refl

-- So far the set tells what the table shows.
abbrev pub ShowsFront : ℕ → Typ → Fields → Stats → Type 0
ShowsFront i d vs t = (s : Stat) → stat_index s < i → ShowsStat s d vs (told_at t s)

-- So it does after one more.
one_step : (b : Bool) (i : ℕ) (d : Typ) (vs : Fields) (t : Stats) (s r : Stat) (x : Told) → (stat_index r == stat_index s) ≡ b → stat_index s ≡ i → ShowsFront i d vs t → ShowsStat s d vs x
    → stat_index r < i + 1 → ShowsStat r d vs (told_at (with_told t s x) r)
one_step true i d vs t s r x e place h k below =
    let same : r ≡ s = sym (at_index r) ∙ (ap stat_at ((unsigned_Decides (stat_index r) (stat_index s)).0 e) ∙ at_index s) in
    subst (λ (q : Stat). ShowsStat q d vs (told_at (with_told t s x) q)) (sym same) (subst (λ (y : Told). ShowsStat s d vs y) (sym (same_told t s x)) k)
one_step false i d vs t s r x e place h k below =
    let apart : stat_index r ≡ stat_index s → ⊥ = λ g. true≢false (sym ((unsigned_Decides (stat_index r) (stat_index s)).1 g) ∙ e) in
    let before : stat_index r < i = omega (arith, below, place, apart) in
    subst (λ (y : Told). ShowsStat r d vs y) (sym (other_told t s r x apart)) (h r before)

pub one_more : (i : ℕ) (d : Typ) (vs : Fields) (t u : Stats) (s : Stat) (x : Told) → i < 9 → s ≡ stat_at i → ShowsFront i d vs t → ShowsStat s d vs x → u ≡ with_told t s x → ShowsFront (i + 1) d vs u
one_more i d vs t u s x lt is h k w = λ r below.
    subst (λ (y : Stats). ShowsStat r d vs (told_at y r)) (sym w)
    (one_step (stat_index r == stat_index s) i d vs t s r x refl (ap (λ (q : Stat). stat_index q) is ∙ index_at i lt) h k below)

pub all_shown : (d : Typ) (vs : Fields) (t : Stats) (i : ℕ) → 9 ≤ i → ShowsFront i d vs t → ShowsStats d vs t
all_shown d vs t i le h = λ s. h s (omega (arith, le, index_below s))
