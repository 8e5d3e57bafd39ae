-- The written part of a set fits every type that the set fits, and its own written part is itself; a set that fits
-- a type fits it under any nullability.
use Rattle.std.specs.Prelude.{nat_lt, option_map, if◌then◌else◌}
use Rattle.std.proofs.Common.{ℕ, ◌≡◌, ◌%◌, ◌^◌, Bool, true, false, Option, Some, None, refl, sym, ap, ◌∙◌, subst}
use Rattle.vx_trees.specs.Rose.{node}
use Rattle.vx_types.specs.Fits.{Fits, IsOf, bare}
use Rattle.vx_types.specs.Kind as K
use Rattle.vx_numbers.specs.Numbers.{kind_of}
use Rattle.vx_types.specs.Typ.{Typ}
use Rattle.vx_types.specs.Value as V
use Rattle.vx_types.specs.Value.{is_null}
use Rattle.vx_types.specs.Words.{with_nullability}
use Rattle.vx_types.specs.declared.nullability.Nullability.{Nullability}
use Rattle.vx_numbers.specs.declared.ptype.PType.{PType}
use Rattle.vx_numbers.specs.declared.value.PValue.{PValue}
use Rattle.vx_numbers.specs.declared.value.PValue.TheVariants.{U64, F16, F32, F64}
use Rattle.vx_types.proofs.LawsOfTypes.{bare_under}
use Rattle.vx_scalars.specs.Nans.{quiet, nan_canonical}
use Rattle.vx_scalars.specs.StatTypes.{ordered, sum_type, flag_type, count_type}
use Rattle.vx_scalars.specs.Stats.{Told, Stats, no_stats, IsOfType, FitsTold, FitStats}
use Rattle.vx_scalars.specs.WrittenStats.{canonical_sum, written_sum, exact_flag, exact_count, told_mark}
use Rattle.vx_scalars.specs.WrittenStats.{written_flag, written_count, written_stats}
use Rattle.vx_scalars.specs.declared.precision.Precision.TheVariants.{Exact, Inexact, Absent}
use Rattle.vx_scalars.specs.declared.stat.Stat.TheVariants.{Min, Max, Sum, IsSorted, IsStrictSorted, IsConstant}
use Rattle.vx_scalars.specs.declared.stat.Stat.TheVariants.{NullCount, UncompressedSizeInBytes, NaNCount}

-- An empty set fits every type.
pub none_fit : (d : Typ) → FitStats d no_stats
none_fit d Min = tt
none_fit d Max = tt
none_fit d Sum = tt
none_fit d IsSorted = tt
none_fit d IsStrictSorted = tt
none_fit d IsConstant = tt
none_fit d NullCount = tt
none_fit d UncompressedSizeInBytes = tt
none_fit d NaNCount = tt

-- ---- what is written fits

same_kind : (n : PValue) → kind_of n ≡ kind_of (nan_canonical n)
same_kind (F16 n) = refl
same_kind (F32 n) = refl
same_kind (F64 n) = refl
same_kind _ = refl

pub sum_fits : (v : V.Value) (d : Typ) → Fits v d → Fits (canonical_sum v) d
sum_fits (node (V.number n) vs) d h = (subst (λ (p : PType). IsOf p (bare d)) (same_kind n) h.0, h.1)
sum_fits _ d h = h

pub sum_null : (v : V.Value) → is_null (canonical_sum v) ≡ is_null v
sum_null (node (V.number n) vs) = refl
sum_null _ = refl

written_sum_fits : (o : Option Typ) (x : Told) → FitsTold o x → FitsTold o (written_sum x)
written_sum_fits None (Exact v) f = f
written_sum_fits (Some d) (Exact v) f = (sum_fits v d f.0, sum_null v ∙ f.1)
written_sum_fits o (Inexact v) f = tt
written_sum_fits o Absent f = tt

flag_fits : (o : Option Bool) → FitsTold (Some flag_type) (told_mark (option_map (λ b. V.bool b) o))
flag_fits None = tt
flag_fits (Some b) = ((tt, refl), refl)

count_fits : (o : Option ℕ) → FitsTold (Some count_type) (told_mark (option_map (λ n. V.number (U64 n)) o))
count_fits None = tt
count_fits (Some n) = ((refl, refl), refl)

pub written_fit : (d : Typ) (t : Stats) → FitStats d t → FitStats d (written_stats t)
written_fit d t f Min = f Min
written_fit d t f Max = f Max
written_fit d t f Sum = written_sum_fits (sum_type d) t.total (f Sum)
written_fit d t f IsSorted = flag_fits (exact_flag t.is_sorted)
written_fit d t f IsStrictSorted = flag_fits (exact_flag t.is_strict_sorted)
written_fit d t f IsConstant = flag_fits (exact_flag t.is_constant)
written_fit d t f NullCount = count_fits (exact_count t.null_count)
written_fit d t f UncompressedSizeInBytes = count_fits (exact_count t.uncompressed_size)
written_fit d t f NaNCount = count_fits (exact_count t.nan_count)

-- ---- writing twice

either : {A : Type 0} (b : Bool) (x : A) → (if b then x else x) ≡ x
either true x = refl
either false x = refl

quiet_again : (sign infinity nan bits : ℕ) (b : Bool) → nat_lt infinity (bits % sign) ≡ b
    → quiet sign infinity nan (if b then nan else bits) ≡ (if b then nan else bits)
quiet_again sign infinity nan bits true e = either (nat_lt infinity (nan % sign)) nan
quiet_again sign infinity nan bits false e = ap (λ (b : Bool). if b then nan else bits) e

quiet_twice : (sign infinity nan bits : ℕ)
    → quiet sign infinity nan (quiet sign infinity nan bits) ≡ quiet sign infinity nan bits
quiet_twice sign infinity nan bits = quiet_again sign infinity nan bits (nat_lt infinity (bits % sign)) refl

nan_twice : (n : PValue) → nan_canonical (nan_canonical n) ≡ nan_canonical n
nan_twice (F16 bits) = ap (λ (k : ℕ). F16 k) (quiet_twice (2 ^ 15) 31744 32256 bits)
nan_twice (F32 bits) = ap (λ (k : ℕ). F32 k) (quiet_twice (2 ^ 31) 2139095040 2143289344 bits)
nan_twice (F64 bits) = ap (λ (k : ℕ). F64 k) (quiet_twice (2 ^ 63) 9218868437227405312 9221120237041090560 bits)
nan_twice _ = refl

sum_twice : (v : V.Value) → canonical_sum (canonical_sum v) ≡ canonical_sum v
sum_twice (node (V.number n) vs) = ap (λ (k : PValue). node (V.number k) vs) (nan_twice n)
sum_twice _ = refl

pub written_sum_twice : (x : Told) → written_sum (written_sum x) ≡ written_sum x
written_sum_twice (Exact v) = ap (λ (w : V.Value). Exact w) (sum_twice v)
written_sum_twice (Inexact v) = refl
written_sum_twice Absent = refl

flag_twice : (o : Option Bool) → exact_flag (told_mark (option_map (λ b. V.bool b) o)) ≡ o
flag_twice None = refl
flag_twice (Some b) = refl

count_twice : (o : Option ℕ) → exact_count (told_mark (option_map (λ n. V.number (U64 n)) o)) ≡ o
count_twice None = refl
count_twice (Some n) = refl

-- A written flag or count is that of the set.
pub written_flag_exact : (x : Told) → exact_flag (written_flag x) ≡ exact_flag x
written_flag_exact x = flag_twice (exact_flag x)

pub written_count_exact : (x : Told) → exact_count (written_count x) ≡ exact_count x
written_count_exact x = count_twice (exact_count x)

written_flag_twice : (x : Told) → written_flag (written_flag x) ≡ written_flag x
written_flag_twice x = ap (λ (o : Option Bool). told_mark (option_map (λ b. V.bool b) o)) (written_flag_exact x)

written_count_twice : (x : Told) → written_count (written_count x) ≡ written_count x
written_count_twice x = ap (λ (o : Option ℕ). told_mark (option_map (λ n. V.number (U64 n)) o)) (written_count_exact x)

pub written_twice : (t : Stats) → written_stats (written_stats t) ≡ written_stats t
written_twice t =
    let total = written_sum_twice t.total in
    let sorted = written_flag_twice t.is_sorted in
    let strict = written_flag_twice t.is_strict_sorted in
    let constant = written_flag_twice t.is_constant in
    let nulls = written_count_twice t.null_count in
    let size = written_count_twice t.uncompressed_size in
    let nans = written_count_twice t.nan_count in
    λ i. record {
      least = t.least;
      greatest = t.greatest;
      total = total i;
      is_sorted = sorted i;
      is_strict_sorted = strict i;
      is_constant = constant i;
      null_count = nulls i;
      uncompressed_size = size i;
      nan_count = nans i;
    }

-- ---- under another nullability

ordered_under : (m : Nullability) (d : Typ) (v : V.Value) → IsOfType (ordered d) v
    → IsOfType (ordered (with_nullability m d)) v
ordered_under m (node (K.boolean x) ts) (node V.null vs) f = absurd (cc)
ordered_under m (node (K.boolean x) ts) _ f = f
ordered_under m (node (K.primitive p x) ts) (node V.null vs) f = absurd (cc)
ordered_under m (node (K.primitive p x) ts) _ f = f
ordered_under m (node (K.decimal p s x) ts) (node V.null vs) f = absurd (cc)
ordered_under m (node (K.decimal p s x) ts) _ f = f
ordered_under m (node (K.utf8 x) ts) (node V.null vs) f = absurd (cc)
ordered_under m (node (K.utf8 x) ts) _ f = f
ordered_under m (node (K.binary x) ts) (node V.null vs) f = absurd (cc)
ordered_under m (node (K.binary x) ts) _ f = f
ordered_under m _ v f = absurd f

told_under : (m : Nullability) (d : Typ) (x : Told) → FitsTold (ordered d) x
    → FitsTold (ordered (with_nullability m d)) x
told_under m d (Exact v) f = ordered_under m d v f
told_under m d (Inexact v) f = ordered_under m d v f
told_under m d Absent f = tt

bound_under : (m : Nullability) (d : Typ) (x : Told) → FitsTold (ordered (bare d)) x
    → FitsTold (ordered (bare (with_nullability m d))) x
bound_under m d x f = subst (λ (z : Typ). FitsTold (ordered z) x) (sym (bare_under m d)) (told_under m (bare d) x f)

sum_under : (m : Nullability) (d : Typ) → sum_type (with_nullability m d) ≡ sum_type d
sum_under m (node K.null ts) = refl
sum_under m _ = refl

-- Whether statistics fit a type does not depend on its nullability.
pub fit_under : (m : Nullability) (d : Typ) (t : Stats) → FitStats d t → FitStats (with_nullability m d) t
fit_under m d t f Min = bound_under m d t.least (f Min)
fit_under m d t f Max = bound_under m d t.greatest (f Max)
fit_under m d t f Sum = subst (λ (o : Option Typ). FitsTold o t.total) (sym (sum_under m d)) (f Sum)
fit_under m d t f IsSorted = f IsSorted
fit_under m d t f IsStrictSorted = f IsStrictSorted
fit_under m d t f IsConstant = f IsConstant
fit_under m d t f NullCount = f NullCount
fit_under m d t f UncompressedSizeInBytes = f UncompressedSizeInBytes
fit_under m d t f NaNCount = f NaNCount
