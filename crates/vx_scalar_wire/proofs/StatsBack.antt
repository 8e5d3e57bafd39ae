-- The table of a set shows what is written of it.
use Rattle.std.specs.Prelude.{IfSome, option_map, nat_lt, if◌then◌else◌}
use Rattle.std.proofs.Common.{◌≡◌, ◌∙◌, ◌<◌, ◌≤◌, ◌%◌, ◌^◌, ap, Bool, true, false, ℕ, [], ◌∷◌, length, Option, Some, None, refl, sym, subst, arith}
use Rattle.std.proofs.Math.Nat.{mod-eq_of_lt}
use Rattle.vx_flat.specs.Value.{number}
use Rattle.vx_proto.specs.Parts.{flag_number}
use Rattle.vx_proto.specs.Written.{nested}
use Rattle.vx_proto.proofs.LawsOfMessages.{written_shown}
use Rattle.vx_trees.specs.Rose.{Roses, node, end, count}
use Rattle.vx_type_wire.specs.Known.{no_readers}
use Rattle.vx_types.specs.Fits.{Fits, EachFits, FitBy, FitParts, FitsMember, IsVariant, bare}
use Rattle.vx_types.specs.Kind as K
use Rattle.vx_types.specs.Kind.{Kind}
use Rattle.vx_types.specs.Typ.{Typ}
use Rattle.vx_types.specs.Value as V
use Rattle.vx_types.specs.Value.{lone}
use Rattle.vx_types.specs.Well.{IsInRange, IsWell}
use Rattle.vx_numbers.specs.declared.value.PValue.{PValue}
use Rattle.vx_numbers.specs.declared.value.PValue.TheVariants.{U8, U16, U32, U64, I8, I16, I32, I64, F16, F32, F64}
use Rattle.vx_scalars.specs.StatTypes.{ordered, sum_type, stat_type}
use Rattle.vx_scalars.specs.Stats.{Told, Stats, FitsTold, FitStats}
use Rattle.vx_scalars.proofs.LawsStats.{sum_fits, sum_null}
use Rattle.vx_scalars.specs.declared.precision.Precision.TheVariants.{Exact, Inexact, Absent}
use Rattle.vx_scalars.specs.declared.stat.Stat.TheVariants.{Min, Max, Sum, IsSorted, IsStrictSorted, IsConstant, NullCount, UncompressedSizeInBytes, NaNCount}
use Rattle.vx_scalars.specs.Nans.{quiet, nan_canonical}
use Rattle.vx_scalar_wire.specs.Reading.{IsKnownValue, AreKnownValues, ShowsValue}
use Rattle.vx_scalar_wire.specs.ScalarMessage.{scalar_lists, scalar_lists_lawful, value_message, number_member}
use Rattle.vx_scalar_wire.specs.StatsShown.{ShowsBound, ShowsSum, ShowsFlag, ShowsCount, ShowsStats}
use Rattle.vx_scalars.specs.WrittenStats.{canonical_sum, written_sum, exact_flag, exact_count, told_mark, written_stats}
use Rattle.vx_scalar_wire.specs.StatsTable.{IsStorable, AreStorable, value_bytes, value_field, precision_of, number_field, count_bits, stats_table}
use Rattle.vx_scalar_wire.proofs.Form.{value_form}
use Rattle.vx_scalar_wire.proofs.LawsScalars.{written-reads}

-- ---- values of the types of statistics

-- A type of flags, numbers, decimals, texts or bytes.
abbrev pub IsLeaf : Typ → Type 0
IsLeaf (node (K.boolean m) ts) = Unit {0}
IsLeaf (node (K.primitive p m) ts) = Unit {0}
IsLeaf (node (K.decimal p s m) ts) = Unit {0}
IsLeaf (node (K.utf8 m) ts) = Unit {0}
IsLeaf (node (K.binary m) ts) = Unit {0}
IsLeaf _ = ⊥

given : (d e : Typ) → IsLeaf d → Some d ≡ Some e → IsLeaf e
given d e l h = let same : d ≡ e = cc in subst (λ (t : Typ). IsLeaf t) same l

not_given : (e : Typ) → None ≡ Some e → IsLeaf e
not_given e h = absurd (cc)

pub ordered_leaf : (t e : Typ) → ordered t ≡ Some e → IsLeaf e
ordered_leaf (node (K.boolean m) ts) e h = given (node (K.boolean m) ts) e tt h
ordered_leaf (node (K.primitive p m) ts) e h = given (node (K.primitive p m) ts) e tt h
ordered_leaf (node (K.decimal p s m) ts) e h = given (node (K.decimal p s m) ts) e tt h
ordered_leaf (node (K.utf8 m) ts) e h = given (node (K.utf8 m) ts) e tt h
ordered_leaf (node (K.binary m) ts) e h = given (node (K.binary m) ts) e tt h
ordered_leaf _ e h = not_given e h

pub sum_leaf : (t e : Typ) → sum_type t ≡ Some e → IsLeaf e
sum_leaf (node (K.boolean m) ts) e h = given _ e tt h
sum_leaf (node (K.primitive p m) ts) e h = given _ e tt h
sum_leaf (node (K.decimal p s m) ts) e h = given _ e tt h
sum_leaf _ e h = not_given e h

pub no_parts : (k : ℕ) (Each : Typ → Type 0) (By : Roses Kind → Type 0) (d : Typ) → IsLeaf d → FitParts k Each By (bare d) → ⊥
no_parts k Each By (node (K.boolean m) ts) l f = f
no_parts k Each By (node (K.primitive p m) ts) l f = f
no_parts k Each By (node (K.decimal p s m) ts) l f = f
no_parts k Each By (node (K.utf8 m) ts) l f = f
no_parts k Each By (node (K.binary m) ts) l f = f
no_parts k Each By _ l f = absurd l

pub no_member : (tag : ℕ) (By : Roses Kind → Type 0) (d : Typ) → IsLeaf d → FitsMember tag By (bare d) → ⊥
no_member tag By (node (K.boolean m) ts) l f = f
no_member tag By (node (K.primitive p m) ts) l f = f
no_member tag By (node (K.decimal p s m) ts) l f = f
no_member tag By (node (K.utf8 m) ts) l f = f
no_member tag By (node (K.binary m) ts) l f = f
no_member tag By _ l f = absurd l

pub no_variant : (d : Typ) → IsLeaf d → IsVariant (bare d) → ⊥
no_variant (node (K.boolean m) ts) l f = f
no_variant (node (K.primitive p m) ts) l f = f
no_variant (node (K.decimal p s m) ts) l f = f
no_variant (node (K.utf8 m) ts) l f = f
no_variant (node (K.binary m) ts) l f = f
no_variant _ l f = absurd l

numeral_depth : (n : PValue) → nested (number_member n ∷ []) ≤ 100
numeral_depth (U8 n) = omega arith
numeral_depth (U16 n) = omega arith
numeral_depth (U32 n) = omega arith
numeral_depth (U64 n) = omega arith
numeral_depth (I8 z) = omega arith
numeral_depth (I16 z) = omega arith
numeral_depth (I32 z) = omega arith
numeral_depth (I64 z) = omega arith
numeral_depth (F16 n) = omega arith
numeral_depth (F32 n) = omega arith
numeral_depth (F64 n) = omega arith

-- What fits one has no variant in it, and its message has no message in it.
none_known : (vs : V.Values) → vs ≡ end → AreKnownValues no_readers vs
none_known vs e = subst (λ (us : V.Values). AreKnownValues no_readers us) (sym e) tt

pub leaf_known : (v : V.Value) (d : Typ) → IsLeaf d → Fits v d → IsKnownValue no_readers v × (nested (value_message v) ≤ 100)
leaf_known (node V.null vs) d l f = ((tt, none_known vs f.1), omega arith)
leaf_known (node V.opaque vs) d l f = absurd f
leaf_known (node (V.bool b) vs) d l f = ((tt, none_known vs f.1), omega arith)
leaf_known (node (V.number n) vs) d l f = ((tt, none_known vs f.1), numeral_depth n)
leaf_known (node (V.decimal x) vs) d l f = ((tt, none_known vs f.1), omega arith)
leaf_known (node (V.utf8 bs) vs) d l f = ((tt, none_known vs f.1), omega arith)
leaf_known (node (V.binary bs) vs) d l f = ((tt, none_known vs f.1), omega arith)
leaf_known (node V.tuple vs) d l f = absurd (no_parts (count vs) (λ e. EachFits vs e) (λ ts. FitBy vs ts) d l f)
leaf_known (node (V.union tag) vs) d l f = absurd (no_member tag (λ ts. FitBy vs ts) d l f)
leaf_known (node (V.variant e) vs) d l f = absurd (no_variant d l f.0)

-- The bytes of a value that fits show it.
pub leaf_shown : (v : V.Value) (d : Typ) → IsLeaf d → Fits v d → IsWell v → length (value_bytes v) < 2 ^ 64 → ShowsValue no_readers v d (value_bytes v)
leaf_shown v d l f w lt =
    let k = leaf_known v d l f in
    (value_message v, written_shown scalar_lists 15 (value_message v) scalar_lists_lawful (value_form v w) k.1 lt, written-reads no_readers v d f w k.0)

-- ---- sums

one_below : (b : Bool) (x y most : ℕ) → y < most → x < most → (if b then x else y) < most
one_below true x y most h k = k
one_below false x y most h k = h

quiet_below : (sign infinity nan most bits : ℕ) → bits < most → nan < most → quiet sign infinity nan bits < most
quiet_below sign infinity nan most bits h k = one_below (nat_lt infinity (bits % sign)) nan bits most h k

in_range : (n : PValue) → IsInRange n → IsInRange (nan_canonical n)
in_range (F16 n) h = quiet_below (2 ^ 15) 31744 32256 (2 ^ 16) n h (omega arith)
in_range (F32 n) h = quiet_below (2 ^ 31) 2139095040 2143289344 (2 ^ 32) n h (omega arith)
in_range (F64 n) h = quiet_below (2 ^ 63) 9218868437227405312 9221120237041090560 (2 ^ 64) n h (omega arith)
in_range _ h = h

pub sum_well : (v : V.Value) → IsWell v → IsWell (canonical_sum v)
sum_well (node (V.number n) vs) h = (in_range n h.0, h.1)
sum_well _ h = h

-- ---- each statistic

bound_back : (o : Option Typ) (x : Told) → ((e : Typ) → o ≡ Some e → IsLeaf e) → FitsTold o x → IsStorable x → ShowsBound o (value_field x) (number (precision_of x)) x
bound_back (Some d) (Exact v) l f w = ((leaf_shown v d (l d refl) f.0 w.0 w.1, f), refl)
bound_back (Some d) (Inexact v) l f w = ((leaf_shown v d (l d refl) f.0 w.0 w.1, f), refl)
bound_back (Some d) Absent l f w = tt
bound_back None (Exact v) l f w = absurd f
bound_back None (Inexact v) l f w = absurd f
bound_back None Absent l f w = tt

sum_back : (o : Option Typ) (x : Told) → ((e : Typ) → o ≡ Some e → IsLeaf e) → FitsTold o x → IsStorable (written_sum x) → ShowsSum o (value_field (written_sum x)) (written_sum x)
sum_back (Some d) (Exact v) l f w =
    let fits = sum_fits v d f.0 in
    (leaf_shown (canonical_sum v) d (l d refl) fits w.0 w.1, (fits, sum_null v ∙ f.1))
sum_back (Some d) (Inexact v) l f w = tt
sum_back (Some d) Absent l f w = tt
sum_back None (Exact v) l f w = absurd f
sum_back None (Inexact v) l f w = tt
sum_back None Absent l f w = tt

flag_back : (o : Option Bool) → ShowsFlag (number_field (option_map flag_number o)) (told_mark (option_map (λ b. V.bool b) o))
flag_back None = refl
flag_back (Some true) = refl
flag_back (Some false) = refl

count_back : (o : Option ℕ) → IfSome o (λ n. n < 2 ^ 64) → ShowsCount (number_field (option_map count_bits o)) (told_mark (option_map (λ n. V.number (U64 n)) o))
count_back None h = refl
count_back (Some n) h = ap (λ (k : ℕ). Exact (lone (V.number (U64 k)))) (sym (mod-eq_of_lt h))

-- The table of a set of statistics that fit shows what is written of it.
pub stats_back : (d : Typ) (t : Stats) → FitStats d t → AreStorable t → ShowsStats d (stats_table t) (written_stats t)
stats_back d t f w Min = bound_back (stat_type Min d) t.least (λ e h. ordered_leaf (bare d) e h) (f Min) w.least
stats_back d t f w Max = bound_back (stat_type Max d) t.greatest (λ e h. ordered_leaf (bare d) e h) (f Max) w.greatest
stats_back d t f w Sum = sum_back (stat_type Sum d) t.total (λ e h. sum_leaf d e h) (f Sum) w.sum
stats_back d t f w IsSorted = flag_back (exact_flag t.is_sorted)
stats_back d t f w IsStrictSorted = flag_back (exact_flag t.is_strict_sorted)
stats_back d t f w IsConstant = flag_back (exact_flag t.is_constant)
stats_back d t f w NullCount = count_back (exact_count t.null_count) w.null_count
stats_back d t f w UncompressedSizeInBytes = count_back (exact_count t.uncompressed_size) w.uncompressed_size
stats_back d t f w NaNCount = count_back (exact_count t.nan_count) w.nan_count
