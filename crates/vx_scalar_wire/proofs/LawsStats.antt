-- A table shows one set of statistics at most, which fits and loses nothing where it is written, and that of a set
-- shows what is written of it, and is the table of what is written.
use Rattle.std.specs.Prelude.{IfSome, nat_lt, option_map, if◌then◌else◌}
use Rattle.std.proofs.Common.{◌≡◌, ◌∙◌, ◌<◌, ◌%◌, ◌^◌, Bool, false, ℕ, Option, refl, sym, ap, subst}
use Rattle.vx_flat.specs.IsOf.{AreOf}
use Rattle.vx_flat.specs.Pieces.{table_pieces}
use Rattle.vx_flat.specs.Schema.{Schema}
use Rattle.vx_flat.specs.Value.{Field, absent, number, table, Fields, no_fields, field}
use Rattle.vx_proto.specs.Parts.{flag_number}
use Rattle.vx_types.specs.Typ.{Typ}
use Rattle.vx_types.specs.Value as V
use Rattle.vx_types.specs.Well.{IsWell}
use Rattle.vx_numbers.specs.declared.value.PValue.{PValue}
use Rattle.vx_numbers.specs.declared.value.PValue.TheVariants.{F16, F32, F64}
use Rattle.vx_scalars.specs.StatTypes.{stat_type}
use Rattle.vx_scalars.specs.Stats.{Told, Stats, FitStats}
use Rattle.vx_scalars.proofs.LawsStats.{none_fit, written_sum_twice, written_flag_exact, written_count_exact}
use Rattle.vx_scalar_wire.specs.StatsSchema.{stats_fields}
use Rattle.vx_scalars.specs.declared.precision.Precision.TheVariants.{Exact, Inexact, Absent}
use Rattle.vx_scalars.specs.declared.stat.Stat.TheVariants.{Sum, IsSorted, IsStrictSorted, IsConstant, NullCount, UncompressedSizeInBytes, NaNCount}
use Rattle.vx_scalar_wire.specs.StatsShown.{ShowsSum, ShowsFlag, ShowsCount, ShowsStats, ShowsStatsIn, part}
use Rattle.vx_scalars.specs.Nans.{is_nan, quiet, nan_canonical}
use Rattle.vx_scalars.specs.WrittenStats.{canonical_sum, written_sum, written_flag, written_count, written_stats}
use Rattle.vx_scalar_wire.specs.StatsKept.{canonical_told, canonical_stats}
use Rattle.vx_scalar_wire.specs.StatsTable.{IsStorable, IsStorableCount, AreStorable, count_bits, value_field, precision_of, number_field, stats_pieces, stats_table}
use Rattle.vx_scalar_wire.proofs.StatsBack.{stats_back, sum_well}
use Rattle.vx_scalar_wire.proofs.StatsEntries.{of_any, pieces_any}
use Rattle.vx_scalar_wire.proofs.StatsRead.{stats_one, stats_fit}

-- At most one set is shown.
pub one_set : (d : Typ) (vs : Fields) (t u : Stats) → ShowsStats d vs t → ShowsStats d vs u → t ≡ u
one_set d vs t u h k = stats_one d vs t u h k

-- The same where the table may be absent.
pub one_set_in : (d : Typ) (f : Field) (t u : Stats) → ShowsStatsIn d f t → ShowsStatsIn d f u → t ≡ u
one_set_in d absent t u h k = h ∙ sym k
one_set_in d (table vs) t u h k = stats_one d vs t u h k
one_set_in d _ t u h k = absurd h

-- What is shown fits.
pub shown_fit : (d : Typ) (vs : Fields) (t : Stats) → ShowsStats d vs t → FitStats d t
shown_fit d vs t h = stats_fit d vs t h

pub shown_fit_in : (d : Typ) (f : Field) (t : Stats) → ShowsStatsIn d f t → FitStats d t
shown_fit_in d absent t h = subst (λ (u : Stats). FitStats d u) (sym h) (none_fit d)
shown_fit_in d (table vs) t h = stats_fit d vs t h
shown_fit_in d _ t h = absurd h

-- ---- what is shown is kept

sum_kept : (o : Option Typ) (f : Field) (x : Told) → ShowsSum o f x → written_sum x ≡ canonical_told x
sum_kept o f (Exact v) h = refl
sum_kept o f (Inexact v) h = absurd h
sum_kept o f Absent h = refl

flag_kept : (f : Field) (x : Told) → ShowsFlag f x → written_flag x ≡ x
flag_kept absent x h = subst (λ (y : Told). written_flag y ≡ y) (sym h) refl
flag_kept (number n) x h = subst (λ (y : Told). written_flag y ≡ y) (sym h) refl
flag_kept _ x h = absurd h

count_kept : (f : Field) (x : Told) → ShowsCount f x → written_count x ≡ x
count_kept absent x h = subst (λ (y : Told). written_count y ≡ y) (sym h) refl
count_kept (number n) x h = subst (λ (y : Told). written_count y ≡ y) (sym h) refl
count_kept _ x h = absurd h

-- Of a set that a table shows all is written as it is, exact or not, but a sum that is no number, which becomes the NaN
-- of its width: nothing is left out.
pub shown_kept : (d : Typ) (vs : Fields) (t : Stats) → ShowsStats d vs t → written_stats t ≡ canonical_stats t
shown_kept d vs t h =
    let total = sum_kept (stat_type Sum d) (part vs 4) t.total (h Sum) in
    let sorted = flag_kept (part vs 5) t.is_sorted (h IsSorted) in
    let strict = flag_kept (part vs 6) t.is_strict_sorted (h IsStrictSorted) in
    let constant = flag_kept (part vs 7) t.is_constant (h IsConstant) in
    let nulls = count_kept (part vs 8) t.null_count (h NullCount) in
    let size = count_kept (part vs 9) t.uncompressed_size (h UncompressedSizeInBytes) in
    let nans = count_kept (part vs 10) t.nan_count (h NaNCount) in
    λ i. record {
      least = t.least;
      greatest = t.greatest;
      total = total i;
      is_sorted = sorted i;
      is_strict_sorted = strict i;
      is_constant = constant i;
      null_count = nulls i;
      uncompressed_size = size i;
      nan_count = nans i;
    }

-- The same where the table may be absent.
pub shown_kept_in : (d : Typ) (f : Field) (t : Stats) → ShowsStatsIn d f t → written_stats t ≡ canonical_stats t
shown_kept_in d absent t h = subst (λ (u : Stats). written_stats u ≡ canonical_stats u) (sym h) refl
shown_kept_in d (table vs) t h = shown_kept d vs t h
shown_kept_in d _ t h = absurd h

quiet_kept : (sign infinity nan bits : ℕ) → nat_lt infinity (bits % sign) ≡ false → quiet sign infinity nan bits ≡ bits
quiet_kept sign infinity nan bits e = ap (λ (b : Bool). if b then nan else bits) e

-- A sum that is a number stays, whatever its width.
pub number_kept : (n : PValue) → is_nan n ≡ false → nan_canonical n ≡ n
number_kept (F16 bits) e = ap (λ (k : ℕ). F16 k) (quiet_kept (2 ^ 15) 31744 32256 bits e)
number_kept (F32 bits) e = ap (λ (k : ℕ). F32 k) (quiet_kept (2 ^ 31) 2139095040 2143289344 bits e)
number_kept (F64 bits) e = ap (λ (k : ℕ). F64 k) (quiet_kept (2 ^ 63) 9218868437227405312 9221120237041090560 bits e)
number_kept _ e = refl

-- ---- what is written is shown

-- The table of a set that fits shows what is written of it.
pub written_shown : (d : Typ) (t : Stats) → FitStats d t → AreStorable t → ShowsStats d (stats_table t) (written_stats t)
written_shown d t f w = stats_back d t f w

-- What is written of a set has the table of the set.
pub written_alike : (t : Stats) → stats_table (written_stats t) ≡ stats_table t
written_alike t =
    let total = written_sum_twice t.total in
    let sorted = written_flag_exact t.is_sorted in
    let strict = written_flag_exact t.is_strict_sorted in
    let constant = written_flag_exact t.is_constant in
    let nulls = written_count_exact t.null_count in
    let size = written_count_exact t.uncompressed_size in
    let nans = written_count_exact t.nan_count in
    λ i. field (value_field t.least) (field (number (precision_of t.least))
    (field (value_field t.greatest) (field (number (precision_of t.greatest))
    (field (value_field (total i))
    (field (number_field (option_map flag_number (sorted i))) (field (number_field (option_map flag_number (strict i))) (field (number_field (option_map flag_number (constant i)))
    (field (number_field (option_map count_bits (nulls i))) (field (number_field (option_map count_bits (size i))) (field (number_field (option_map count_bits (nans i))) no_fields))))))))))

small : (x : Told) → IsStorableCount x → IsStorableCount (written_count x)
small x h = subst (λ (o : Option ℕ). IfSome o (λ n. n < 2 ^ 64)) (sym (written_count_exact x)) h

-- And it can be stored where the set can.
pub written_storable : (t : Stats) → AreStorable t → AreStorable (written_stats t)
written_storable t w = record {
  least = w.least;
  greatest = w.greatest;
  sum = subst (λ (x : Told). IsStorable x) (sym (written_sum_twice t.total)) w.sum;
  null_count = small t.null_count w.null_count;
  uncompressed_size = small t.uncompressed_size w.uncompressed_size;
  nan_count = small t.nan_count w.nan_count;
}

-- A sum in its written form is well.
pub canonical_well : (v : V.Value) → IsWell v → IsWell (canonical_sum v)
canonical_well v h = sum_well v h

-- A table of statistics has the same blocks in every schema that has it, and is of its kind there.
pub pieces_anywhere : (s : Schema) (t : Stats) → table_pieces s stats_fields (stats_table t) ≡ stats_pieces t
pieces_anywhere s t = pieces_any s t

pub of_kind_anywhere : (s : Schema) (t : Stats) → AreOf s stats_fields (stats_table t)
of_kind_anywhere s t = of_any s t
