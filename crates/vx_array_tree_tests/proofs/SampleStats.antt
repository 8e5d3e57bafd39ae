-- Statistics of samples: which fit, and what is read back of them.
use Rattle.std.proofs.Common.{◌≡◌, refl, true, false}
use Rattle.vx_trees.specs.Rose.{label}
use Rattle.vx_types.specs.Value as V
use Rattle.vx_types.specs.Value.{lone}
use Rattle.vx_types.specs.declared.nullability.Nullability.TheVariants.{Nullable, NonNullable}
use Rattle.vx_numbers.specs.declared.ptype.PType.TheVariants as P
use Rattle.vx_scalars.specs.Stats.{Stats, FitStats, no_stats}
use Rattle.vx_scalars.specs.declared.precision.Precision.TheVariants.{Exact, Inexact, Absent}
use Rattle.vx_scalars.specs.declared.stat.Stat.TheVariants.{Min, Max, Sum, IsSorted, IsStrictSorted, IsConstant, NullCount, UncompressedSizeInBytes, NaNCount}
use Rattle.vx_array_tree.specs.Canon.{Spelling, canon, KeepsStats}
use Rattle.vx_array_tree.specs.Sound.{IsSound}
use Rattle.vx_array_tree.specs.Tree.{with_stats}
use Rattle.vx_array_tree.proofs.Built.{stats_sound}
use Rattle.vx_array_tree_tests.proofs.Samples.{number_type, nulls, flags, numbers, flag, i32, count, float, told_of_numbers, told_numbers, summed, told_values, days, words}
use Rattle.vx_array_tree_tests.proofs.SoundSamples.{numbers_sound, days_sound}

-- ---- which fit

-- Numbers of 32 bits have a sum of 64, and it may be null.
numbers_fit : FitStats (number_type P.I32 Nullable) told_of_numbers
numbers_fit Min = ((refl, refl), refl)
numbers_fit Max = ((refl, refl), refl)
numbers_fit Sum = ((refl, refl), refl)
numbers_fit IsSorted = ((tt, refl), refl)
numbers_fit IsStrictSorted = tt
numbers_fit IsConstant = ((tt, refl), refl)
numbers_fit NullCount = ((refl, refl), refl)
numbers_fit UncompressedSizeInBytes = tt
numbers_fit NaNCount = tt

told_numbers_sound : IsSound told_numbers
told_numbers_sound = stats_sound told_of_numbers numbers numbers_sound numbers_fit

abbrev least : V.Value → Stats
least v = record no_stats { least = Exact v }

-- A least value of another kind, and one of null.
other_kind : IsSound (with_stats (least (count 1)) numbers) → ⊥
other_kind s = let x : P.U64 ≡ P.I32 = (s.0.stats Min).0.0 in absurd (cc)

null_least : IsSound (with_stats (least (lone V.null)) numbers) → ⊥
null_least s = let x : true ≡ false = (s.0.stats Min).1 in absurd (cc)

-- Nulls have no least value, and one of flags is no number.
nulls_least : IsSound (with_stats (least (i32 1)) (nulls 3)) → ⊥
nulls_least s = s.0.stats Min

flags_least : IsSound (with_stats (least (i32 1)) (flags Nullable)) → ⊥
flags_least s = (s.0.stats Min).0.0

-- The least value of an extension is of its storage's type, and it has no sum.
day_fits : FitStats (label days).dtype (least (i32 1))
day_fits Min = ((refl, refl), refl)
day_fits Max = tt
day_fits Sum = tt
day_fits IsSorted = tt
day_fits IsStrictSorted = tt
day_fits IsConstant = tt
day_fits NullCount = tt
day_fits UncompressedSizeInBytes = tt
day_fits NaNCount = tt

day_least : IsSound (with_stats (least (i32 1)) days)
day_least = stats_sound (least (i32 1)) days days_sound day_fits

day_sum : IsSound (with_stats (record no_stats { total = Exact (i32 1) }) days) → ⊥
day_sum s = s.0.stats Sum

-- Texts have no sum, whatever is told as a bound.
text_sum : IsSound (with_stats (record no_stats { total = Inexact (count 1) }) words) → ⊥
text_sum s = s.0.stats Sum

-- ---- what is read back

-- However nodes are spelled.
module _ (sp : Spelling) where
  -- A bound of least and greatest values stays, that of a flag does not.
  flag_dropped : (label (canon sp told_numbers)).stats ≡ record told_of_numbers { is_sorted = Absent }
  flag_dropped = refl

  -- Neither does a sum that is a bound.
  sum_dropped : (label (canon sp (summed (Inexact (float 0))))).stats ≡ no_stats
  sum_dropped = refl

  -- A sum that is no number is the NaN of its width, whatever its sign and payload; any other sum stays.
  minus_nan : canon sp (summed (Exact (float 18444492273895866368))) ≡ summed (Exact (float 9221120237041090560))
  minus_nan = refl

  nan_with_payload : canon sp (summed (Exact (float 9221120240777019119))) ≡ summed (Exact (float 9221120237041090560))
  nan_with_payload = refl

  three : canon sp (summed (Exact (float 4613937818241073152))) ≡ summed (Exact (float 4613937818241073152))
  three = refl

  infinity : canon sp (summed (Exact (float 9218868437227405312))) ≡ summed (Exact (float 9218868437227405312))
  infinity = refl

  -- Values that take the type of their dictionary keep their statistics.
  values_tell : canon sp (told_values NonNullable) ≡ told_values Nullable
  values_tell = refl

-- ---- what is kept

-- The sum that is read back is kept, and what is told of the numbers is not.
nan_kept : KeepsStats (summed (Exact (float 9221120237041090560)))
nan_kept = (refl, tt)

flag_not_kept : KeepsStats told_numbers → ⊥
flag_not_kept k = let x : Absent ≡ Inexact (flag true) = (λ i. (k.0 i).is_sorted) in absurd (cc)
