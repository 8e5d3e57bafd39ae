-- The statistics of an array's rows.
use Rattle.std.specs.Prelude.{◌≡◌, ◌==◌, false, if◌then◌else◌, List, [], ◌∷◌, Option, Some, None, refl, ◌⊎◌}
use Rattle.std.specs.Coded.{Coded, code_by, coded⊎, coded_list}
use Rattle.std.proofs.Common.{get_or}
use mathlib.Core.Logic.{inl, inr}
use base.Stored.{coded_unit}
use Rattle.vx_types.specs.Fits.{Fits}
use Rattle.vx_types.specs.Typ.{Typ}
use Rattle.vx_types.specs.Value.{Value, value_code, is_null}
use Rattle.vx_scalars.specs.Seen.{value_of}
use Rattle.vx_scalars.specs.StatTypes.{stat_index, stat_type}
use Rattle.vx_scalars.specs.declared.precision.Precision.{Precision}
use Rattle.vx_scalars.specs.declared.precision.Precision.TheVariants.{Exact, Inexact, Absent}
use Rattle.vx_scalars.specs.declared.stat.Stat.{Stat}
use Rattle.vx_scalars.specs.declared.stat.Stat.TheVariants.{Min, Max, Sum, IsSorted, IsStrictSorted, IsConstant}
use Rattle.vx_scalars.specs.declared.stat.Stat.TheVariants.{NullCount, UncompressedSizeInBytes, NaNCount}
use Rattle.vx_scalars.specs.declared.value.ScalarValue.{ScalarValue}

-- What is known of one statistic: its value, a bound, or nothing.
abbrev pub Told : Type 0
Told = Precision Value

-- What is known of each of the nine.
pub record Stats : Type 0 where
  pub least : Told
  pub greatest : Told
  pub total : Told
  pub is_sorted : Told
  pub is_strict_sorted : Told
  pub is_constant : Told
  pub null_count : Told
  pub uncompressed_size : Told
  pub nan_count : Told

-- The set of what a function gives for each.
abbrev pub stats_of : (Stat → Told) → Stats
stats_of f = record {
  least = f Min;
  greatest = f Max;
  total = f Sum;
  is_sorted = f IsSorted;
  is_strict_sorted = f IsStrictSorted;
  is_constant = f IsConstant;
  null_count = f NullCount;
  uncompressed_size = f UncompressedSizeInBytes;
  nan_count = f NaNCount;
}

-- Nothing is known.
abbrev pub no_stats : Stats
no_stats = stats_of (λ s. Absent)

-- What is known of a statistic.
abbrev pub told_at : Stats → Stat → Told
told_at t Min = t.least
told_at t Max = t.greatest
told_at t Sum = t.total
told_at t IsSorted = t.is_sorted
told_at t IsStrictSorted = t.is_strict_sorted
told_at t IsConstant = t.is_constant
told_at t NullCount = t.null_count
told_at t UncompressedSizeInBytes = t.uncompressed_size
told_at t NaNCount = t.nan_count

-- The set with one statistic changed.
abbrev pub with_told : Stats → Stat → Told → Stats
with_told t Min x = record t { least = x }
with_told t Max x = record t { greatest = x }
with_told t Sum x = record t { total = x }
with_told t IsSorted x = record t { is_sorted = x }
with_told t IsStrictSorted x = record t { is_strict_sorted = x }
with_told t IsConstant x = record t { is_constant = x }
with_told t NullCount x = record t { null_count = x }
with_told t UncompressedSizeInBytes x = record t { uncompressed_size = x }
with_told t NaNCount x = record t { nan_count = x }

-- ---- sets as code has them, by entries

-- A precision of values, as one of their trees.
abbrev pub told : Precision ScalarValue → Told
told (Exact v) = Exact (value_of v)
told (Inexact v) = Inexact (value_of v)
told Absent = Absent

-- An entry of a set: a statistic, and what is known of it.
abbrev pub Entry : Type 0
Entry = Stat × Precision ScalarValue

-- What the first entry of a statistic gives; Absent without one.
abbrev pub told_in : Stat → List Entry → Told
told_in s [] = Absent
told_in s (x ∷ xs) = if stat_index s == stat_index x.0 then told x.1 else told_in s xs

-- The statistic has no entry.
abbrev pub IsNowhere : Stat → List Entry → Type 0
IsNowhere s [] = Unit {0}
IsNowhere s (x ∷ xs) = ((stat_index s == stat_index x.0) ≡ false) × IsNowhere s xs

-- It is not Absent.
abbrev pub IsTold : Told → Type 0
IsTold (Exact v) = Unit {0}
IsTold (Inexact v) = Unit {0}
IsTold Absent = ⊥

-- No entry is Absent, and no statistic has two entries.
abbrev pub AreEntries : List Entry → Type 0
AreEntries [] = Unit {0}
AreEntries (x ∷ xs) = IsNowhere x.0 xs × IsTold (told x.1) × AreEntries xs

-- The entries of a set: one for each statistic that is not Absent.
pub record ListsEach (t : Stats) (xs : List Entry) : Type 0 where
  pub entries : AreEntries xs
  pub tell : t ≡ stats_of (λ s. told_in s xs)

-- ---- types of statistics

-- A value has the type of a statistic, and is not null.
abbrev pub IsOfType : Option Typ → Value → Type 0
IsOfType None v = ⊥
IsOfType (Some d) v = Fits v d × (is_null v ≡ false)

-- A statistic is Absent or has its type.
abbrev pub FitsTold : Option Typ → Told → Type 0
FitsTold d (Exact v) = IsOfType d v
FitsTold d (Inexact v) = IsOfType d v
FitsTold d Absent = Unit {0}

-- Each statistic is Absent or has the type that it has for arrays of a type.
abbrev pub FitStats : Typ → Stats → Type 0
FitStats d t = (s : Stat) → FitsTold (stat_type s d) (told_at t s)

-- ---- codes

abbrev StoredTold : Type 0
StoredTold = Value ⊎ (Value ⊎ Unit {0})

abbrev stored_told : Told → StoredTold
stored_told (Exact v) = inl v
stored_told (Inexact v) = inr (inl v)
stored_told Absent = inr (inr tt)

abbrev restored_told : StoredTold → Told
restored_told (inl v) = Exact v
restored_told (inr (inl v)) = Inexact v
restored_told (inr (inr _)) = Absent

pub restored-stored_told : (x : Told) → restored_told (stored_told x) ≡ x
restored-stored_told (Exact v) = refl
restored-stored_told (Inexact v) = refl
restored-stored_told Absent = refl

-- The code of a statistic, by its constructor.
abbrev pub told_code : Coded Told
told_code =
    code_by StoredTold (coded⊎ value_code (coded⊎ value_code coded_unit)) stored_told restored_told restored-stored_told

-- The code of a set, as the list of its nine statistics.
abbrev pub stats_code : Coded Stats
stats_code =
    code_by (List Told) (coded_list told_code)
    (λ t. t.least ∷ t.greatest ∷ t.total ∷ t.is_sorted ∷ t.is_strict_sorted ∷ t.is_constant ∷ t.null_count ∷ t.uncompressed_size ∷ t.nan_count ∷ [])
    (λ xs. stats_of (λ s. get_or xs (stat_index s) Absent)) (λ _. refl)
