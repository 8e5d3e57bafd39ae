-- The part of a set of statistics that is written to messages.
use Rattle.std.specs.Prelude.{ℕ, Bool, Option, Some, None, option_map}
use Rattle.vx_trees.specs.Rose.{node}
use Rattle.vx_types.specs.Value as V
use Rattle.vx_types.specs.Value.{flag_in, lone}
use Rattle.vx_numbers.specs.declared.value.PValue.TheVariants.{U64}
use Rattle.vx_scalars.specs.Nans.{nan_canonical}
use Rattle.vx_scalars.specs.Stats.{Told, Stats}
use Rattle.vx_scalars.specs.declared.precision.Precision.TheVariants.{Exact, Absent}

-- A sum, with the canonical NaN of its width in place of any NaN.
abbrev pub canonical_sum : V.Value → V.Value
canonical_sum (node (V.number n) vs) = node (V.number (nan_canonical n)) vs
canonical_sum v = v

-- A sum is written where it is exact.
abbrev pub written_sum : Told → Told
written_sum (Exact v) = Exact (canonical_sum v)
written_sum _ = Absent

-- A flag is written where it is exact and a flag.
abbrev pub exact_flag : Told → Option Bool
exact_flag (Exact v) = flag_in v
exact_flag _ = None

-- A count is written where it is exact and a U64.
abbrev pub count_in : V.Value → Option ℕ
count_in (node (V.number (U64 n)) vs) = Some n
count_in _ = None

abbrev pub exact_count : Told → Option ℕ
exact_count (Exact v) = count_in v
exact_count _ = None

-- The exact value of a mark; Absent without one.
abbrev pub told_mark : Option V.Mark → Told
told_mark None = Absent
told_mark (Some m) = Exact (lone m)

abbrev pub written_flag : Told → Told
written_flag x = told_mark (option_map (λ b. V.bool b) (exact_flag x))

abbrev pub written_count : Told → Told
written_count x = told_mark (option_map (λ n. V.number (U64 n)) (exact_count x))

-- The set that is written. The least and the greatest value are written with their precision.
abbrev pub written_stats : Stats → Stats
written_stats t = record {
  least = t.least;
  greatest = t.greatest;
  total = written_sum t.total;
  is_sorted = written_flag t.is_sorted;
  is_strict_sorted = written_flag t.is_strict_sorted;
  is_constant = written_flag t.is_constant;
  null_count = written_count t.null_count;
  uncompressed_size = written_count t.uncompressed_size;
  nan_count = written_count t.nan_count;
}
