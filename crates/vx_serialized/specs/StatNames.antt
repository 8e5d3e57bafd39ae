-- The names of the statistics that a node has.
use Rattle.std.specs.Prelude.{ℕ, List, [], ◌∷◌, Bool, true, false, codes, if◌then◌else◌}
use Rattle.vx_flat.specs.Value.{Field, absent, table, Fields}
use Rattle.vx_scalars.specs.StatTypes.{all_stats}
use Rattle.vx_scalars.specs.declared.stat.Stat.{Stat}
use Rattle.vx_scalars.specs.declared.stat.Stat.TheVariants.{Min, Max, Sum, IsSorted, IsStrictSorted, IsConstant, NullCount, UncompressedSizeInBytes, NaNCount}
use Rattle.vx_scalar_wire.specs.StatsShown.{part}

-- The entry of a statistic's field in its table. The precisions stand at 1 and 3.
abbrev pub stat_entry : Stat → ℕ
stat_entry Min = 0
stat_entry Max = 2
stat_entry Sum = 4
stat_entry IsSorted = 5
stat_entry IsStrictSorted = 6
stat_entry IsConstant = 7
stat_entry NullCount = 8
stat_entry UncompressedSizeInBytes = 9
stat_entry NaNCount = 10

-- The name of the field.
abbrev pub stat_name : Stat → List ℕ
stat_name Min = codes "min"
stat_name Max = codes "max"
stat_name Sum = codes "sum"
stat_name IsSorted = codes "is_sorted"
stat_name IsStrictSorted = codes "is_strict_sorted"
stat_name IsConstant = codes "is_constant"
stat_name NullCount = codes "null_count"
stat_name UncompressedSizeInBytes = codes "uncompressed_size_in_bytes"
stat_name NaNCount = codes "nan_count"

-- A field is present.
abbrev pub is_there : Field → Bool
is_there absent = false
is_there _ = true

-- The field of a statistic is present in a table.
abbrev pub is_standing : Fields → Stat → Bool
is_standing vs s = is_there (part vs (stat_entry s))

-- The names of those of these statistics whose fields are present in a table.
abbrev pub names_standing : Fields → List Stat → List (List ℕ)
names_standing vs [] = []
names_standing vs (s ∷ ss) = if is_standing vs s then stat_name s ∷ names_standing vs ss else names_standing vs ss

-- The names of the statistics whose fields are present in a node's table, in the order of the table. Precisions have no
-- part in that.
abbrev pub names_in : Field → List (List ℕ)
names_in (table vs) = names_standing vs all_stats
names_in _ = []
