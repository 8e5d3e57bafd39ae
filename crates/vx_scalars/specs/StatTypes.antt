-- The types of statistics.
use Rattle.std.specs.Prelude.{ℕ, ◌+◌, min, List, [], ◌∷◌, Option, Some, None}
use Rattle.vx_trees.specs.Rose.{node, end}
use Rattle.vx_types.specs.Fits.{bare}
use Rattle.vx_types.specs.Kind.{boolean, primitive, decimal, utf8, binary}
use Rattle.vx_types.specs.Typ.{Typ}
use Rattle.vx_types.specs.declared.nullability.Nullability.TheVariants.{Nullable, NonNullable}
use Rattle.vx_numbers.specs.declared.ptype.PType.{PType}
use Rattle.vx_numbers.specs.declared.ptype.PType.TheVariants as P
use Rattle.vx_scalars.specs.declared.stat.Stat.{Stat}
use Rattle.vx_scalars.specs.declared.stat.Stat.TheVariants.{Min, Max, Sum, IsSorted, IsStrictSorted, IsConstant}
use Rattle.vx_scalars.specs.declared.stat.Stat.TheVariants.{NullCount, UncompressedSizeInBytes, NaNCount}

-- The nine statistics, in the order of their declaration.
abbrev pub all_stats : List Stat
all_stats =
    Min ∷ Max ∷ Sum ∷ IsSorted ∷ IsStrictSorted ∷ IsConstant ∷ NullCount ∷ UncompressedSizeInBytes ∷ NaNCount ∷ []

-- The index of a statistic among the nine.
abbrev pub stat_index : Stat → ℕ
stat_index Min = 0
stat_index Max = 1
stat_index Sum = 2
stat_index IsSorted = 3
stat_index IsStrictSorted = 4
stat_index IsConstant = 5
stat_index NullCount = 6
stat_index UncompressedSizeInBytes = 7
stat_index NaNCount = 8

-- The types whose rows have a least and a greatest value: flags, numbers, decimals, texts and bytes.
abbrev pub ordered : Typ → Option Typ
ordered (node (boolean m) ts) = Some (node (boolean m) ts)
ordered (node (primitive p m) ts) = Some (node (primitive p m) ts)
ordered (node (decimal p s m) ts) = Some (node (decimal p s m) ts)
ordered (node (utf8 m) ts) = Some (node (utf8 m) ts)
ordered (node (binary m) ts) = Some (node (binary m) ts)
ordered _ = None

-- The kind of a sum of numbers: the widest of the same sort.
abbrev pub sum_kind : PType → PType
sum_kind P.U8 = P.U64
sum_kind P.U16 = P.U64
sum_kind P.U32 = P.U64
sum_kind P.U64 = P.U64
sum_kind P.I8 = P.I64
sum_kind P.I16 = P.I64
sum_kind P.I32 = P.I64
sum_kind P.I64 = P.I64
sum_kind P.F16 = P.F64
sum_kind P.F32 = P.F64
sum_kind P.F64 = P.F64

-- The type of a sum, which is nullable: of flags their count, of decimals ten digits more, at most 76. An
-- extension has no sum.
abbrev pub sum_type : Typ → Option Typ
sum_type (node (boolean m) ts) = Some (node (primitive P.U64 Nullable) end)
sum_type (node (primitive p m) ts) = Some (node (primitive (sum_kind p) Nullable) end)
sum_type (node (decimal p s m) ts) = Some (node (decimal (min 76 (p + 10)) s Nullable) end)
sum_type _ = None

abbrev pub flag_type : Typ
flag_type = node (boolean NonNullable) end

abbrev pub count_type : Typ
count_type = node (primitive P.U64 NonNullable) end

-- The type of a statistic of arrays of a type; None where they do not have it. The least and the greatest value
-- of an extension have the bare type.
abbrev pub stat_type : Stat → Typ → Option Typ
stat_type Min d = ordered (bare d)
stat_type Max d = ordered (bare d)
stat_type Sum d = sum_type d
stat_type IsSorted d = Some flag_type
stat_type IsStrictSorted d = Some flag_type
stat_type IsConstant d = Some flag_type
stat_type NullCount d = Some count_type
stat_type UncompressedSizeInBytes d = Some count_type
stat_type NaNCount d = Some count_type
