-- The table in which a set of statistics is written.
use Rattle.std.specs.Prelude.{ℕ, ◌<◌, ◌^◌, ◌%◌, List, length, Option, Some, None, IfSome, option_map}
use Rattle.vx_flat.specs.Pieces.{Piece, pieces}
use Rattle.vx_flat.specs.Value.{Field, absent, number, elements, Fields, no_fields, field}
use Rattle.vx_proto.specs.Parts.{flag_number}
use Rattle.vx_proto.specs.Written.{written}
use Rattle.vx_types.specs.Value as V
use Rattle.vx_types.specs.Well.{IsWell}
use Rattle.vx_scalars.specs.Stats.{Told, Stats}
use Rattle.vx_scalars.specs.WrittenStats.{written_sum, exact_flag, exact_count}
use Rattle.vx_scalars.specs.declared.precision.Precision.TheVariants.{Exact, Inexact, Absent}
use Rattle.vx_scalar_wire.specs.ScalarMessage.{scalar_lists, value_message}
use Rattle.vx_scalar_wire.specs.StatsSchema.{stats_schema}

-- ---- the table

-- A value as the bytes of its message.
abbrev pub value_bytes : V.Value → List ℕ
value_bytes v = written scalar_lists 15 (value_message v)

-- What is told stands as the bytes of its value.
abbrev pub value_field : Told → Field
value_field (Exact v) = elements (value_bytes v)
value_field (Inexact v) = elements (value_bytes v)
value_field Absent = absent

-- The precision beside it is 1 where it is exact.
abbrev pub precision_of : Told → ℕ
precision_of (Exact v) = 1
precision_of _ = 0

-- A number that may stand.
abbrev pub number_field : Option ℕ → Field
number_field None = absent
number_field (Some n) = number n

abbrev pub flag_field : Told → Field
flag_field x = number_field (option_map flag_number (exact_flag x))

-- A count stands as its eight bytes.
abbrev pub count_bits : ℕ → ℕ
count_bits n = n % 2 ^ 64

abbrev pub count_field : Told → Field
count_field x = number_field (option_map count_bits (exact_count x))

-- The table of a set.
abbrev pub stats_table : Stats → Fields
stats_table t =
    field (value_field t.least) (field (number (precision_of t.least)) (field (value_field t.greatest) (field (number (precision_of t.greatest)) (field (value_field (written_sum t.total))
    (field (flag_field t.is_sorted) (field (flag_field t.is_strict_sorted) (field (flag_field t.is_constant)
    (field (count_field t.null_count) (field (count_field t.uncompressed_size) (field (count_field t.nan_count) no_fields))))))))))

-- Its blocks.
abbrev pub stats_pieces : Stats → List Piece
stats_pieces t = pieces stats_schema (stats_table t)

-- ---- what can be written

-- What is told is of a value whose plain parts are such as they may be, and whose bytes are not too many to count.
abbrev pub IsStorable : Told → Type 0
IsStorable (Exact v) = IsWell v × (length (value_bytes v) < 2 ^ 64)
IsStorable (Inexact v) = IsWell v × (length (value_bytes v) < 2 ^ 64)
IsStorable Absent = Unit {0}

-- A count that is written has eight bytes.
abbrev pub IsStorableCount : Told → Type 0
IsStorableCount x = IfSome (exact_count x) (λ n. n < 2 ^ 64)

-- So are the values and the counts of a set that are written.
pub record AreStorable (t : Stats) : Type 0 where
  pub least : IsStorable t.least
  pub greatest : IsStorable t.greatest
  pub sum : IsStorable (written_sum t.total)
  pub null_count : IsStorableCount t.null_count
  pub uncompressed_size : IsStorableCount t.uncompressed_size
  pub nan_count : IsStorableCount t.nan_count
