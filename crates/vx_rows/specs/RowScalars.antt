-- Rows of variants.
use Rattle.std.specs.Prelude.{Bool, false, Option, Some, None}
use Rattle.vx_trees.specs.Rose.{node}
use Rattle.vx_types.specs.Typ.{Typ}
use Rattle.vx_types.specs.Value.{Value, null, opaque, variant}
use Rattle.vx_array_tree.specs.Encodings.Variants.{is_structure}
use Rattle.vx_rows.specs.Plain.{plain_value}
use Rattle.vx_rows.specs.declared.row.RowValue.{RowValue}

-- A row of variants is null, opaque or a variant.
abbrev pub IsVariantRow : Value → Type 0
IsVariantRow (node null vs) = Unit {0}
IsVariantRow (node opaque vs) = Unit {0}
IsVariantRow (node (variant d) vs) = Unit {0}
IsVariantRow _ = ⊥

-- Whether a core's row hides a typed value of a type that stands over it: an opaque one hides a struct.
abbrev pub hides : Typ → Value → Bool
hides d (node opaque vs) = is_structure d
hides d _ = false

-- What stands where a row was laid over a core's: that row, or the core's where there is none.
abbrev pub laid_or : Option RowValue → Value → Value
laid_or None core = core
laid_or (Some row) core = plain_value row
