-- Rows without rows below them, before they are built.
use Rattle.vx_types.specs.Value.{Mark}
use Rattle.vx_types.specs.Value as V
use Rattle.vx_scalars.specs.Decimals.{decimal_of}
use Rattle.vx_rows.specs.declared.lone_row.LoneRow.{LoneRow}
use Rattle.vx_rows.specs.declared.lone_row.LoneRow.TheVariants as L

-- A row without rows below it, as the mark of its value.
abbrev pub lone_mark : LoneRow → Mark
lone_mark L.Null = V.null
lone_mark L.Opaque = V.opaque
lone_mark (L.Bool b) = V.bool b
lone_mark (L.Primitive n) = V.number n
lone_mark (L.Decimal x) = V.decimal (decimal_of x)
lone_mark (L.Utf8 text) = V.utf8 text.now
lone_mark (L.Binary bytes) = V.binary bytes.now
