-- Rows as the plain values that contracts see.
use Rattle.std.specs.Prelude.{List, map as each}
use Rattle.vx_trees.specs.Rose.{node, end, more, roses_of}
use Rattle.vx_types.specs.Value.{Value, lone, variant_of}
use Rattle.vx_types.specs.Value as V
use Rattle.vx_scalars.specs.Decimals.{decimal_of}
use Rattle.vx_rows.specs.declared.row.RowValue.{RowValue}
use Rattle.vx_rows.specs.declared.row.RowValue.TheVariants as R

-- The value of a row.
abbrev pub plain_value : RowValue → Value
plain_value R.Null = lone V.null
plain_value R.Opaque = lone V.opaque
plain_value (R.Bool b) = lone (V.bool b)
plain_value (R.Primitive v) = lone (V.number v)
plain_value (R.Decimal x) = lone (V.decimal (decimal_of x))
plain_value (R.Utf8 text) = lone (V.utf8 text)
plain_value (R.Binary bytes) = lone (V.binary bytes)
plain_value (R.Tuple values) = node V.tuple (roses_of values)
plain_value (R.Union tag row) = node (V.union tag) (more row end)
plain_value (R.Variant scalar) = variant_of scalar.dtype scalar.value

-- The values of rows, in their order.
abbrev pub plain_values : List RowValue → List Value
plain_values values = each plain_value values
