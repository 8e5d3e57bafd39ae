-- Each part of a row's value is smaller than the value, as the check asks for it.
use Rattle.std.specs.Prelude.{List, [], ◌∷◌, ◌+◌, ◌*◌, ◌≤◌, max}
use Rattle.std.proofs.Common.{arith}
use Rattle.vx_trees.specs.Rose.{roses_of}
use Rattle.vx_trees.specs.Walks.{nodes_of}
use denote.Param.Weighed.{most}
use Rattle.vx_scalars.specs.Measures.{value_size}
use Rattle.vx_rows.specs.Plain.{plain_value, plain_values}
use Rattle.vx_rows.specs.declared.row.RowValue.{RowValue}
use Rattle.vx_rows.specs.declared.row.RowValue.TheVariants.{Null, Opaque, Bool, Primitive, Decimal, Utf8, Binary, Tuple, Union, Variant}
use Rattle.vx_rows.specs.declared.row_ref.RowRef.TheDeep.{deep-RowValue}

pub deep_le-size : (v : RowValue) → max (deep-RowValue v) 0 ≤ value_size (plain_value v)
deep_le-size Null = omega arith
deep_le-size Opaque = omega arith
deep_le-size (Bool b) = omega arith
deep_le-size (Primitive n) = omega arith
deep_le-size (Decimal x) = omega arith
deep_le-size (Utf8 text) = omega arith
deep_le-size (Binary bytes) = omega arith
deep_le-size (Tuple vs) = omega arith
deep_le-size (Union tag v) = omega arith
deep_le-size (Variant s) = omega arith

pub most_le-size : (vs : List RowValue) → most (λ v. deep-RowValue v) vs ≤ 4 * nodes_of (roses_of (plain_values vs)) + 1
most_le-size [] = omega arith
most_le-size (v ∷ vs) = omega (arith, most_le-size vs, deep_le-size v)
