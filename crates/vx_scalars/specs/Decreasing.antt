-- Each part of a value is smaller than the value, in the form that the check asks for.
use Rattle.std.specs.Prelude.{List, [], ◌∷◌, Option, Some, None, Box, ◌+◌, ◌*◌, ◌≤◌}
use Rattle.std.proofs.Common.{arith, Global}
use Rattle.vx_trees.specs.Rose.{roses_of}
use Rattle.vx_trees.specs.Walks.{nodes_of}
use denote.Param.Weighed.{most}
use Rattle.vx_scalars.specs.Seen.{value_of, seen, all_seen, boxed_value}
use Rattle.vx_scalars.specs.Measures.{value_size}
use Rattle.vx_scalars.specs.declared.value.ScalarValue.{ScalarValue}
use Rattle.vx_scalars.specs.declared.value.ScalarValue.TheVariants.{the_data, Bool, Primitive, Decimal, Utf8}
use Rattle.vx_scalars.specs.declared.value.ScalarValue.TheVariants.{Binary, Tuple, Union, Variant}
use Rattle.vx_scalars.specs.declared.scalar.Scalar.TheDeep.{deep-ScalarValue}
use Rattle.vx_scalars.specs.declared.scalar.Scalar.TheShapes.{weighed-Scalar-value, weighed-ValueRef-value}
use Rattle.vx_scalars.specs.declared.scalar.Scalar.TheShapes.{weighed-Values-items-at-1}

pub deep_le-size : (v : ScalarValue) → deep-ScalarValue v ≤ value_size (value_of v)
deep_le-size (Bool b) = omega arith
deep_le-size (Primitive n) = omega arith
deep_le-size (Decimal x) = omega arith
deep_le-size (Utf8 s) = omega arith
deep_le-size (Binary bs) = omega arith
deep_le-size (Tuple vs) = omega arith
deep_le-size (Union tag v) = omega arith
deep_le-size (Variant s) = omega arith

pub scalar_le-size : (v : Option ScalarValue)
    → (weighed-Scalar-value).weight the_data deep-ScalarValue v ≤ value_size (seen v)
scalar_le-size None = omega arith
scalar_le-size (Some v) = omega (arith, deep_le-size v)

pub item_le-size : (v : Option ScalarValue)
    → (weighed-Values-items-at-1).weight the_data deep-ScalarValue v ≤ value_size (seen v)
item_le-size None = omega arith
item_le-size (Some v) = omega (arith, deep_le-size v)

pub most_le-size : (vs : List (Option ScalarValue)) → most (λ v. (weighed-Values-items-at-1).weight the_data deep-ScalarValue v) vs ≤ 4 * nodes_of (roses_of (all_seen vs)) + 1
most_le-size [] = omega arith
most_le-size (v ∷ vs) = omega (arith, most_le-size vs, item_le-size v)

pub place_le-size : (v : Option (Box ScalarValue Global))
    → (weighed-ValueRef-value).weight the_data deep-ScalarValue v ≤ value_size (boxed_value v) + 1
place_le-size None = omega arith
place_le-size (Some b) = omega (arith, deep_le-size b.value)
