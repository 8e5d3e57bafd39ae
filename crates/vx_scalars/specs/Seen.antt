-- The tree of marks that contracts see of a `ScalarValue`.
use Rattle.std.specs.Prelude.{List, Option, Some, None, Box, map as each}
use Rattle.vx_trees.specs.Rose.{node, end, more, roses_of}
use Rattle.vx_types.specs.Value.{Value, lone, null, bool, number, decimal, utf8, binary, tuple, union, variant}
use Rattle.vx_scalars.specs.Decimals.{decimal_of}
use Rattle.vx_scalars.specs.declared.value.ScalarValue.{ScalarValue}
use Rattle.vx_scalars.specs.declared.value.ScalarValue.TheVariants.{Bool, Primitive, Decimal, Utf8, Binary}
use Rattle.vx_scalars.specs.declared.value.ScalarValue.TheVariants.{Tuple, Union, Variant}

-- A value that is not null.
abbrev pub value_of : ScalarValue → Value
value_of (Bool b) = lone (bool b)
value_of (Primitive n) = lone (number n)
value_of (Decimal x) = lone (decimal (decimal_of x))
value_of (Utf8 s) = lone (utf8 s)
value_of (Binary bs) = lone (binary bs)
value_of (Tuple vs) = node tuple (roses_of vs)
value_of (Union tag v) = node (union tag) (more v end)
value_of (Variant s) = node (variant s.dtype) (more s.value end)

-- A value that may be null; None is null.
abbrev pub seen : Option ScalarValue → Value
seen None = lone null
seen (Some v) = value_of v

-- The trees of a list of values.
abbrev pub all_seen : List (Option ScalarValue) → List Value
all_seen vs = each seen vs

-- A boxed value; None is null.
abbrev pub boxed_value : {A : Type 0} → Option (Box ScalarValue A) → Value
boxed_value None = lone null
boxed_value (Some b) = value_of b.value
