-- Each part of a type is smaller than the type, which makes recursion over types end.
use Rattle.std.specs.Prelude.{◌+◌, ◌*◌, ◌≤◌, List, [], ◌∷◌, max}
use Rattle.std.proofs.Common.{arith}
use Rattle.vx_trees.specs.Rose.{roses_of}
use Rattle.vx_trees.specs.Walks.{nodes_of}
use Rattle.vx_types.specs.Parts.{typ_size, types_size}
use Rattle.vx_types.specs.HeldTypes.{types_held}
use Rattle.vx_types.specs.Seen.{typ, typs}
use Rattle.vx_types.specs.declared.dtype.DType.{DType}
use Rattle.vx_types.specs.declared.dtype.DType.TheVariants.{Null, Bool, Primitive, Decimal, Utf8, Binary, List as ListOf, FixedSizeList, Struct, Union, Map, Variant, Extension}
use Rattle.vx_types.specs.declared.dtypes.HeldTypes.{HeldTypes}
use Rattle.vx_types.specs.declared.dtypes.HeldTypes.TheVariants.{Nothing, Types}
use Rattle.vx_types.specs.declared.dtypes.DTypes.TheDeep.{deep-DType, deep-HeldTypes}
use denote.Param.Weighed.{most}

pub deep_le-size : (n : DType) → max (deep-DType n) 0 ≤ typ_size (typ n)
deep_le-size Null = omega arith
deep_le-size (Bool n) = omega arith
deep_le-size (Primitive p n) = omega arith
deep_le-size (Decimal d n) = omega arith
deep_le-size (Utf8 n) = omega arith
deep_le-size (Binary n) = omega arith
deep_le-size (ListOf t n) = omega arith
deep_le-size (FixedSizeList t k n) = omega arith
deep_le-size (Struct f n) = omega arith
deep_le-size (Union v n) = omega arith
deep_le-size (Map m n) = omega arith
deep_le-size (Variant n) = omega arith
deep_le-size (Extension x) = omega arith

pub most_le-size : (ds : List DType) → most (λ d. deep-DType d) ds ≤ 4 * nodes_of (roses_of (typs ds)) + 1
most_le-size [] = omega arith
most_le-size (d ∷ ds) = omega (arith, most_le-size ds, deep_le-size d)

pub held_le-size : (h : HeldTypes) → max (deep-HeldTypes h) 0 ≤ types_size (types_held h)
held_le-size Nothing = omega arith
held_le-size (Types b) = omega arith
