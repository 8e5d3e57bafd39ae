-- Arrays as the plain trees that contracts see.
use Rattle.std.specs.Prelude.{ℕ}
use Rattle.vx_types.specs.Typ.{Typ}
use Rattle.vx_array_tree.specs.Body as B
use Rattle.vx_array_tree.specs.Tree.{Head}
use Rattle.vx_scalars.specs.Stats.{Stats}
use Rattle.vx_arrays.specs.declared.body.Body.{Body}
use Rattle.vx_arrays.specs.declared.body.Body.TheVariants as V

-- What a node's encoding holds, by its encoding.
abbrev pub plain_body : Body → B.Body
plain_body V.Null = B.null
plain_body (V.Primitive x) = B.primitive x
plain_body (V.Bool x) = B.bool x
plain_body (V.Decimal x) = B.decimal x
plain_body (V.VarBin x) = B.varbin x
plain_body (V.VarBinView x) = B.varbinview x
plain_body V.FixedSizeList = B.fixed_size_list
plain_body V.Struct = B.struct
plain_body V.Ext = B.ext
plain_body V.List = B.list
plain_body V.Union = B.union
plain_body (V.Dict x) = B.dict x
plain_body (V.ListView x) = B.listview x
plain_body V.Map = B.map
plain_body V.Variant = B.variant
plain_body (V.Foreign x) = B.foreign x

-- A node without its children, by its type, its rows, what is told of them, and what its encoding holds.
abbrev pub plain_head : Typ → ℕ → Stats → Body → Head
plain_head d n x b = record { dtype = d; len = n; stats = x; body = plain_body b }
