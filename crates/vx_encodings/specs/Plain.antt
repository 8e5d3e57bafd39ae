-- Encodings as the plain values that contracts see.
use Rattle.vx_array_tree.specs.Encoding as E
use Rattle.vx_encodings.specs.declared.encoding.Encoding.{Encoding}
use Rattle.vx_encodings.specs.declared.encoding.Encoding.TheVariants as V

-- An encoding of the code, as one of the definitions.
abbrev pub plain_encoding : Encoding → E.Encoding
plain_encoding V.Null = E.null
plain_encoding V.Bool = E.bool
plain_encoding V.Primitive = E.primitive
plain_encoding V.Decimal = E.decimal
plain_encoding V.VarBin = E.varbin
plain_encoding V.VarBinView = E.varbinview
plain_encoding V.Dict = E.dict
plain_encoding V.FixedSizeList = E.fixed_size_list
plain_encoding V.Struct = E.struct
plain_encoding V.Extension = E.ext
plain_encoding V.List = E.list
plain_encoding V.ListView = E.listview
plain_encoding V.Map = E.map
plain_encoding V.Union = E.union
plain_encoding V.Variant = E.variant
