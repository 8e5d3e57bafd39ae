-- The tree that contracts see of a `DType`.
use Rattle.std.specs.Prelude.{List, ⊤, map as each}
use Rattle.vx_trees.specs.Rose.{node, end, more, roses_of}
use Rattle.vx_types.specs.Kind.{null, boolean, primitive, decimal, utf8, binary, list, fixed_size_list, structure, union, map, variant, extension}
use Rattle.vx_types.specs.Typ.{Typ}
use Rattle.vx_types.specs.declared.dtype.DType.{DType}
use Rattle.vx_types.specs.declared.dtype.DType.TheVariants.{Null, Bool, Primitive, Decimal, Utf8, Binary, List as ListOf, FixedSizeList, Struct, Union, Map, Variant, Extension}

-- The kind of a type over the trees of the types within it, which their parts show.
abbrev pub typ : DType → Typ
typ Null = node null end
typ (Bool n) = node (boolean n) end
typ (Primitive p n) = node (primitive p n) end
typ (Decimal d n) = node (decimal d.precision d.scale n) end
typ (Utf8 n) = node (utf8 n) end
typ (Binary n) = node (binary n) end
typ (ListOf t n) = node (list n) (more t end)
typ (FixedSizeList t k n) = node (fixed_size_list k n) (more t end)
typ (Struct f n) = node (structure f.names n) (roses_of f.types)
typ (Union v n) = node (union v.names v.ids n) (roses_of v.types)
typ (Map m n) = node (map m.keys_sorted n) (more m.key (more m.value end))
typ (Variant n) = node (variant n) end
typ (Extension x) = node (extension x.id x.metadata) (more x.storage end)

-- A type is that of structures.
abbrev pub IsStruct : DType → Type 0
IsStruct (Struct f n) = ⊤
IsStruct _ = ⊥

-- The trees of a list of types.
abbrev pub typs : List DType → List Typ
typs ds = each typ ds
