-- The tree of a type determines the type.
use Rattle.std.specs.Prelude.{◌≡◌, List, [], ◌∷◌, ◌++◌, refl}
use Rattle.std.proofs.Common.{ap, sym, ◌∙◌}
use Rattle.vx_trees.specs.Rose.{Roses, node, end, more, roses_list}
use Rattle.vx_trees.proofs.Holding.{everywhere_below-snoc}
use Rattle.vx_trees.proofs.Lists.{roses_list-roses_of}
use Rattle.vx_types.specs.Kind.{Kind, null, boolean, primitive, decimal, utf8, binary, list, fixed_size_list, structure, union, map, variant, extension}
use Rattle.vx_types.specs.Seen.{typ, typs}
use Rattle.vx_types.specs.Typ.{Typ, IsTypeNode, IsType, AreTypes}
use Rattle.vx_types.specs.declared.dtype.DType.{DType}
use Rattle.vx_types.specs.declared.dtype.DType.TheVariants.{Null, Bool, Primitive, Decimal, Utf8, Binary, List as ListOf, FixedSizeList, Struct, Union, Map, Variant, Extension}
use Rattle.vx_types.proofs.Lists.{typs-push}

-- The first and the second of the trees below a node.
abbrev first : Roses Kind → Typ
first end = node null end
first (more t ts) = t

abbrev second : Roses Kind → Typ
second end = node null end
second (more t ts) = first ts

-- The type of a tree.
abbrev dtype_of : Typ → DType
dtype_of (node null ts) = Null
dtype_of (node (boolean n) ts) = Bool n
dtype_of (node (primitive p n) ts) = Primitive p n
dtype_of (node (decimal p s n) ts) = Decimal (record { precision = p; scale = s }) n
dtype_of (node (utf8 n) ts) = Utf8 n
dtype_of (node (binary n) ts) = Binary n
dtype_of (node (list n) ts) = ListOf (first ts) n
dtype_of (node (fixed_size_list k n) ts) = FixedSizeList (first ts) k n
dtype_of (node (structure ns n) ts) = Struct (record { names = ns; types = roses_list ts }) n
dtype_of (node (union ns ids n) ts) = Union (record { names = ns; types = roses_list ts; ids = ids }) n
dtype_of (node (map b n) ts) = Map (record { key = first ts; value = second ts; keys_sorted = b }) n
dtype_of (node (variant n) ts) = Variant n
dtype_of (node (extension id bs) ts) = Extension (record { id = id; metadata = bs; storage = first ts })

dtype_of-typ : (d : DType) → dtype_of (typ d) ≡ d
dtype_of-typ Null = refl
dtype_of-typ (Bool n) = refl
dtype_of-typ (Primitive p n) = refl
dtype_of-typ (Decimal d n) = refl
dtype_of-typ (Utf8 n) = refl
dtype_of-typ (Binary n) = refl
dtype_of-typ (ListOf t n) = refl
dtype_of-typ (FixedSizeList t k n) = refl
dtype_of-typ (Struct f n) = ap (λ ts. Struct (record { names = f.names; types = ts }) n) (roses_list-roses_of f.types)
dtype_of-typ (Union v n) = ap (λ ts. Union (record { names = v.names; types = ts; ids = v.ids }) n) (roses_list-roses_of v.types)
dtype_of-typ (Map m n) = refl
dtype_of-typ (Variant n) = refl
dtype_of-typ (Extension x) = refl

pub typ-injective : (a b : DType) → typ a ≡ typ b → a ≡ b
typ-injective a b e = sym (dtype_of-typ a) ∙ ap dtype_of e ∙ dtype_of-typ b

-- One type more at the end.
pub types-push : (ds es : List DType) (d : DType) → AreTypes (typs ds) → IsType (typ d) → es ≡ ds ++ d ∷ [] → AreTypes (typs es)
types-push ds es d h k e = everywhere_below-snoc IsTypeNode (typs ds) (typs es) (typ d) h k (ap typs e ∙ typs-push ds d)
