-- Typed values over variants.
use Rattle.std.specs.Prelude.{◌≡◌, [], ◌∷◌, Some, None, true, codes, pos, refl}
use Rattle.vx_trees.specs.Rose.{node, end, more}
use Rattle.vx_types.specs.Kind as K
use Rattle.vx_types.specs.Fits.{Fits}
use Rattle.vx_types.specs.Typ.{Typ}
use Rattle.vx_types.specs.Value as V
use Rattle.vx_types.specs.Value.{Value, lone, variant_of}
use Rattle.vx_types.specs.declared.nullability.Nullability.TheVariants.{Nullable, NonNullable}
use Rattle.vx_numbers.specs.declared.ptype.PType.TheVariants as P
use Rattle.vx_numbers.specs.declared.value.PValue.TheVariants as N
use Rattle.vx_array_tree.specs.Merge.{merge, variants}
use Rattle.vx_array_tree_tests.proofs.Samples.{kind, number_type, flag_type, text_type, list_of, i32, u16, flag, null, tuple, utf8}

abbrev typed_type : Typ
typed_type = node (K.structure (codes "a" ∷ codes "b" ∷ []) NonNullable) (more (number_type P.I32 NonNullable) (more (text_type Nullable) end))

abbrev raw_type : Typ
raw_type = node (K.structure (codes "b" ∷ codes "c" ∷ []) NonNullable) (more variants (more (number_type P.I64 NonNullable) end))

abbrev merged_type : Typ
merged_type = node (K.structure (codes "a" ∷ codes "b" ∷ codes "c" ∷ []) NonNullable) (more variants (more variants (more variants end)))

abbrev seven : Value
seven = lone (V.number (N.I64 (pos 7)))

abbrev yes : Value
yes = variant_of (flag_type NonNullable) (flag true)

-- Fields of the typed struct come first; a null one leaves its name to the fallback, whose others follow.
structures_merge : merge typed_type (tuple (i32 1 ∷ null ∷ [])) (Some (variant_of raw_type (tuple (yes ∷ seven ∷ []))))
    ≡ variant_of merged_type (tuple (variant_of (number_type P.I32 NonNullable) (i32 1) ∷ yes ∷ variant_of (number_type P.I64 NonNullable) seven ∷ []))
structures_merge = refl

-- Over what holds no struct, a struct is wrapped as it stands.
over_number : merge typed_type (tuple (i32 1 ∷ null ∷ [])) (Some (variant_of (number_type P.I64 NonNullable) seven)) ≡ variant_of typed_type (tuple (i32 1 ∷ null ∷ []))
over_number = refl

-- The same under a name of a struct: one that is a struct too, itself or inside a variant, is merged in turn, and one
-- of an extension over Variant is no variant.
abbrev named_type : Typ → Typ
named_type d = node (K.structure (codes "s" ∷ []) NonNullable) (more d end)

abbrev extended : Typ
extended = node (K.extension (codes "x.y") []) (more variants end)

inner_merge : merge (named_type typed_type) (tuple (tuple (i32 1 ∷ null ∷ []) ∷ [])) (Some (variant_of (named_type variants) (tuple (variant_of raw_type (tuple (yes ∷ seven ∷ [])) ∷ []))))
    ≡ variant_of (named_type variants) (tuple (variant_of merged_type (tuple (variant_of (number_type P.I32 NonNullable) (i32 1) ∷ yes ∷ variant_of (number_type P.I64 NonNullable) seven ∷ [])) ∷ []))
inner_merge = refl

extension_stands_apart : merge (named_type typed_type) (tuple (tuple (i32 1 ∷ null ∷ []) ∷ [])) (Some (variant_of (named_type extended) (tuple (variant_of raw_type (tuple (yes ∷ seven ∷ [])) ∷ []))))
    ≡ variant_of (named_type variants) (tuple (variant_of typed_type (tuple (i32 1 ∷ null ∷ [])) ∷ []))
extension_stands_apart = refl

-- Null leaves the fallback, and is null without one.
null_leaves : merge typed_type null (Some yes) ≡ yes
null_leaves = refl

null_alone : merge typed_type null None ≡ null
null_alone = refl

-- So it fits no type that has no null.
null_unfit : Fits (merge typed_type null None) variants → ⊥
null_unfit f = let x : NonNullable ≡ Nullable = f.0 in absurd (cc)

-- A list's elements are wrapped.
lists_wrap : merge (list_of (number_type P.U16 NonNullable)) (tuple (u16 1 ∷ u16 2 ∷ [])) (Some yes)
    ≡ variant_of (list_of variants) (tuple (variant_of (number_type P.U16 NonNullable) (u16 1) ∷ variant_of (number_type P.U16 NonNullable) (u16 2) ∷ []))
lists_wrap = refl

-- A null element of type Variant is wrapped, one that is there stays.
null_elements_wrap : merge (list_of (kind (K.variant Nullable))) (tuple (null ∷ yes ∷ [])) None
    ≡ variant_of (list_of variants) (tuple (variant_of (kind (K.variant Nullable)) null ∷ yes ∷ []))
null_elements_wrap = refl

-- A variant is itself; any other value is wrapped.
variants_stay : merge variants yes None ≡ yes
variants_stay = refl

texts_wrap : merge (text_type NonNullable) (utf8 (codes "hi")) (Some yes) ≡ variant_of (text_type NonNullable) (utf8 (codes "hi"))
texts_wrap = refl
