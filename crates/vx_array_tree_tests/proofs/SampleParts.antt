-- The identifiers and the metadata of samples, the places of their children, and what is read back of them.
use Rattle.std.specs.Prelude.{◌≡◌, ◌-◌, ◌^◌, List, [], ◌∷◌, Some, None, false, true, replicate, codes, pos, refl}
use Rattle.vx_trees.specs.Rose.{node, end, more, label, below}
use Rattle.vx_types.specs.Kind as K
use Rattle.vx_numbers.specs.declared.decimal_type.DecimalType.TheVariants as D
use Rattle.vx_types.specs.declared.nullability.Nullability.TheVariants.{Nullable, NonNullable}
use Rattle.vx_numbers.specs.declared.ptype.PType.TheVariants as P
use Rattle.vx_array_tree.specs.Canon.{Spelling, canon}
use Rattle.vx_array_tree.specs.Encoding as E
use Rattle.vx_array_tree.specs.Metadata.{Metadata}
use Rattle.vx_array_tree.specs.Metadata as M
use Rattle.vx_array_tree.specs.Place.{place, validity_place}
use Rattle.vx_array_tree.specs.Sound.{metadata_in}
use Rattle.vx_array_tree.specs.Table.{plan_of}
use Rattle.vx_array_tree.specs.Tree.{Tree, encoding_ids}
use Rattle.vx_array_tree_tests.proofs.SampleForeigns.{spelled}
use Rattle.vx_array_tree_tests.proofs.Samples.{kind, number_type, flag_type, text_type, list_of, fixed_type, entry_type, map_type, union_type, variant_type, nulls, flags_from, numbers, hundreds, small_decimals, varbins, texts, dictionary, lists, views, fixed, entries, maps, structs, unions, days, lifted_values, variants, typed, variant_values}

-- ---- identifiers, in preorder

map_ids : encoding_ids (maps entries)
    ≡ codes "vortex.map" ∷ codes "vortex.listview" ∷ codes "vortex.struct" ∷ codes "vortex.primitive" ∷ codes "vortex.varbin" ∷ codes "vortex.primitive" ∷ codes "vortex.primitive"
    ∷ codes "vortex.primitive" ∷ []
map_ids = refl

days_ids : encoding_ids days ≡ codes "vortex.ext" ∷ codes "vortex.primitive" ∷ []
days_ids = refl

variants_ids : encoding_ids (variants (typed ∷ [])) ≡ codes "vortex.variant" ∷ codes "x.core" ∷ codes "vortex.primitive" ∷ codes "vortex.bool" ∷ []
variants_ids = refl

-- ---- metadata

abbrev told : Tree → Metadata
told t = metadata_in (label t) (below t)

flags_tell : told (flags_from 2) ≡ M.bool 2
flags_tell = refl

decimals_tell : told hundreds ≡ M.decimal D.I128
decimals_tell = refl

small_decimals_tell : told small_decimals ≡ M.decimal D.I8
small_decimals_tell = refl

varbins_tell : told (varbins (0 ∷ 2 ∷ 2 ∷ 3 ∷ []) (codes "abc")) ≡ M.varbin P.I32
varbins_tell = refl

lists_tell : told (lists (0 ∷ 2 ∷ 2 ∷ 3 ∷ [])) ≡ M.list (record { elements_len = 3; offset_ptype = P.I32 })
lists_tell = refl

views_tell : told (views false NonNullable (1 ∷ 0 ∷ []) (2 ∷ 1 ∷ []) []) ≡ M.listview (record { elements_len = 3; offset_ptype = P.U8; size_ptype = P.U8 })
views_tell = refl

dictionary_tells : told (dictionary 1) ≡ M.dict (record { values_len = 3; codes_ptype = P.U8; nullable_codes = Nullable; all_values_referenced = false })
dictionary_tells = refl

-- Variants tell the type of the typed child, if any.
variants_tell : told (variants (typed ∷ [])) ≡ M.variant (Some (number_type P.I32 Nullable))
variants_tell = refl

bare_variants_tell : told (variants []) ≡ M.variant None
bare_variants_tell = refl

-- The other eight encodings keep nothing.
abbrev plain : List Metadata
plain =
    told (nulls 3) ∷ told numbers ∷ told (texts 21 97) ∷ told (fixed 3 2 (1 ∷ 2 ∷ 3 ∷ 4 ∷ 5 ∷ 6 ∷ [])) ∷ told (maps entries) ∷ told structs ∷ told (unions (0 ∷ 9 ∷ 5 ∷ [])) ∷ told days
    ∷ []

plain_tell : plain ≡ replicate 8 M.empty
plain_tell = refl

-- ---- places

-- Flags, numbers, decimals and the views of texts stand over at most a validity.
flags_places : plan_of E.bool (flag_type Nullable) 4 (M.bool 2) 1 ≡ Some (validity_place 4 ∷ [])
flags_places = refl

numbers_places : plan_of E.primitive (number_type P.I32 Nullable) 4 M.empty 0 ≡ Some []
numbers_places = refl

decimals_places : plan_of E.decimal (kind (K.decimal 10 (pos 2) NonNullable)) 5 (M.decimal D.I128) 0 ≡ Some []
decimals_places = refl

texts_places : plan_of E.varbinview (text_type Nullable) 5 M.empty 1 ≡ Some (validity_place 5 ∷ [])
texts_places = refl

-- There is one offset more than rows.
varbins_places : plan_of E.varbin (text_type NonNullable) 3 (M.varbin P.I32) 1 ≡ Some (place (number_type P.I32 NonNullable) 4 ∷ [])
varbins_places = refl

lists_places : plan_of E.list (list_of (number_type P.U16 NonNullable)) 3 (M.list (record { elements_len = 3; offset_ptype = P.I32 })) 2
    ≡ Some (place (number_type P.U16 NonNullable) 3 ∷ place (number_type P.I32 NonNullable) 4 ∷ [])
lists_places = refl

views_places : plan_of E.listview (list_of (number_type P.U16 NonNullable)) 2 (M.listview (record { elements_len = 3; offset_ptype = P.U8; size_ptype = P.I64 })) 3
    ≡ Some (place (number_type P.U16 NonNullable) 3 ∷ place (number_type P.U8 NonNullable) 2 ∷ place (number_type P.I64 NonNullable) 2 ∷ [])
views_places = refl

-- Two lists of the size 3 have six elements.
fixed_places : plan_of E.fixed_size_list (fixed_type 3) 2 M.empty 1 ≡ Some (place (number_type P.U16 NonNullable) 6 ∷ [])
fixed_places = refl

-- One offset more than a length can count.
endless_list : plan_of E.list (list_of (number_type P.U16 NonNullable)) (2 ^ 64 - 1) (M.list (record { elements_len = 3; offset_ptype = P.I32 })) 2 ≡ None
endless_list = refl

-- A struct of one field has a child for it.
field_missing : plan_of E.struct (node (K.structure (codes "a" ∷ []) NonNullable) (more (number_type P.U16 NonNullable) end)) 7 M.empty 0 ≡ None
field_missing = refl

-- Nulls have no children, however many there are: no validity stands beside them, and but one beside numbers.
most_nulls_places : plan_of E.null (kind K.null) (2 ^ 64 - 1) M.empty 0 ≡ Some []
most_nulls_places = refl

nulls_alone : plan_of E.null (kind K.null) 3 M.empty 1 ≡ None
nulls_alone = refl

two_validities : plan_of E.primitive (number_type P.I32 Nullable) 4 M.empty 2 ≡ None
two_validities = refl

-- An encoding has no children of another's type, nor by another's metadata.
other_type : plan_of E.primitive (text_type Nullable) 4 M.empty 0 ≡ None
other_type = refl

other_metadata : plan_of E.primitive (number_type P.I32 Nullable) 4 (M.bool 0) 0 ≡ None
other_metadata = refl

-- The entries of maps are lists of structs of a key and a value.
map_places : plan_of E.map map_type 1 M.empty 1 ≡ Some (place (list_of entry_type) 1 ∷ [])
map_places = refl

-- A validity stands in front of a struct's fields.
structs_places : plan_of E.struct (node (K.structure (codes "a" ∷ []) Nullable) (more (number_type P.U16 NonNullable) end)) 2 M.empty 2
    ≡ Some (validity_place 2 ∷ place (number_type P.U16 NonNullable) 2 ∷ [])
structs_places = refl

-- Tags are null where the unions are.
unions_places : plan_of E.union union_type 3 M.empty 4
    ≡ Some (place (number_type P.U8 Nullable) 3 ∷ place (number_type P.I32 NonNullable) 3 ∷ place (text_type Nullable) 3 ∷ place (flag_type NonNullable) 3 ∷ [])
unions_places = refl

days_places : plan_of E.ext (node (K.extension (codes "x.day") []) (more (number_type P.I32 NonNullable) end)) 4 M.empty 1 ≡ Some (place (number_type P.I32 NonNullable) 4 ∷ [])
days_places = refl

-- A dictionary's values are of its type.
dictionary_places : plan_of E.dict (text_type Nullable) 4 (M.dict (record { values_len = 3; codes_ptype = P.U8; nullable_codes = Nullable; all_values_referenced = false })) 2
    ≡ Some (place (number_type P.U8 Nullable) 4 ∷ place (text_type Nullable) 3 ∷ [])
dictionary_places = refl

-- The core of variants is of their type, and a typed child stands after it where the metadata tells a type, and
-- nowhere else.
variants_places : plan_of E.variant (variant_type Nullable) 2 (M.variant (Some (number_type P.I32 Nullable))) 2
    ≡ Some (place (variant_type Nullable) 2 ∷ place (number_type P.I32 Nullable) 2 ∷ [])
variants_places = refl

bare_variants_places : plan_of E.variant (variant_type Nullable) 2 (M.variant None) 1 ≡ Some (place (variant_type Nullable) 2 ∷ [])
bare_variants_places = refl

typed_missing : plan_of E.variant (variant_type Nullable) 2 (M.variant (Some (number_type P.I32 Nullable))) 1 ≡ None
typed_missing = refl

typed_untold : plan_of E.variant (variant_type Nullable) 2 (M.variant None) 2 ≡ None
typed_untold = refl

-- ---- what is read back

-- Where variants take the type of their dictionary, so does their core, though nothing reads it.
cores_take : canon spelled (variant_values NonNullable) ≡ variant_values Nullable
cores_take = refl

-- However nodes are spelled, those of a known encoding are read back so.
module _ (sp : Spelling) where
  -- A list view loses its flag.
  flag_lost : canon sp (views true NonNullable (1 ∷ 0 ∷ []) (2 ∷ 1 ∷ []) []) ≡ views false NonNullable (1 ∷ 0 ∷ []) (2 ∷ 1 ∷ []) []
  flag_lost = refl

  -- A dictionary's values take its type, and so their own parts do where they go by it.
  values_take : canon sp (lifted_values NonNullable) ≡ lifted_values Nullable
  values_take = refl

  -- All else stays.
  unions_stay : canon sp (unions (0 ∷ 9 ∷ 5 ∷ [])) ≡ unions (0 ∷ 9 ∷ 5 ∷ [])
  unions_stay = refl
