-- Arrays that break one rule each: which rule, and that they are not sound.
use Rattle.std.proofs.Common.{ℕ, ◌≡◌, List, [], ◌∷◌, Option, Some, None, Bool, refl, ap, arith, false, true, codes}
use Rattle.std.proofs.lemmas.Option.{none-some}
use Rattle.std.specs.Str.{is_utf8, chars}
use lib.Utf8.{encode}
use Rattle.vx_trees.specs.Rose.{node, label, below}
use Rattle.vx_types.specs.Kind as K
use Rattle.vx_types.specs.Typ.{Typ}
use Rattle.vx_types.specs.Words.{nullability}
use Rattle.vx_types.specs.declared.nullability.Nullability.{Nullability}
use Rattle.vx_types.specs.declared.nullability.Nullability.TheVariants.{Nullable, NonNullable}
use Rattle.vx_numbers.specs.declared.ptype.PType.TheVariants as P
use Rattle.vx_numbers.specs.declared.decimal_type.DecimalType.TheVariants as D
use Rattle.vx_array_tree.specs.Body as B
use Rattle.vx_array_tree.specs.Encoding as E
use Rattle.vx_array_tree.specs.Metadata as M
use Rattle.vx_array_tree.specs.Place.{Place, first_place, second_place}
use Rattle.vx_array_tree.specs.Refused.{IsMisshaped, HasBrokenContent}
use Rattle.vx_array_tree.specs.Sound.{IsSound}
use Rattle.vx_array_tree.specs.Table.{IsFair}
use Rattle.vx_array_tree.specs.Tree.{Tree}
use Rattle.vx_array_tree.proofs.Built.{sound_well_shaped}
use Rattle.vx_array_tree.proofs.LawsControls.{native_controlled, leaf, one_leaf}
use Rattle.vx_array_tree_tests.proofs.Samples.{array, buffer, bits, four, kind, u8s, u16s, number_type, flag_type, variant_type, numbers, unknown_rows, variants_over, variants, typed, flags, decimals, varbins, texts, dictionary, lists, views, fixed, listed, maps, i32s, unions}

not_false : false ≡ true → ⊥
not_false e = cc

-- An array's root breaks the rules of its shape,
abbrev BreaksShape : Tree → Type 0
BreaksShape t = IsMisshaped (label t) (below t)

-- or those of its content, where its shape is right and it is known where rows are.
abbrev BreaksContent : Tree → Type 0
BreaksContent t = HasBrokenContent (label t) (below t)

-- Neither is sound.
shape_unsound : (t : Tree) → BreaksShape t → IsSound t → ⊥
shape_unsound (node h ts) b s = b (sound_well_shaped h ts s.0)

content_unsound : (t : Tree) → BreaksContent t → IsSound t → ⊥
content_unsound (node h ts) b s = b.broken s.0.content

-- ---- content

-- A code that names no value.
code_past_values : BreaksContent (dictionary 3)
code_past_values = record {
  shaped = record { fair = refl; planned = refl; allows = λ e. refl; takes = tt; holds = tt };
  controlled = native_controlled _ _ _ ((tt, one_leaf), ((tt, one_leaf), tt));
  broken = λ c. (let x = c 3 (omega arith) refl in absurd (omega (arith, x.within)));
}

-- Offsets that fall.
decreasing_offsets : BreaksContent (lists (0 ∷ 2 ∷ 1 ∷ 3 ∷ []))
decreasing_offsets = record {
  shaped = record { fair = refl; planned = refl; allows = λ e. absurd (omega arith); takes = tt; holds = tt };
  controlled = native_controlled _ _ _ (leaf, one_leaf);
  broken = λ c. (let x = c.rising 1 (omega arith) in absurd (omega (arith, x)));
}

-- A last offset past the elements, and past the bytes.
offset_past_elements : BreaksContent (lists (0 ∷ 2 ∷ 2 ∷ 4 ∷ []))
offset_past_elements = record {
  shaped = record { fair = refl; planned = refl; allows = λ e. absurd (omega arith); takes = tt; holds = tt };
  controlled = native_controlled _ _ _ (leaf, one_leaf);
  broken = λ c. (let x = c.within in absurd (omega (arith, x)));
}

offset_past_bytes : BreaksContent (varbins (0 ∷ 2 ∷ 2 ∷ 4 ∷ []) (codes "abc"))
offset_past_bytes = record {
  shaped = record { fair = refl; planned = refl; allows = λ e. absurd (omega arith); takes = tt; holds = tt };
  controlled = native_controlled _ _ _ one_leaf;
  broken = λ c. (let x = c.offsets.within in absurd (omega (arith, x)));
}

-- A text that is none.
no_text : BreaksContent (varbins (0 ∷ 2 ∷ 2 ∷ 3 ∷ []) (97 ∷ 255 ∷ 99 ∷ []))
unfolding is_utf8 chars encode
no_text = record {
  shaped = record { fair = refl; planned = refl; allows = λ e. absurd (omega arith); takes = tt; holds = tt };
  controlled = native_controlled _ _ _ one_leaf;
  broken = λ c. (let x : false ≡ true = c.texts 0 (omega arith) refl in not_false x);
}

-- A view past the elements in a valid row.
view_past_elements : BreaksContent (views false NonNullable (1 ∷ 3 ∷ []) (2 ∷ 1 ∷ []) [])
view_past_elements = record {
  shaped = record { fair = record { offsets = refl; sizes = refl }; planned = refl; allows = λ e. absurd (omega arith); takes = tt; holds = tt };
  controlled = native_controlled _ _ _ (leaf, (leaf, one_leaf));
  broken = λ c. (let x = c 1 (omega arith) refl in absurd (omega (arith, x.within)));
}

-- A tag that the type has not.
other_tag : BreaksContent (unions (7 ∷ 9 ∷ 5 ∷ []))
other_tag = record {
  shaped = record { fair = tt; planned = refl; allows = tt; takes = tt; holds = tt };
  controlled = native_controlled _ _ _ ((tt, one_leaf), (leaf, ((tt, one_leaf), one_leaf)));
  broken = λ c. (let x = c 0 (omega arith) refl in not_false x.named);
}

-- A wrong prefix in a valid row.
wrong_prefix : BreaksContent (texts 21 98)
wrong_prefix = record {
  shaped = record { fair = tt; planned = refl; allows = λ e. refl; takes = tt; holds = record { length_is = refl; aligned = omega arith } };
  controlled = native_controlled _ _ _ one_leaf;
  broken = λ c. (let x = c 4 (omega arith) refl in none-some _ x.1);
}

-- ---- shape

abbrev first_len : Option (List Place) → ℕ
first_len None = 0
first_len (Some ps) = (first_place ps).len

-- Seven elements for two lists of the size 3.
seven_elements : BreaksShape (fixed 3 2 (1 ∷ 2 ∷ 3 ∷ 4 ∷ 5 ∷ 6 ∷ 7 ∷ []))
seven_elements s = let x : 6 ≡ 7 = ap first_len s.planned in absurd (omega (arith, x))

-- A validity where no row may be null.
validity_for_all : BreaksShape (flags NonNullable)
validity_for_all s = let x = s.allows refl in absurd (cc)

-- Codes that may be null where no row may.
codes_null : BreaksShape (array (number_type P.U16 NonNullable) 2 (B.dict (record { all_values_referenced = false })) (u8s Nullable (0 ∷ 1 ∷ []) (bits 2 1 ∷ []) ∷ u16s (3 ∷ 4 ∷ []) ∷ []))
codes_null s = let x = s.allows refl in absurd (cc)

-- Maps over lists that are no list view.
other_entries : BreaksShape (maps listed)
other_entries s = s.takes

-- Three numbers of four bytes in eleven bytes; and an alignment that is too small.
short_buffer : BreaksShape (array (number_type P.I32 NonNullable) 3 (B.primitive (record { values = buffer (1 ∷ 0 ∷ 0 ∷ 0 ∷ 2 ∷ 0 ∷ 0 ∷ 0 ∷ 3 ∷ 0 ∷ 0 ∷ []) 2 })) [])
short_buffer s = let x : 11 ≡ 12 = s.holds.length_is in absurd (omega (arith, x))

small_alignment : BreaksShape (decimals D.I32 (1 ∷ 0 ∷ 0 ∷ 0 ∷ []) 1 1)
small_alignment s = let x = s.holds.aligned in absurd (omega (arith, x))

-- Three numbers, and five, where there are four rows.
twelve_bytes : BreaksShape (array (number_type P.I32 NonNullable) 4 (B.primitive (record { values = buffer (four (1 ∷ 2 ∷ 3 ∷ [])) 2 })) [])
twelve_bytes s = let x : 12 ≡ 16 = s.holds.length_is in absurd (omega (arith, x))

twenty_bytes : BreaksShape (array (number_type P.I32 NonNullable) 4 (B.primitive (record { values = buffer (four (1 ∷ 2 ∷ 3 ∷ 4 ∷ 5 ∷ [])) 2 })) [])
twenty_bytes s = let x : 20 ≡ 16 = s.holds.length_is in absurd (omega (arith, x))

-- Eight bits for nine flags.
few_bits : BreaksShape (array (flag_type NonNullable) 9 (B.bool (record { bits = buffer (1 ∷ []) 0; offset = 0 })) [])
few_bits s = let x = s.holds in absurd (omega (arith, x))

-- Nulls of another type.
typed_nulls : BreaksShape (array (number_type P.I32 Nullable) 3 B.null [])
typed_nulls s = none-some _ s.planned

-- ---- variants

abbrev second_len : Option (List Place) → ℕ
second_len None = 0
second_len (Some ps) = (second_place ps).len

abbrev first_nullability : Option (List Place) → Nullability
first_nullability None = Nullable
first_nullability (Some ps) = nullability (first_place ps).dtype

abbrev is_of_variants : Typ → Bool
is_of_variants (node (K.variant m) ts) = true
is_of_variants _ = false

abbrev first_of_variants : Option (List Place) → Bool
first_of_variants None = false
first_of_variants (Some ps) = is_of_variants (first_place ps).dtype

-- A typed child of four rows over two variants.
long_typed : BreaksShape (variants (numbers ∷ []))
long_typed s = let x : 2 ≡ 4 = ap second_len s.planned in absurd (omega (arith, x))

-- A core that is none of variants, and one that may be null where the variants may not.
core_of_numbers : BreaksShape (variants_over Nullable (i32s Nullable (1 ∷ 2 ∷ []) []) [])
core_of_numbers s = let x : true ≡ false = ap first_of_variants s.planned in absurd (cc)

null_core : BreaksShape (variants_over NonNullable (unknown_rows (variant_type Nullable)) [])
null_core s = let x : NonNullable ≡ Nullable = ap first_nullability s.planned in absurd (cc)

-- No core, and a child beside the typed one.
no_core : BreaksShape (array (variant_type Nullable) 2 B.variant [])
no_core s = none-some _ s.planned

two_typed : BreaksShape (variants (typed ∷ typed ∷ []))
two_typed s = none-some _ s.planned

-- ---- metadata

-- An offset of a whole byte.
whole_byte : IsFair E.bool (M.bool 8) → ⊥
whole_byte f = absurd (omega (arith, f))

-- Codes, offsets and sizes that are floats.
float_codes : IsFair E.dict (M.dict (record { values_len = 3; codes_ptype = P.F32; nullable_codes = NonNullable; all_values_referenced = false })) → ⊥
float_codes f = not_false f

float_offsets : IsFair E.list (M.list (record { elements_len = 3; offset_ptype = P.F64 })) → ⊥
float_offsets f = not_false f

float_sizes : IsFair E.listview (M.listview (record { elements_len = 3; offset_ptype = P.U8; size_ptype = P.F16 })) → ⊥
float_sizes f = not_false f.sizes

-- A list without a type of its elements.
no_type : IsFair E.variant (M.variant (Some (kind (K.list NonNullable)))) → ⊥
no_type f = let x : 0 ≡ 1 = f.0 in absurd (omega (arith, x))

-- ---- codes

-- Codes that are floats, in a whole dictionary.
abbrev float_dictionary : Tree
float_dictionary =
    array (number_type P.U16 NonNullable) 1 (B.dict (record { all_values_referenced = false }))
    (array (number_type P.F32 NonNullable) 1 (B.primitive (record { values = buffer (0 ∷ 0 ∷ 0 ∷ 0 ∷ []) 2 })) [] ∷ u16s (3 ∷ []) ∷ [])

float_codes_refused : BreaksShape float_dictionary
float_codes_refused s = not_false s.fair
