-- Samples of each encoding are sound: the rules can be kept.
use Rattle.std.proofs.Common.{ℕ, zero, suc, ◌≡◌, ◌<◌, ◌≤◌, ◌*◌, List, [], ◌∷◌, Some, refl, subst, arith, true, false, IsTrue, length, replicate, slice_get, codes}
use Rattle.std.proofs.lemmas.Bool.{false≢true}
use Rattle.std.proofs.lemmas.Option.{same_Some}
use Rattle.std.specs.Str.{is_utf8, chars}
use lib.Utf8.{encode}
use Rattle.vx_types.specs.Content.{IsText}
use Rattle.vx_types.specs.Typ.{Typ}
use Rattle.vx_numbers.specs.declared.decimal_type.DecimalType.TheVariants as D
use Rattle.vx_types.specs.declared.nullability.Nullability.{Nullability}
use Rattle.vx_types.specs.declared.nullability.Nullability.TheVariants.{Nullable, NonNullable}
use Rattle.vx_numbers.specs.declared.ptype.PType.TheVariants as P
use Rattle.vx_scalars.proofs.LawsStats.{none_fit}
use Rattle.vx_array_tree.specs.Encoding as E
use Rattle.vx_array_tree.specs.Encodings.Dicts as Dicts
use Rattle.vx_array_tree.specs.Encodings.ListViews as ListViews
use Rattle.vx_array_tree.specs.Encodings.Unions as Unions
use Rattle.vx_array_tree.specs.Encodings.VarBins as VarBins
use Rattle.vx_array_tree.specs.Rows.{Rows, IsIndex, IsThere, index_at, validity}
use Rattle.vx_array_tree.specs.Sound.{IsSound, IsControlledBy, HasNoForeign}
use Rattle.vx_array_tree.specs.Table.{Content}
use Rattle.vx_array_tree.specs.Tree.{Tree, Trees, rows_of, rows_below}
use Rattle.vx_array_tree.proofs.LawsControls.{native_controlled, leaf, one_leaf}
use Rattle.vx_trees.specs.Rose.{label, below}
use Rattle.vx_array_tree_tests.proofs.Samples.{bits, four, two, number_type, i32s, u16s, u8s, long_text, nulls, flags, flags_from, numbers, decimals, hundreds, varbins, texts, words, dictionary, lists, views, fixed, entry, entries, listed, maps, empty_structs, structs, unions, days, lifted_values, unknown_rows, variants_over, variants, typed, known, variant_values}

-- What holds of the first indices, one by one.
pub below_two : (P : ℕ → Type 0) → P 0 → P 1 → (i : ℕ) → i < 2 → P i
below_two P a b zero l = a
below_two P a b (suc zero) l = b
below_two P a b (suc (suc i)) l = absurd (omega arith)

pub below_three : (P : ℕ → Type 0) → P 0 → P 1 → P 2 → (i : ℕ) → i < 3 → P i
below_three P a b c zero l = a
below_three P a b c (suc zero) l = b
below_three P a b c (suc (suc zero)) l = c
below_three P a b c (suc (suc (suc i))) l = absurd (omega arith)

pub below_four : (P : ℕ → Type 0) → P 0 → P 1 → P 2 → P 3 → (i : ℕ) → i < 4 → P i
below_four P a b c d zero l = a
below_four P a b c d (suc zero) l = b
below_four P a b c d (suc (suc zero)) l = c
below_four P a b c d (suc (suc (suc zero))) l = d
below_four P a b c d (suc (suc (suc (suc i)))) l = absurd (omega arith)

pub not_there : Some false ≡ Some true → ⊥
not_there e = let q : false ≡ true = cc in absurd (cc)

-- ---- flags and numbers

pub bits_sound : (n b : ℕ) → n ≤ 8 → IsSound (bits n b)
bits_sound n b h = (record { fair = omega arith; planned = refl; allows = λ e. absurd (omega arith); takes = tt; holds = omega arith; controlled = native_controlled _ _ _ tt; content = tt; stats = none_fit _ }, tt)

pub flags_sound : IsSound (flags Nullable)
flags_sound = (record { fair = omega arith; planned = refl; allows = λ e. refl; takes = tt; holds = omega arith; controlled = native_controlled _ _ _ one_leaf; content = tt; stats = none_fit _ }, (bits_sound 4 5 (omega arith), tt))

offset_flags_sound : IsSound (flags_from 2)
offset_flags_sound = (record { fair = omega arith; planned = refl; allows = λ e. absurd (omega arith); takes = tt; holds = omega arith; controlled = native_controlled _ _ _ tt; content = tt; stats = none_fit _ }, tt)

pub i32s_sound : (m : Nullability) (ns : List ℕ) → length (four ns) ≡ 4 * length ns → IsSound (i32s m ns [])
i32s_sound m ns h = (record { fair = tt; planned = refl; allows = λ e. absurd (omega arith); takes = tt; holds = record { length_is = h; aligned = omega arith }; controlled = native_controlled _ _ _ tt; content = tt; stats = none_fit _ }, tt)

pub u16s_sound : (ns : List ℕ) → length (two ns) ≡ 2 * length ns → IsSound (u16s ns)
u16s_sound ns h = (record { fair = tt; planned = refl; allows = λ e. absurd (omega arith); takes = tt; holds = record { length_is = h; aligned = omega arith }; controlled = native_controlled _ _ _ tt; content = tt; stats = none_fit _ }, tt)

pub u8s_sound : (m : Nullability) (ns : List ℕ) → length ns ≡ 1 * length ns → IsSound (u8s m ns [])
u8s_sound m ns h = (record { fair = tt; planned = refl; allows = λ e. absurd (omega arith); takes = tt; holds = record { length_is = h; aligned = omega arith }; controlled = native_controlled _ _ _ tt; content = tt; stats = none_fit _ }, tt)

pub numbers_sound : IsSound numbers
numbers_sound = (record { fair = tt; planned = refl; allows = λ e. refl; takes = tt; holds = record { length_is = refl; aligned = omega arith }; controlled = native_controlled _ _ _ one_leaf; content = tt; stats = none_fit _ }, (bits_sound 4 5 (omega arith), tt))

nulls_sound : (n : ℕ) → IsSound (nulls n)
nulls_sound n = (record { fair = tt; planned = refl; allows = tt; takes = tt; holds = tt; controlled = native_controlled _ _ _ tt; content = tt; stats = none_fit _ }, tt)

decimals_sound : IsSound hundreds
decimals_sound = (record { fair = tt; planned = refl; allows = λ e. absurd (omega arith); takes = tt; holds = record { length_is = refl; aligned = omega arith }; controlled = native_controlled _ _ _ tt; content = tt; stats = none_fit _ }, tt)

widest_decimal_sound : IsSound (decimals D.I256 (replicate 32 255) 4 1)
widest_decimal_sound = (record { fair = tt; planned = refl; allows = λ e. absurd (omega arith); takes = tt; holds = record { length_is = refl; aligned = omega arith }; controlled = native_controlled _ _ _ tt; content = tt; stats = none_fit _ }, tt)

-- ---- texts

abbrev offsets : Rows
offsets = rows_of (i32s NonNullable (0 ∷ 1 ∷ 2 ∷ 3 ∷ []) [])

words_offsets : VarBins.AreOffsets offsets 3 3
words_offsets = record {
  naturals = λ i l t. below_four (λ j. IsIndex offsets j) refl refl refl refl i (omega arith);
  rising = below_three (λ j. index_at offsets j ≤ index_at offsets (suc j)) (omega arith) (omega arith) (omega arith);
  within = omega arith;
}

words_are : (i : ℕ) → i < 3 → IsText (VarBins.bytes_at (codes "abc") offsets i)
unfolding is_utf8 chars encode
words_are i l = below_three (λ j. IsText (VarBins.bytes_at (codes "abc") offsets j)) refl refl refl i l

pub words_sound : IsSound words
words_sound = (
  record {
    fair = refl;
    planned = refl;
    allows = λ e. absurd (omega arith);
    takes = tt;
    holds = tt;
    controlled = native_controlled _ _ _ one_leaf;
    content = record { offsets = words_offsets; texts = λ i l t. words_are i l };
    stats = none_fit _;
  },
  (i32s_sound NonNullable (0 ∷ 1 ∷ 2 ∷ 3 ∷ []) refl, tt),
)

abbrev pub texts_content : (validity prefix : ℕ) → Type 0
texts_content validity prefix = Content (label (texts validity prefix)).dtype 5 (label (texts validity prefix)).body (rows_below (below (texts validity prefix)))

-- The valid rows name their texts.
texts_are : texts_content 21 97
unfolding is_utf8 chars encode
texts_are zero l t = (codes "hello", refl, refl)
texts_are (suc zero) l t = absurd (not_there t)
texts_are (suc (suc zero)) l t = (codes "world", refl, refl)
texts_are (suc (suc (suc zero))) l t = absurd (not_there t)
texts_are (suc (suc (suc (suc zero)))) l t = (long_text, refl, refl)
texts_are (suc (suc (suc (suc (suc i))))) l t = absurd (omega arith)

texts_sound : IsSound (texts 21 97)
texts_sound = (record { fair = tt; planned = refl; allows = λ e. refl; takes = tt; holds = record { length_is = refl; aligned = omega arith }; controlled = native_controlled _ _ _ one_leaf; content = texts_are; stats = none_fit _ }, (bits_sound 5 21 (omega arith), tt))

-- A wrong prefix in a row that is null is not looked at: 5 is 101, so that the last of the rows is null.
null_prefix : texts_content 5 98
unfolding is_utf8 chars encode
null_prefix zero l t = (codes "hello", refl, refl)
null_prefix (suc zero) l t = absurd (not_there t)
null_prefix (suc (suc zero)) l t = (codes "world", refl, refl)
null_prefix (suc (suc (suc zero))) l t = absurd (not_there t)
null_prefix (suc (suc (suc (suc zero)))) l t = absurd (not_there t)
null_prefix (suc (suc (suc (suc (suc i))))) l t = absurd (omega arith)

null_prefix_sound : IsSound (texts 5 98)
null_prefix_sound = (record { fair = tt; planned = refl; allows = λ e. refl; takes = tt; holds = record { length_is = refl; aligned = omega arith }; controlled = native_controlled _ _ _ one_leaf; content = null_prefix; stats = none_fit _ }, (bits_sound 5 5 (omega arith), tt))

-- ---- lists

list_offsets : VarBins.AreOffsets (rows_of (i32s NonNullable (0 ∷ 2 ∷ 2 ∷ 3 ∷ []) [])) 3 3
list_offsets =
    let o : Rows = rows_of (i32s NonNullable (0 ∷ 2 ∷ 2 ∷ 3 ∷ []) []) in
    record {
      naturals = λ i l t. below_four (λ j. IsIndex o j) refl refl refl refl i (omega arith);
      rising = below_three (λ j. index_at o j ≤ index_at o (suc j)) (omega arith) (omega arith) (omega arith);
      within = omega arith;
    }

-- Texts by the same offsets, of which the second is empty.
varbins_are : (i : ℕ) → i < 3 → IsText (VarBins.bytes_at (codes "abc") (rows_of (i32s NonNullable (0 ∷ 2 ∷ 2 ∷ 3 ∷ []) [])) i)
unfolding is_utf8 chars encode
varbins_are i l = below_three (λ j. IsText (VarBins.bytes_at (codes "abc") (rows_of (i32s NonNullable (0 ∷ 2 ∷ 2 ∷ 3 ∷ []) [])) j)) refl refl refl i l

varbins_sound : IsSound (varbins (0 ∷ 2 ∷ 2 ∷ 3 ∷ []) (codes "abc"))
varbins_sound = (
  record {
    fair = refl;
    planned = refl;
    allows = λ e. absurd (omega arith);
    takes = tt;
    holds = tt;
    controlled = native_controlled _ _ _ one_leaf;
    content = record { offsets = list_offsets; texts = λ i l t. varbins_are i l };
    stats = none_fit _;
  },
  (i32s_sound NonNullable (0 ∷ 2 ∷ 2 ∷ 3 ∷ []) refl, tt),
)

lists_sound : IsSound (lists (0 ∷ 2 ∷ 2 ∷ 3 ∷ []))
lists_sound = (
  record { fair = refl; planned = refl; allows = λ e. absurd (omega arith); takes = tt; holds = tt; controlled = native_controlled _ _ _ (leaf, one_leaf); content = list_offsets; stats = none_fit _ },
  (u16s_sound (1 ∷ 2 ∷ 3 ∷ []) refl, (i32s_sound NonNullable (0 ∷ 2 ∷ 2 ∷ 3 ∷ []) refl, tt)),
)

-- Three elements, of which the first list has the last two and the second the first.
abbrev ViewAt : List ℕ → List ℕ → ℕ → Type 0
ViewAt os ss i = ListViews.IsView (rows_of (i32s NonNullable (1 ∷ 2 ∷ 3 ∷ []) [])) (rows_of (u8s NonNullable os [])) (rows_of (u8s NonNullable ss [])) i

views_sound : IsSound (views true NonNullable (1 ∷ 0 ∷ []) (2 ∷ 1 ∷ []) [])
views_sound = (
  record {
    fair = record { offsets = refl; sizes = refl };
    planned = refl;
    allows = λ e. absurd (omega arith);
    takes = tt;
    holds = tt;
    controlled = native_controlled _ _ _ (leaf, (leaf, one_leaf));
    content = λ i l t. below_two (λ j. ViewAt (1 ∷ 0 ∷ []) (2 ∷ 1 ∷ []) j)
        (record { offset = λ u. refl; size = λ u. refl; within = omega arith }) (record { offset = λ u. refl; size = λ u. refl; within = omega arith }) i l;
    stats = none_fit _;
  },
  (i32s_sound NonNullable (1 ∷ 2 ∷ 3 ∷ []) refl, (u8s_sound NonNullable (1 ∷ 0 ∷ []) refl, (u8s_sound NonNullable (2 ∷ 1 ∷ []) refl, tt))),
)

-- A view of a row that is null is not looked at.
null_view : (i : ℕ) → i < 2 → IsThere (validity (rows_of (bits 2 1) ∷ [])) i → ViewAt (1 ∷ 3 ∷ []) (2 ∷ 1 ∷ []) i
null_view zero l t = record { offset = λ u. refl; size = λ u. refl; within = omega arith }
null_view (suc zero) l t = absurd (not_there t)
null_view (suc (suc i)) l t = absurd (omega arith)

null_view_sound : IsSound (views false Nullable (1 ∷ 3 ∷ []) (2 ∷ 1 ∷ []) (bits 2 1 ∷ []))
null_view_sound = (
  record { fair = record { offsets = refl; sizes = refl }; planned = refl; allows = λ e. refl; takes = tt; holds = tt; controlled = native_controlled _ _ _ (leaf, (leaf, (leaf, one_leaf))); content = null_view; stats = none_fit _ },
  (i32s_sound NonNullable (1 ∷ 2 ∷ 3 ∷ []) refl, (u8s_sound NonNullable (1 ∷ 3 ∷ []) refl, (u8s_sound NonNullable (2 ∷ 1 ∷ []) refl, (bits_sound 2 1 (omega arith), tt)))),
)

fixed_sound : IsSound (fixed 3 2 (1 ∷ 2 ∷ 3 ∷ 4 ∷ 5 ∷ 6 ∷ []))
fixed_sound = (record { fair = tt; planned = refl; allows = λ e. absurd (omega arith); takes = tt; holds = tt; controlled = native_controlled _ _ _ one_leaf; content = tt; stats = none_fit _ }, (u16s_sound (1 ∷ 2 ∷ 3 ∷ 4 ∷ 5 ∷ 6 ∷ []) refl, tt))

-- Lists of the size 0 have no elements.
empty_fixed_sound : IsSound (fixed 0 5 [])
empty_fixed_sound = (record { fair = tt; planned = refl; allows = λ e. absurd (omega arith); takes = tt; holds = tt; controlled = native_controlled _ _ _ one_leaf; content = tt; stats = none_fit _ }, (u16s_sound [] refl, tt))

-- ---- structures, maps, unions, extensions

empty_structs_sound : IsSound empty_structs
empty_structs_sound = (record { fair = tt; planned = refl; allows = λ e. absurd (omega arith); takes = tt; holds = tt; controlled = native_controlled _ _ _ tt; content = tt; stats = none_fit _ }, tt)

structs_sound : IsSound structs
structs_sound = (record { fair = tt; planned = refl; allows = λ e. refl; takes = tt; holds = tt; controlled = native_controlled _ _ _ (leaf, one_leaf); content = tt; stats = none_fit _ }, (bits_sound 2 1 (omega arith), (u16s_sound (7 ∷ 8 ∷ []) refl, tt)))

-- One offset and the next, of one text.
one_offset : VarBins.AreOffsets (rows_of (i32s NonNullable (0 ∷ 1 ∷ []) [])) 1 1
one_offset =
    let o : Rows = rows_of (i32s NonNullable (0 ∷ 1 ∷ []) []) in
    record {
      naturals = λ i l t. below_two (λ j. IsIndex o j) refl refl i (omega arith);
      rising = λ i l. below_two (λ j. (j < 1 → index_at o j ≤ index_at o (suc j))) (λ k. omega arith) (λ k. absurd (omega arith)) i (omega arith) l;
      within = omega arith;
    }

one_text : (i : ℕ) → i < 1 → IsText (VarBins.bytes_at (codes "a") (rows_of (i32s NonNullable (0 ∷ 1 ∷ []) [])) i)
unfolding is_utf8 chars encode
one_text zero l = refl
one_text (suc i) l = absurd (omega arith)

entry_sound : IsSound entry
entry_sound = (
  record { fair = tt; planned = refl; allows = λ e. absurd (omega arith); takes = tt; holds = tt; controlled = native_controlled _ _ _ (leaf, ((tt, one_leaf), tt)); content = tt; stats = none_fit _ },
  (
    i32s_sound NonNullable (1 ∷ []) refl,
    (
      (
        record { fair = refl; planned = refl; allows = λ e. absurd (omega arith); takes = tt; holds = tt; controlled = native_controlled _ _ _ one_leaf; content = record { offsets = one_offset; texts = λ i l t. one_text i l }; stats = none_fit _ },
        (i32s_sound NonNullable (0 ∷ 1 ∷ []) refl, tt),
      ),
      tt,
    ),
  ),
)

one_view : (i : ℕ) → i < 1 → ListViews.IsView (rows_of entry) (rows_of (u8s NonNullable (0 ∷ []) [])) (rows_of (u8s NonNullable (1 ∷ []) [])) i
one_view zero l = record { offset = λ u. refl; size = λ u. refl; within = omega arith }
one_view (suc i) l = absurd (omega arith)

entries_sound : IsSound entries
entries_sound = (
  record { fair = record { offsets = refl; sizes = refl }; planned = refl; allows = λ e. absurd (omega arith); takes = tt; holds = tt; controlled = native_controlled _ _ _ ((tt, (leaf, ((tt, one_leaf), tt))), (leaf, one_leaf)); content = λ i l t. one_view i l; stats = none_fit _ },
  (entry_sound, (u8s_sound NonNullable (0 ∷ []) refl, (u8s_sound NonNullable (1 ∷ []) refl, tt))),
)

-- The entry stands in a list by offsets.
pub listed_sound : IsSound listed
listed_sound = (
  record { fair = refl; planned = refl; allows = λ e. absurd (omega arith); takes = tt; holds = tt; controlled = native_controlled _ _ _ ((tt, (leaf, ((tt, one_leaf), tt))), one_leaf); content = one_offset; stats = none_fit _ },
  (entry_sound, (i32s_sound NonNullable (0 ∷ 1 ∷ []) refl, tt)),
)

maps_sound : IsSound (maps entries)
maps_sound = (record { fair = tt; planned = refl; allows = tt; takes = tt; holds = tt; controlled = native_controlled _ _ _ ((tt, ((tt, (leaf, ((tt, one_leaf), tt))), (leaf, one_leaf))), tt); content = tt; stats = none_fit _ }, (entries_sound, tt))

tags_sound : (tag : ℕ) → IsSound (u8s Nullable (0 ∷ 9 ∷ tag ∷ []) (bits 3 5 ∷ []))
tags_sound tag = (record { fair = tt; planned = refl; allows = λ e. refl; takes = tt; holds = record { length_is = refl; aligned = omega arith }; controlled = native_controlled _ _ _ one_leaf; content = tt; stats = none_fit _ }, (bits_sound 3 5 (omega arith), tt))

-- What is asked of a row of unions whose third tag is this one.
abbrev MemberAt : ℕ → ℕ → Type 0
MemberAt tag i =
    IsThere (rows_of (u8s Nullable (0 ∷ 9 ∷ tag ∷ []) (bits 3 5 ∷ []))).valid i → Unions.HasMember (label (unions (0 ∷ 9 ∷ tag ∷ []))).dtype (rows_below (below (unions (0 ∷ 9 ∷ tag ∷ [])))) i

unions_sound_by : (tag : ℕ) → MemberAt tag 2 → IsSound (unions (0 ∷ 9 ∷ tag ∷ []))
unions_sound_by tag m = (
  record {
    fair = tt;
    planned = refl;
    allows = tt;
    takes = tt;
    holds = tt;
    controlled = native_controlled _ _ _ ((tt, one_leaf), (leaf, ((tt, one_leaf), one_leaf)));
    content = λ i l. below_three (λ j. MemberAt tag j) (λ t. record { tag = refl; named = refl }) (λ t. absurd (not_there t)) m i l;
    stats = none_fit _;
  },
  (tags_sound tag, (i32s_sound NonNullable (7 ∷ 8 ∷ 9 ∷ []) refl, (words_sound, (bits_sound 3 7 (omega arith), tt)))),
)

unions_sound : IsSound (unions (0 ∷ 9 ∷ 5 ∷ []))
unions_sound = unions_sound_by 5 (λ t. record { tag = refl; named = refl })

greatest_tag_sound : IsSound (unions (0 ∷ 9 ∷ 255 ∷ []))
greatest_tag_sound = unions_sound_by 255 (λ t. record { tag = refl; named = refl })

pub days_sound : IsSound days
days_sound = (record { fair = tt; planned = refl; allows = tt; takes = tt; holds = tt; controlled = native_controlled _ _ _ one_leaf; content = tt; stats = none_fit _ }, (i32s_sound NonNullable (1 ∷ 2 ∷ 3 ∷ 4 ∷ []) refl, tt))

-- ---- dictionaries

codes_sound : IsSound (u8s Nullable (0 ∷ 2 ∷ 9 ∷ 1 ∷ []) (bits 4 11 ∷ []))
codes_sound = (record { fair = tt; planned = refl; allows = λ e. refl; takes = tt; holds = record { length_is = refl; aligned = omega arith }; controlled = native_controlled _ _ _ one_leaf; content = tt; stats = none_fit _ }, (bits_sound 4 11 (omega arith), tt))

abbrev code_rows : Rows
code_rows = rows_of (u8s Nullable (0 ∷ 2 ∷ 9 ∷ 1 ∷ []) (bits 4 11 ∷ []))

codes_within : (i : ℕ) → i < 4 → IsThere code_rows.valid i → Dicts.IsCode (code_rows ∷ rows_of words ∷ []) i
codes_within zero l v = record { natural = refl; within = omega arith }
codes_within (suc zero) l v = record { natural = refl; within = omega arith }
codes_within (suc (suc zero)) l v = absurd (not_there v)
codes_within (suc (suc (suc zero))) l v = record { natural = refl; within = omega arith }
codes_within (suc (suc (suc (suc i)))) l v = absurd (omega arith)

dictionary_sound : IsSound (dictionary 1)
dictionary_sound = (record { fair = refl; planned = refl; allows = λ e. refl; takes = tt; holds = tt; controlled = native_controlled _ _ _ ((tt, one_leaf), ((tt, one_leaf), tt)); content = codes_within; stats = none_fit _ }, (codes_sound, (words_sound, tt)))

-- The codes 0 and 1, of which the second is null.
abbrev two_codes : Tree
two_codes = u8s Nullable (0 ∷ 1 ∷ []) (bits 2 1 ∷ [])

two_codes_sound : IsSound two_codes
two_codes_sound = (record { fair = tt; planned = refl; allows = λ e. refl; takes = tt; holds = record { length_is = refl; aligned = omega arith }; controlled = native_controlled _ _ _ one_leaf; content = tt; stats = none_fit _ }, (bits_sound 2 1 (omega arith), tt))

two_within : (values : Rows) → values.len ≡ 2 → (i : ℕ) → i < 2 → IsThere (rows_of two_codes).valid i → Dicts.IsCode (rows_of two_codes ∷ values ∷ []) i
two_within values e zero l v = record { natural = refl; within = omega (arith, e) }
two_within values e (suc zero) l v = absurd (not_there v)
two_within values e (suc (suc i)) l v = absurd (omega arith)

-- Values need not be nullable where codes are.
lifted_sound : IsSound (lifted_values NonNullable)
lifted_sound = (
  record { fair = refl; planned = refl; allows = λ e. refl; takes = tt; holds = tt; controlled = native_controlled _ _ _ ((tt, one_leaf), one_leaf); content = two_within _ refl; stats = none_fit _ },
  (two_codes_sound, (u16s_sound (3 ∷ 4 ∷ []) refl, tt)),
)

-- ---- variants

-- No child of variants is a control child, so that any may be foreign.
free : (d : Typ) (ts : Trees) → IsControlledBy E.variant d ts
free d ts = record { controls = λ i t e c. absurd (false≢true c); entries = tt }

unknown_sound : (d : Typ) → IsSound (unknown_rows d)
unknown_sound d = (record { fair = tt; planned = refl; allows = tt; takes = tt; holds = tt; controlled = native_controlled _ _ _ tt; content = tt; stats = none_fit _ }, tt)

bare_variants_sound : IsSound (variants [])
bare_variants_sound = (record { fair = tt; planned = refl; allows = tt; takes = tt; holds = tt; controlled = free _ _; content = tt; stats = none_fit _ }, (unknown_sound _, tt))

typed_sound : IsSound typed
typed_sound = (record { fair = tt; planned = refl; allows = λ e. refl; takes = tt; holds = record { length_is = refl; aligned = omega arith }; controlled = native_controlled _ _ _ one_leaf; content = tt; stats = none_fit _ }, (bits_sound 2 1 (omega arith), tt))

variants_sound : IsSound (variants (typed ∷ []))
variants_sound = (record { fair = (refl, tt); planned = refl; allows = tt; takes = tt; holds = tt; controlled = free _ _; content = tt; stats = none_fit _ }, (unknown_sound _, (typed_sound, tt)))

known_sound : IsSound known
known_sound = (record { fair = (refl, tt); planned = refl; allows = tt; takes = tt; holds = tt; controlled = free _ _; content = tt; stats = none_fit _ }, (unknown_sound _, (u16s_sound (5 ∷ 6 ∷ []) refl, tt)))

-- Variants may be the core of others, or a dictionary of them, and a typed child may be foreign.
over_core_sound : IsSound (variants_over Nullable known [])
over_core_sound = (record { fair = tt; planned = refl; allows = tt; takes = tt; holds = tt; controlled = free _ _; content = tt; stats = none_fit _ }, (known_sound, tt))

over_known_sound : IsSound (variants_over Nullable known (typed ∷ []))
over_known_sound = (record { fair = (refl, tt); planned = refl; allows = tt; takes = tt; holds = tt; controlled = free _ _; content = tt; stats = none_fit _ }, (known_sound, (typed_sound, tt)))

unknown_typed_sound : IsSound (variants_over Nullable known (unknown_rows (number_type P.I32 Nullable) ∷ []))
unknown_typed_sound = (record { fair = (refl, tt); planned = refl; allows = tt; takes = tt; holds = tt; controlled = free _ _; content = tt; stats = none_fit _ }, (known_sound, (unknown_sound _, tt)))

-- The codes alone say where a dictionary's rows are.
codes_control : (v : Tree) (i : ℕ) (t : Tree) → slice_get (two_codes ∷ v ∷ []) i ≡ Some t → IsTrue (Dicts.is_control i) → HasNoForeign t
codes_control v zero t e c = subst (λ (z : Tree). HasNoForeign z) (same_Some two_codes t e) (tt, one_leaf)
codes_control v (suc zero) t e c = absurd (false≢true c)
codes_control v (suc (suc i)) t e c = absurd (cc)

variant_values_sound : IsSound (variant_values NonNullable)
variant_values_sound = (
  record { fair = refl; planned = refl; allows = λ e. refl; takes = tt; holds = tt; controlled = record { controls = codes_control _; entries = tt }; content = two_within _ refl; stats = none_fit _ },
  (
    two_codes_sound,
    (
      (record { fair = (refl, tt); planned = refl; allows = tt; takes = tt; holds = tt; controlled = free _ _; content = tt; stats = none_fit _ }, (unknown_sound _, (u16s_sound (5 ∷ 6 ∷ []) refl, tt))),
      tt,
    ),
  ),
)

over_values_sound : IsSound (variants_over Nullable (variant_values NonNullable) (typed ∷ []))
over_values_sound = (record { fair = (refl, tt); planned = refl; allows = tt; takes = tt; holds = tt; controlled = free _ _; content = tt; stats = none_fit _ }, (variant_values_sound, (typed_sound, tt)))

-- Lists and structs may be typed children.
variant_lists_sound : IsSound (variants (fixed 3 2 (1 ∷ 2 ∷ 3 ∷ 4 ∷ 5 ∷ 6 ∷ []) ∷ []))
variant_lists_sound = (
  record { fair = ((refl, omega arith), ((refl, tt), tt)); planned = refl; allows = tt; takes = tt; holds = tt; controlled = free _ _; content = tt; stats = none_fit _ },
  (unknown_sound _, (fixed_sound, tt)),
)

variant_structs_sound : IsSound (variants (structs ∷ []))
unfolding is_utf8 chars encode
variant_structs_sound = (
  record { fair = (record { types = refl; texts = (refl, tt) }, ((refl, tt), tt)); planned = refl; allows = tt; takes = tt; holds = tt; controlled = free _ _; content = tt; stats = none_fit _ },
  (unknown_sound _, (structs_sound, tt)),
)
