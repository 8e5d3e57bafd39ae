-- The rows of each encoding's samples, and how many cells a row takes.
use Rattle.std.specs.Prelude.{ℕ, ◌≡◌, ◌-◌, ◌^◌, [], ◌∷◌, Some, None, false, true, map, replicate, codes, pos, negsuc, refl}
use Rattle.vx_trees.specs.Rose.{node, end, more}
use Rattle.vx_types.specs.Value as V
use Rattle.vx_types.specs.Value.{Value, lone, variant_of}
use Rattle.vx_numbers.specs.declared.decimal_type.DecimalType.TheVariants as D
use Rattle.vx_types.specs.declared.nullability.Nullability.TheVariants.{Nullable, NonNullable}
use Rattle.vx_numbers.specs.declared.ptype.PType.TheVariants as P
use Rattle.vx_array_tree.specs.Body as B
use Rattle.vx_array_tree.specs.Encodings.VarBinViews as VarBinViews
use Rattle.vx_array_tree.specs.Tree.{rows_of, row_at, valid_at, cells}
use Rattle.vx_array_tree_tests.proofs.Samples.{array, buffer, four, number_type, flag_type, i32s, first_rows, i32, u16, flag, null, tuple, utf8, nulls, flags, flags_from, numbers, decimals, hundreds, small_decimals, binaries, varbins, long_text, long_view, texts, dictionary, lists, views, fixed, entries, maps, empty_structs, structs, unions, days, lifted_values, list_of, variant_type, unknown_rows, variants_over, variants, typed, known, variant_values}

-- Each row is null, however many there are: none, or as many as an index can count.
nulls_are : first_rows 3 (nulls 3) ≡ null ∷ null ∷ null ∷ []
nulls_are = refl

no_nulls : (rows_of (nulls 0)).len ≡ 0
no_nulls = refl

most_nulls : (rows_of (nulls (2 ^ 64 - 1))).len ≡ 18446744073709551615
most_nulls = refl

first_null : row_at (nulls (2 ^ 64 - 1)) 0 ≡ null
first_null = refl

last_null : row_at (nulls (2 ^ 64 - 1)) 18446744073709551614 ≡ null
last_null = refl

flags_are : first_rows 4 (flags Nullable) ≡ flag true ∷ null ∷ flag false ∷ null ∷ []
flags_are = refl

-- 44 is 101100, read from its lowest bit; from an offset on, the first rows are later bits.
offset_flags_are : first_rows 5 (flags_from 2) ≡ flag true ∷ flag true ∷ flag false ∷ flag true ∷ flag false ∷ []
offset_flags_are = refl

-- Two zero bytes are a validity of nine rows that are all null.
none_there : first_rows 9 (array (flag_type NonNullable) 9 (B.bool (record { bits = buffer (0 ∷ 0 ∷ []) 0; offset = 0 })) []) ≡ replicate 9 (flag false)
none_there = refl

numbers_are : first_rows 4 numbers ≡ i32 1 ∷ null ∷ i32 3 ∷ null ∷ []
numbers_are = refl

numbers_stand : valid_at numbers 0 ≡ Some true
numbers_stand = refl

numbers_lack : valid_at numbers 1 ≡ Some false
numbers_lack = refl

integers_are : first_rows 4 (i32s NonNullable (1 ∷ 2 ∷ 3 ∷ 4 ∷ []) []) ≡ i32 1 ∷ i32 2 ∷ i32 3 ∷ i32 4 ∷ []
integers_are = refl

decimals_are : first_rows 5 hundreds ≡ map (λ n. lone (V.decimal (V.i128 (pos n)))) (100 ∷ 200 ∷ 300 ∷ 400 ∷ 500 ∷ [])
decimals_are = refl

-- Signed integers are in two's complement.
negative_decimals_are : first_rows 2 small_decimals ≡ lone (V.decimal (V.i8 (negsuc 0))) ∷ lone (V.decimal (V.i8 (negsuc 127))) ∷ []
negative_decimals_are = refl

-- The widest are kept by their bytes.
widest_decimal_is : row_at (decimals D.I256 (replicate 32 255) 4 1) 0 ≡ lone (V.decimal (V.i256 (replicate 32 255)))
widest_decimal_is = refl

varbins_are : first_rows 3 (varbins (0 ∷ 2 ∷ 2 ∷ 3 ∷ []) (codes "abc")) ≡ utf8 (codes "ab") ∷ utf8 [] ∷ utf8 (codes "c") ∷ []
varbins_are = refl

binary_is : row_at (binaries (four (0 ∷ 2 ∷ [])) (97 ∷ 255 ∷ [])) 0 ≡ lone (V.binary (97 ∷ 255 ∷ []))
binary_is = refl

-- Bytes take one cell and one for each of them: 9,999 are within ten thousand cells, one more are not.
most_cells : cells (binaries (0 ∷ 0 ∷ 0 ∷ 0 ∷ 15 ∷ 39 ∷ 0 ∷ 0 ∷ []) (replicate 9999 65)) 0 ≡ 10000
most_cells = refl

too_many_cells : cells (binaries (0 ∷ 0 ∷ 0 ∷ 0 ∷ 16 ∷ 39 ∷ 0 ∷ 0 ∷ []) (replicate 10000 65)) 0 ≡ 10001
too_many_cells = refl

texts_are : first_rows 5 (texts 21 97) ≡ utf8 (codes "hello") ∷ null ∷ utf8 (codes "world") ∷ null ∷ utf8 long_text ∷ []
texts_are = refl

-- A text takes one cell and one for each byte.
text_cells : cells (texts 21 97) 4 ≡ 37
text_cells = refl

-- A wrong prefix names no bytes, nor does a buffer that is missing or too short.
wrong_prefix : VarBinViews.bytes_at (record { buffers = buffer long_text 0 ∷ []; views = buffer (long_view 98) 4 }) 0 ≡ None
wrong_prefix = refl

no_buffer : VarBinViews.bytes_at (record { buffers = []; views = buffer (long_view 97) 4 }) 0 ≡ None
no_buffer = refl

short_buffer : VarBinViews.bytes_at (record { buffers = buffer (codes "a moderately") 0 ∷ []; views = buffer (long_view 97) 4 }) 0 ≡ None
short_buffer = refl

lists_are : first_rows 3 (lists (0 ∷ 2 ∷ 2 ∷ 3 ∷ [])) ≡ tuple (u16 1 ∷ u16 2 ∷ []) ∷ tuple [] ∷ tuple (u16 3 ∷ []) ∷ []
lists_are = refl

-- A list takes one cell, and its elements' cells.
list_cells : cells (lists (0 ∷ 2 ∷ 2 ∷ 3 ∷ [])) 0 ≡ 3
list_cells = refl

views_are : first_rows 2 (views false NonNullable (1 ∷ 0 ∷ []) (2 ∷ 1 ∷ []) []) ≡ tuple (i32 2 ∷ i32 3 ∷ []) ∷ tuple (i32 1 ∷ []) ∷ []
views_are = refl

fixed_are : first_rows 2 (fixed 3 2 (1 ∷ 2 ∷ 3 ∷ 4 ∷ 5 ∷ 6 ∷ [])) ≡ tuple (u16 1 ∷ u16 2 ∷ u16 3 ∷ []) ∷ tuple (u16 4 ∷ u16 5 ∷ u16 6 ∷ []) ∷ []
fixed_are = refl

-- Lists of the size 0 have rows, though no elements.
empty_fixed_are : first_rows 5 (fixed 0 5 []) ≡ tuple [] ∷ tuple [] ∷ tuple [] ∷ tuple [] ∷ tuple [] ∷ []
empty_fixed_are = refl

map_is : row_at (maps entries) 0 ≡ tuple (tuple (i32 1 ∷ utf8 (codes "a") ∷ []) ∷ [])
map_is = refl

empty_structs_are : first_rows 7 empty_structs ≡ replicate 7 (tuple [])
empty_structs_are = refl

structs_are : first_rows 2 structs ≡ tuple (u16 7 ∷ []) ∷ null ∷ []
structs_are = refl

unions_are : first_rows 3 (unions (0 ∷ 9 ∷ 5 ∷ [])) ≡ node (V.union 0) (more (i32 7) end) ∷ null ∷ node (V.union 5) (more (utf8 (codes "c")) end) ∷ []
unions_are = refl

greatest_tag_is : row_at (unions (0 ∷ 9 ∷ 255 ∷ [])) 2 ≡ node (V.union 255) (more (flag true) end)
greatest_tag_is = refl

union_cells : cells (unions (0 ∷ 9 ∷ 5 ∷ [])) 2 ≡ 3
union_cells = refl

days_are : first_rows 2 days ≡ i32 1 ∷ i32 2 ∷ []
days_are = refl

dictionary_is : first_rows 4 (dictionary 1) ≡ utf8 (codes "a") ∷ utf8 (codes "c") ∷ null ∷ utf8 (codes "b") ∷ []
dictionary_is = refl

lifted_are : first_rows 2 (lifted_values NonNullable) ≡ u16 3 ∷ null ∷ []
lifted_are = refl

-- ---- variants

abbrev opaque : Value
opaque = lone V.opaque

abbrev one : Value
one = variant_of (number_type P.I32 Nullable) (i32 1)

abbrev word : ℕ → Value
word n = variant_of (number_type P.U16 NonNullable) (u16 n)

-- Without a typed child the rows are the core's, known or not.
bare_variants_are : first_rows 2 (variants []) ≡ opaque ∷ opaque ∷ []
bare_variants_are = refl

known_variants_are : first_rows 2 (variants_over Nullable known []) ≡ word 5 ∷ word 6 ∷ []
known_variants_are = refl

-- A valid typed row stands over the core's. Where it is null, the core's row is left: here an opaque one, a valid one
-- and a null.
over_unknown : first_rows 2 (variants (typed ∷ [])) ≡ one ∷ opaque ∷ []
over_unknown = refl

over_known : first_rows 2 (variants_over Nullable known (typed ∷ [])) ≡ one ∷ word 6 ∷ []
over_known = refl

over_null : first_rows 2 (variants_over Nullable (variant_values NonNullable) (typed ∷ [])) ≡ one ∷ null ∷ []
over_null = refl

-- So it is known whether a row is valid.
typed_stands : valid_at (variants (typed ∷ [])) 0 ≡ Some true
typed_stands = refl

unknown_left : valid_at (variants (typed ∷ [])) 1 ≡ None
unknown_left = refl

null_left : valid_at (variants_over Nullable (variant_values NonNullable) (typed ∷ [])) 1 ≡ Some false
null_left = refl

-- A list over an opaque core is one of variants.
variant_lists_are : row_at (variants (fixed 3 2 (1 ∷ 2 ∷ 3 ∷ 4 ∷ 5 ∷ 6 ∷ []) ∷ [])) 1 ≡ variant_of (list_of (variant_type NonNullable)) (tuple (word 4 ∷ word 5 ∷ word 6 ∷ []))
variant_lists_are = refl

-- A struct over such a core is opaque, though valid.
structure_hidden : row_at (variants (structs ∷ [])) 0 ≡ opaque
structure_hidden = refl

hidden_stands : valid_at (variants (structs ∷ [])) 0 ≡ Some true
hidden_stands = refl

-- A typed opaque row hides the core's.
unknown_hides : row_at (variants_over Nullable known (unknown_rows (number_type P.I32 Nullable) ∷ [])) 0 ≡ opaque
unknown_hides = refl

unknown_typed : valid_at (variants_over Nullable known (unknown_rows (number_type P.I32 Nullable) ∷ [])) 0 ≡ None
unknown_typed = refl

-- A row takes the greatest of its own cells, the core's and the typed row's, in this order here.
own_cells : cells (variants (fixed 3 2 (1 ∷ 2 ∷ 3 ∷ 4 ∷ 5 ∷ 6 ∷ []) ∷ [])) 0 ≡ 8
own_cells = refl

core_cells : cells (variants_over Nullable (variants (fixed 3 2 (1 ∷ 2 ∷ 3 ∷ 4 ∷ 5 ∷ 6 ∷ []) ∷ [])) (typed ∷ [])) 0 ≡ 8
core_cells = refl

typed_cells : cells (variants (structs ∷ [])) 0 ≡ 2
typed_cells = refl
