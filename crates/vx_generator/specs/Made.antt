-- The table of a seed, as a tree of arrays.
use Rattle.std.specs.Prelude.{ℕ, suc, ◌-◌, List, [], ◌∷◌, ◌++◌, false, codes, length, replicate, sum_by, take}
use Rattle.std.specs.Int.{w32, to_le_bytes}
use Rattle.vx_buffer.specs.Buffer.{Buffer}
use Rattle.vx_trees.specs.Rose.{node, end, more, roses_of}
use Rattle.vx_types.specs.Kind.{boolean, list, primitive, structure, utf8}
use Rattle.vx_types.specs.Parts.{Fields}
use Rattle.vx_types.specs.Typ.{Typ}
use Rattle.vx_types.specs.declared.nullability.Nullability.TheVariants.{Nullable, NonNullable}
use Rattle.vx_numbers.specs.declared.ptype.PType.TheVariants.{I64, U8, U16, U32}
use Rattle.vx_array_tree.specs.Body as B
use Rattle.vx_array_tree.specs.Place.{numbers}
use Rattle.vx_array_tree.specs.Tree.{Tree, buffers, untold}
use Rattle.vx_generator.specs.Columns.{Columns, columns}

-- A buffer of these bytes, aligned to two to this exponent.
abbrev pub buffer : List ℕ → ℕ → Buffer
buffer bytes exponent = record { bytes = bytes; exponent = exponent }

-- A bit for each row: whether its number is there.
abbrev pub flags_tree : List ℕ → ℕ → Tree
flags_tree bits n = node (untold (node (boolean NonNullable) end) n (B.bool (record { bits = buffer bits 0; offset = 0 }))) end

-- The type of the field "a": signed numbers of 8 bytes, which may be null.
abbrev pub numbers_type : Typ
numbers_type = node (primitive I64 Nullable) end

-- Its column: the numbers, over the validity that says which of them are there.
abbrev pub numbers_tree : List ℕ → List ℕ → ℕ → Tree
numbers_tree bytes bits n = node (untold numbers_type n (B.primitive (record { values = buffer bytes 3 }))) (more (flags_tree bits n) end)

-- The view of a text of at most 12 bytes: its length in four bytes, the text, and zeros to the view's end.
abbrev short_view : List ℕ → List ℕ
short_view text = to_le_bytes w32 (length text) ++ text ++ replicate (12 - length text) 0

-- The view of a longer text: its length, its first four bytes, the index of the buffer in which it stands and its
-- offset there, both 0.
abbrev long_view : List ℕ → List ℕ
long_view text = to_le_bytes w32 (length text) ++ take 4 text ++ to_le_bytes w32 0 ++ to_le_bytes w32 0

-- The one text that is too long to stand in its view.
unfoldable pub long_text : List ℕ
long_text = codes "a long name of a tree"

-- The views of the five texts.
unfoldable pub views : List ℕ
views = short_view (codes "ash") ++ short_view (codes "birch") ++ short_view (codes "cedar") ++ short_view (codes "oak") ++ long_view long_text

-- The type of the field "b": texts, none of them null.
abbrev pub texts_type : Typ
texts_type = node (utf8 NonNullable) end

-- The five texts, of which the last stands in a buffer of its own.
abbrev pub texts_tree : Tree
texts_tree = node (untold texts_type 5 (B.varbinview (record { buffers = buffer long_text 0 ∷ []; views = buffer views 4 }))) end

-- One code of a byte for each row.
abbrev pub codes_tree : List ℕ → ℕ → Tree
codes_tree bytes n = node (untold (numbers U8) n (B.primitive (record { values = buffer bytes 0 }))) end

-- The column of texts: a dictionary of the codes over the five.
abbrev pub names_tree : List ℕ → ℕ → Tree
names_tree bytes n = node (untold texts_type n (B.dict (record { all_values_referenced = false }))) (more (codes_tree bytes n) (more texts_tree end))

-- The type of the field "c": lists of unsigned numbers of two bytes, none of them null.
abbrev pub lists_type : Typ
lists_type = node (list NonNullable) (more (numbers U16) end)

-- The elements of all lists, one row's after the other's.
abbrev pub elements_tree : List ℕ → ℕ → Tree
elements_tree bytes count = node (untold (numbers U16) count (B.primitive (record { values = buffer bytes 1 }))) end

-- The offsets that split them, of four bytes, one more than rows.
abbrev pub offsets_tree : List ℕ → ℕ → Tree
offsets_tree bytes n = node (untold (numbers U32) (suc n) (B.primitive (record { values = buffer bytes 2 }))) end

-- The column of lists, by their elements and offsets.
abbrev pub lists_tree : List ℕ → ℕ → List ℕ → ℕ → Tree
lists_tree elements count offsets n = node (untold lists_type n B.list) (more (elements_tree elements count) (more (offsets_tree offsets n) end))

-- The fields' names and types.
abbrev pub made_fields : Fields
made_fields = record {
  names = codes "a" ∷ codes "b" ∷ codes "c" ∷ [];
  types = numbers_type ∷ texts_type ∷ lists_type ∷ [];
}

-- The table's type: structures of the three fields, none of them null.
abbrev pub made_type : Typ
made_type = node (structure made_fields.names NonNullable) (roses_of made_fields.types)

-- The table of these columns, with this number of rows.
abbrev pub table_tree : Columns → ℕ → Tree
table_tree c n =
    node (untold made_type n B.struct)
    (more (numbers_tree c.numbers c.validity n) (more (names_tree c.codes n) (more (lists_tree c.elements c.count c.offsets n) end)))

-- The table of a seed and a number of rows.
unfoldable pub made : ℕ → ℕ → Tree
made seed rows = table_tree (columns seed rows rows) rows

-- The total length of an array's buffers.
abbrev pub data_len : Tree → ℕ
data_len t = sum_by (λ b. length b.bytes) (buffers t)
