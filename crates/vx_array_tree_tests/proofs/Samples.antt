-- Arrays of each encoding.
use Rattle.std.specs.Prelude.{ℕ, zero, suc, List, [], ◌∷◌, ◌++◌, Bool, true, false, codes, pos, length}
use Rattle.vx_buffer.specs.Buffer.{Buffer}
use Rattle.vx_trees.specs.Rose.{node, end, more, roses_of}
use Rattle.vx_types.specs.Kind as K
use Rattle.vx_types.specs.Typ.{Typ}
use Rattle.vx_types.specs.Value as V
use Rattle.vx_types.specs.Value.{Value, lone}
use Rattle.vx_types.specs.declared.nullability.Nullability.{Nullability}
use Rattle.vx_types.specs.declared.nullability.Nullability.TheVariants.{Nullable, NonNullable}
use Rattle.vx_numbers.specs.declared.ptype.PType.{PType}
use Rattle.vx_numbers.specs.declared.ptype.PType.TheVariants as P
use Rattle.vx_numbers.specs.declared.decimal_type.DecimalType.{DecimalType}
use Rattle.vx_numbers.specs.declared.decimal_type.DecimalType.TheVariants as D
use Rattle.vx_numbers.specs.declared.value.PValue.TheVariants as N
use Rattle.vx_scalars.specs.Stats.{Stats, Told, no_stats}
use Rattle.vx_scalars.specs.declared.precision.Precision.TheVariants.{Exact, Inexact}
use Rattle.vx_array_tree.specs.Body.{Body}
use Rattle.vx_array_tree.specs.Body as B
use Rattle.vx_array_tree.specs.Tree.{Tree, row_at, untold, with_stats}

-- ---- parts

abbrev pub array : Typ → ℕ → Body → List Tree → Tree
array d n b ts = node (untold d n b) (roses_of ts)

abbrev pub buffer : List ℕ → ℕ → Buffer
buffer bs e = record { bytes = bs; exponent = e }

abbrev pub kind : K.Kind → Typ
kind k = node k end

abbrev pub number_type : PType → Nullability → Typ
number_type p m = kind (K.primitive p m)

abbrev pub flag_type : Nullability → Typ
flag_type m = kind (K.boolean m)

abbrev pub text_type : Nullability → Typ
text_type m = kind (K.utf8 m)

-- Each number in two bytes, and in four.
abbrev pub two : List ℕ → List ℕ
two [] = []
two (n ∷ ns) = n ∷ 0 ∷ two ns

abbrev pub four : List ℕ → List ℕ
four [] = []
four (n ∷ ns) = n ∷ 0 ∷ 0 ∷ 0 ∷ four ns

-- The bits of a byte as a validity of n rows.
abbrev pub bits : ℕ → ℕ → Tree
bits n b = array (flag_type NonNullable) n (B.bool (record { bits = buffer (b ∷ []) 0; offset = 0 })) []

abbrev pub i32s : Nullability → List ℕ → List Tree → Tree
i32s m ns ts = array (number_type P.I32 m) (length ns) (B.primitive (record { values = buffer (four ns) 2 })) ts

abbrev pub u16s : List ℕ → Tree
u16s ns = array (number_type P.U16 NonNullable) (length ns) (B.primitive (record { values = buffer (two ns) 1 })) []

abbrev pub u8s : Nullability → List ℕ → List Tree → Tree
u8s m ns ts = array (number_type P.U8 m) (length ns) (B.primitive (record { values = buffer ns 0 })) ts

-- ---- rows

abbrev pub rows_from : Tree → ℕ → ℕ → List Value
rows_from t i zero = []
rows_from t i (suc k) = row_at t i ∷ rows_from t (suc i) k

-- The first rows of an array.
abbrev pub first_rows : ℕ → Tree → List Value
first_rows k t = rows_from t 0 k

abbrev pub i32 : ℕ → Value
i32 n = lone (V.number (N.I32 (pos n)))

abbrev pub u16 : ℕ → Value
u16 n = lone (V.number (N.U16 n))

abbrev pub flag : Bool → Value
flag b = lone (V.bool b)

abbrev pub null : Value
null = lone V.null

abbrev pub tuple : List Value → Value
tuple vs = node V.tuple (roses_of vs)

abbrev pub utf8 : List ℕ → Value
utf8 bs = lone (V.utf8 bs)

-- ---- plain arrays

abbrev pub nulls : ℕ → Tree
nulls n = array (kind K.null) n B.null []

-- Four flags by one byte, of which every second row is null; the same from the third bit on.
abbrev pub flags : Nullability → Tree
flags m = array (flag_type m) 4 (B.bool (record { bits = buffer (1 ∷ []) 0; offset = 0 })) (bits 4 5 ∷ [])

abbrev pub flags_from : ℕ → Tree
flags_from offset = array (flag_type NonNullable) 5 (B.bool (record { bits = buffer (44 ∷ []) 0; offset = offset })) []

abbrev pub numbers : Tree
numbers = i32s Nullable (1 ∷ 2 ∷ 3 ∷ 4 ∷ []) (bits 4 5 ∷ [])

abbrev pub sixteen : ℕ → ℕ → List ℕ
sixteen a b = a ∷ b ∷ 0 ∷ 0 ∷ 0 ∷ 0 ∷ 0 ∷ 0 ∷ 0 ∷ 0 ∷ 0 ∷ 0 ∷ 0 ∷ 0 ∷ 0 ∷ 0 ∷ []

-- Decimals of ten digits, two of them after the point.
abbrev pub decimals : DecimalType → List ℕ → ℕ → ℕ → Tree
decimals w bs e n = array (kind (K.decimal 10 (pos 2) NonNullable)) n (B.decimal (record { values = buffer bs e; values_type = w })) []

-- 1.00, 2.00, 3.00, 4.00 and 5.00.
abbrev pub hundreds : Tree
hundreds = decimals D.I128 (sixteen 100 0 ++ (sixteen 200 0 ++ (sixteen 44 1 ++ (sixteen 144 1 ++ sixteen 244 1)))) 4 5

-- -0.01 and -1.28.
abbrev pub small_decimals : Tree
small_decimals = decimals D.I8 (255 ∷ 128 ∷ []) 0 2

-- One row of bytes, by these bytes of two offsets.
abbrev pub binaries : List ℕ → List ℕ → Tree
binaries offsets bs =
    array (kind (K.binary NonNullable)) 1 (B.varbin (record { bytes = buffer bs 0 })) (array (number_type P.I32 NonNullable) 2 (B.primitive (record { values = buffer offsets 2 })) [] ∷ [])

-- Three texts by these offsets in these bytes.
abbrev pub varbins : List ℕ → List ℕ → Tree
varbins offsets bs = array (text_type NonNullable) 3 (B.varbin (record { bytes = buffer bs 0 })) (i32s NonNullable offsets [] ∷ [])

abbrev pub long_text : List ℕ
long_text = codes "a moderately long string for testing"

abbrev pub no_view : List ℕ
no_view = 0 ∷ 0 ∷ 0 ∷ 0 ∷ 0 ∷ 0 ∷ 0 ∷ 0 ∷ 0 ∷ 0 ∷ 0 ∷ 0 ∷ 0 ∷ 0 ∷ 0 ∷ 0 ∷ []

-- The view of a text of five bytes.
abbrev pub short_view : List ℕ → List ℕ
short_view bs = 5 ∷ 0 ∷ 0 ∷ 0 ∷ bs ++ 0 ∷ 0 ∷ 0 ∷ 0 ∷ 0 ∷ 0 ∷ 0 ∷ []

-- The view of the long text, whose prefix begins with this byte.
abbrev pub long_view : ℕ → List ℕ
long_view prefix = 36 ∷ 0 ∷ 0 ∷ 0 ∷ prefix ∷ 32 ∷ 109 ∷ 111 ∷ 0 ∷ 0 ∷ 0 ∷ 0 ∷ 0 ∷ 0 ∷ 0 ∷ 0 ∷ []

-- hello, null, world, null and the long text, with this validity and this byte in front of the prefix.
abbrev pub texts : ℕ → ℕ → Tree
texts validity prefix =
    array (text_type Nullable) 5
    (B.varbinview (record {
      buffers = buffer long_text 0 ∷ [];
      views = buffer (short_view (codes "hello") ++ (no_view ++ (short_view (codes "world") ++ (no_view ++ long_view prefix)))) 4;
    })) (bits 5 validity ∷ [])

-- ---- nested arrays

abbrev pub words : Tree
words = array (text_type Nullable) 3 (B.varbin (record { bytes = buffer (codes "abc") 0 })) (i32s NonNullable (0 ∷ 1 ∷ 2 ∷ 3 ∷ []) [] ∷ [])

-- A dictionary of three texts by four codes, of which the third is null and the fourth is this one.
abbrev pub dictionary : ℕ → Tree
dictionary code =
    array (text_type Nullable) 4 (B.dict (record { all_values_referenced = false }))
    (u8s Nullable (0 ∷ 2 ∷ 9 ∷ code ∷ []) (bits 4 11 ∷ []) ∷ words ∷ [])

abbrev pub list_of : Typ → Typ
list_of e = node (K.list NonNullable) (more e end)

-- Three lists of numbers by these offsets.
abbrev pub lists : List ℕ → Tree
lists offsets = array (list_of (number_type P.U16 NonNullable)) 3 B.list (u16s (1 ∷ 2 ∷ 3 ∷ []) ∷ i32s NonNullable offsets [] ∷ [])

-- Two lists of numbers by these offsets and sizes.
abbrev pub views : Bool → Nullability → List ℕ → List ℕ → List Tree → Tree
views flag m offsets sizes ts =
    array (node (K.list m) (more (number_type P.I32 NonNullable) end)) 2 (B.listview (record { zero_copy = flag }))
    (i32s NonNullable (1 ∷ 2 ∷ 3 ∷ []) [] ∷ u8s NonNullable offsets [] ∷ u8s NonNullable sizes [] ∷ ts)

abbrev pub fixed_type : ℕ → Typ
fixed_type size = node (K.fixed_size_list size NonNullable) (more (number_type P.U16 NonNullable) end)

-- n lists of a size over these numbers.
abbrev pub fixed : ℕ → ℕ → List ℕ → Tree
fixed size n ns = array (fixed_type size) n B.fixed_size_list (u16s ns ∷ [])

abbrev pub entry_type : Typ
entry_type = node (K.structure (codes "key" ∷ codes "value" ∷ []) NonNullable) (more (number_type P.I32 NonNullable) (more (text_type Nullable) end))

-- One entry, of the key 1 and the value a.
abbrev pub entry : Tree
entry =
    array entry_type 1 B.struct
    (i32s NonNullable (1 ∷ []) []
    ∷ array (text_type Nullable) 1 (B.varbin (record { bytes = buffer (codes "a") 0 })) (i32s NonNullable (0 ∷ 1 ∷ []) [] ∷ []) ∷ [])

abbrev pub entries : Tree
entries =
    array (list_of entry_type) 1 (B.listview (record { zero_copy = false })) (entry ∷ u8s NonNullable (0 ∷ []) [] ∷ u8s NonNullable (1 ∷ []) [] ∷ [])

-- The same entry in a list by offsets.
abbrev pub listed : Tree
listed = array (list_of entry_type) 1 B.list (entry ∷ i32s NonNullable (0 ∷ 1 ∷ []) [] ∷ [])

abbrev pub map_type : Typ
map_type = node (K.map false NonNullable) (more (number_type P.I32 NonNullable) (more (text_type Nullable) end))

-- One map over these entries.
abbrev pub maps : Tree → Tree
maps es = array map_type 1 B.map (es ∷ [])

abbrev pub empty_structs : Tree
empty_structs = array (node (K.structure [] NonNullable) end) 7 B.struct []

-- Structs of a number, of which the second is null.
abbrev pub structs : Tree
structs = array (node (K.structure (codes "a" ∷ []) Nullable) (more (number_type P.U16 NonNullable) end)) 2 B.struct (bits 2 1 ∷ u16s (7 ∷ 8 ∷ []) ∷ [])

abbrev pub union_type : Typ
union_type =
    node (K.union (codes "a" ∷ codes "b" ∷ codes "c" ∷ []) (0 ∷ 5 ∷ 255 ∷ []) Nullable)
    (more (number_type P.I32 NonNullable) (more (text_type Nullable) (more (flag_type NonNullable) end)))

-- Three unions by these tags, of which the second is null.
abbrev pub unions : List ℕ → Tree
unions tags = array union_type 3 B.union (u8s Nullable tags (bits 3 5 ∷ []) ∷ i32s NonNullable (7 ∷ 8 ∷ 9 ∷ []) [] ∷ words ∷ bits 3 7 ∷ [])

abbrev pub days : Tree
days = array (node (K.extension (codes "x.day") []) (more (number_type P.I32 NonNullable) end)) 4 B.ext (i32s NonNullable (1 ∷ 2 ∷ 3 ∷ 4 ∷ []) [] ∷ [])

-- A dictionary whose codes may be null and whose values may not.
abbrev pub lifted_values : Nullability → Tree
lifted_values m =
    array (number_type P.U16 Nullable) 2 (B.dict (record { all_values_referenced = true }))
    (u8s Nullable (0 ∷ 1 ∷ []) (bits 2 1 ∷ []) ∷ array (number_type P.U16 m) 2 (B.primitive (record { values = buffer (two (3 ∷ 4 ∷ [])) 1 })) [] ∷ [])

-- ---- variants

abbrev pub variant_type : Nullability → Typ
variant_type m = kind (K.variant m)

-- Two opaque rows of a type.
abbrev pub unknown_rows : Typ → Tree
unknown_rows d = array d 2 (B.foreign (record { id = codes "x.core"; metadata = []; buffers = [] })) []

-- Two variants over this core, and a typed child beside it where one is given.
abbrev pub variants_over : Nullability → Tree → List Tree → Tree
variants_over m core ts = array (variant_type m) 2 B.variant (core ∷ ts)

-- The same over an opaque core.
abbrev pub variants : List Tree → Tree
variants ts = variants_over Nullable (unknown_rows (variant_type Nullable)) ts

-- The number 1 and a null, as a typed child.
abbrev pub typed : Tree
typed = i32s Nullable (1 ∷ 2 ∷ []) (bits 2 1 ∷ [])

-- The variants of 5 and 6, as a core.
abbrev pub known : Tree
known = variants (u16s (5 ∷ 6 ∷ []) ∷ [])

-- A dictionary of the same, in which the second code is null.
abbrev pub variant_values : Nullability → Tree
variant_values m =
    array (variant_type Nullable) 2 (B.dict (record { all_values_referenced = false }))
    (u8s Nullable (0 ∷ 1 ∷ []) (bits 2 1 ∷ []) ∷ variants_over m (unknown_rows (variant_type m)) (u16s (5 ∷ 6 ∷ []) ∷ []) ∷ [])

-- ---- statistics

abbrev pub count : ℕ → Value
count n = lone (V.number (N.U64 n))

-- The number of these bits.
abbrev pub float : ℕ → Value
float bits = lone (V.number (N.F64 bits))

-- Of the numbers one to four: a least value, one that is at most as great, the sum, and how many are null; that
-- they are sorted is told as a bound.
abbrev pub told_of_numbers : Stats
told_of_numbers = record no_stats {
  least = Exact (i32 1);
  greatest = Inexact (i32 9);
  total = Exact (lone (V.number (N.I64 (pos 10))));
  is_sorted = Inexact (flag true);
  is_constant = Exact (flag false);
  null_count = Exact (count 2);
}

abbrev pub told_numbers : Tree
told_numbers = with_stats told_of_numbers numbers

-- One float, with this sum.
abbrev pub summed : Told → Tree
summed x = with_stats (record no_stats { total = x }) (array (number_type P.F64 NonNullable) 1 (B.primitive (record { values = buffer (0 ∷ 0 ∷ 0 ∷ 0 ∷ 0 ∷ 0 ∷ 0 ∷ 0 ∷ []) 3 })) [])

-- A dictionary whose values tell their least one.
abbrev pub told_values : Nullability → Tree
told_values m =
    array (number_type P.U16 Nullable) 2 (B.dict (record { all_values_referenced = true }))
    (u8s Nullable (0 ∷ 1 ∷ []) (bits 2 1 ∷ [])
    ∷ with_stats (record no_stats { least = Exact (u16 3) }) (array (number_type P.U16 m) 2 (B.primitive (record { values = buffer (two (3 ∷ 4 ∷ [])) 1 })) []) ∷ [])
