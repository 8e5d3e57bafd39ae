-- What the buffers of a table hold that is made of draws.
use Rattle.std.specs.Prelude.{ℕ, zero, suc, ℤ, pos, ◌-ℤ◌, ◌+◌, ◌/◌, ◌%◌, ◌^◌, ◌==◌, Bool, List, [], ◌∷◌, ◌++◌, if◌then◌else◌, replicate, slice_index, slice_set, bit_or}
use Rattle.std.specs.Int.{w16, w32, w64, to_le_bytes, cast_unsigned}
use Rattle.vx_generator.specs.Draws.{after, drawn}

-- A row is made of three draws and of as many more as the third leaves modulo 4. These are the elements of its list.
abbrev pub count_of : ℕ → ℕ
count_of x = drawn x 2 % 4

-- The state after the draws of a row, by the state before it.
abbrev pub after_row : ℕ → ℕ
after_row x = after (after x 3) (count_of x)

-- The state before a row, counted from 0.
abbrev pub before : ℕ → ℕ → ℕ
before seed zero = seed
before seed (suc n) = after_row (before seed n)

-- A row has no number where the first draw is a multiple of 8.
abbrev pub is_null : ℕ → Bool
is_null d = d % 8 == 0

-- The number that is stored for a row: 0 where it is null, and else the draw less 2^30.
unfoldable pub stored : ℕ → ℤ
stored d = if is_null d then pos 0 else pos d -ℤ pos (2 ^ 30)

-- The same as 8 bytes, lowest first, in two's complement.
abbrev pub stored_bytes : ℕ → List ℕ
stored_bytes d = to_le_bytes w64 (cast_unsigned w64 (stored d))

-- The elements of a row's list, each of two bytes: the draws after the first three, modulo 65,536.
abbrev pub element_bytes : ℕ → ℕ → List ℕ
element_bytes x zero = []
element_bytes x (suc n) = element_bytes x n ++ to_le_bytes w16 (drawn x n % 65536)

-- The bytes of the five buffers, and the number of elements: the numbers, the bits that say which of them are there,
-- the codes, the elements of all lists, and the offsets that split them.
pub record Columns : Type 0 where
  pub numbers : List ℕ
  pub validity : List ℕ
  pub codes : List ℕ
  pub elements : List ℕ
  pub offsets : List ℕ
  pub count : ℕ

-- Bits with that of a row set, the lowest of a byte first.
abbrev pub with_bit : List ℕ → ℕ → List ℕ
with_bit bits i = slice_set bits (i / 8) (bit_or (slice_index bits (i / 8)) (2 ^ (i % 8)))

-- Before the first of n rows there is a bit of 0 for each, in the fewest bytes, and the first offset.
abbrev pub no_rows : ℕ → Columns
no_rows rows = record {
  numbers = [];
  validity = replicate ((rows + 7) / 8) 0;
  codes = [];
  elements = [];
  offsets = to_le_bytes w32 0;
  count = 0;
}

-- One number more, of this draw, with the bit of its row set where the number is there.
abbrev pub with_number : Columns → ℕ → ℕ → Columns
with_number c d i = record c {
  numbers = c.numbers ++ stored_bytes d;
  validity = if is_null d then c.validity else with_bit c.validity i;
}

-- One code more, of this draw, modulo 5.
abbrev pub with_code : Columns → ℕ → Columns
with_code c e = record c { codes = c.codes ++ (e % 5) ∷ [] }

-- One list more, of n draws from a state on, and the offset at which it ends.
abbrev pub with_list : Columns → ℕ → ℕ → Columns
with_list c x n = record c {
  elements = c.elements ++ element_bytes x n;
  offsets = c.offsets ++ to_le_bytes w32 (c.count + n);
  count = c.count + n;
}

-- One row more, by the state before it and its own number: the first draw gives the number, the second the code, and
-- the third the length of the list.
abbrev pub with_row : Columns → ℕ → ℕ → Columns
with_row c x i = with_list (with_code (with_number c (drawn x 0) i) (drawn x 1)) (after x 3) (count_of x)

-- The columns of a seed, allocated for a number of rows, of which the first n are made.
abbrev pub columns : ℕ → ℕ → ℕ → Columns
columns seed rows zero = no_rows rows
columns seed rows (suc n) = with_row (columns seed rows n) (before seed n) n
