-- How a row's value is printed.
use Rattle.std.specs.Prelude.{ℕ, Option, Some, None, true, false, List, [], ◌∷◌, ◌++◌, codes, reverse}
use Rattle.std.specs.Fmt.{decimal, signed_decimal}
use Rattle.std.specs.Int.{w16, w32, w64, to_be_bytes}
use Rattle.std.specs.List.{flat_map}
use Rattle.hex.specs.Hex.{encode_lower}
use Rattle.vx_trees.specs.Rose.{Roses, node, end, more}
use Rattle.vx_types.specs.Fits.{bare, member}
use Rattle.vx_types.specs.Kind.{Kind, list, fixed_size_list, structure, map, union as union_kind}
use Rattle.vx_types.specs.Typ.{Typ}
use Rattle.vx_types.specs.Value.{DecimalValue, i8, i16, i32, i64, i128, i256, Value, Values, null, opaque, bool, number, decimal as decimal_mark, utf8, binary, tuple, union, variant}
use Rattle.vx_numbers.specs.declared.value.PValue.{PValue}
use Rattle.vx_numbers.specs.declared.value.PValue.TheVariants.{U8, U16, U32, U64, I8, I16, I32, I64, F16, F32, F64}

-- ---- values without values in them

-- Bytes as hex digits, two for each, after `0x`.
abbrev pub hex_text : List ℕ → List ℕ
hex_text bytes = codes "0x" ++ encode_lower bytes

-- An integer is printed in decimal, with a minus sign where it is below 0; a float by its 16, 32 or 64 bits, their
-- bytes from the highest.
abbrev pub number_text : PValue → List ℕ
number_text (U8 n) = decimal n
number_text (U16 n) = decimal n
number_text (U32 n) = decimal n
number_text (U64 n) = decimal n
number_text (I8 z) = signed_decimal z
number_text (I16 z) = signed_decimal z
number_text (I32 z) = signed_decimal z
number_text (I64 z) = signed_decimal z
number_text (F16 bits) = hex_text (to_be_bytes w16 bits)
number_text (F32 bits) = hex_text (to_be_bytes w32 bits)
number_text (F64 bits) = hex_text (to_be_bytes w64 bits)

-- A decimal is printed as its unscaled integer; the widest by its 32 bytes, from the highest.
abbrev pub decimal_text : DecimalValue → List ℕ
decimal_text (i8 z) = signed_decimal z
decimal_text (i16 z) = signed_decimal z
decimal_text (i32 z) = signed_decimal z
decimal_text (i64 z) = signed_decimal z
decimal_text (i128 z) = signed_decimal z
decimal_text (i256 bytes) = hex_text (reverse bytes)

-- A text, and bytes, as hex digits after an `x`.
abbrev pub bytes_text : List ℕ → List ℕ
bytes_text bytes = codes "x" ++ encode_lower bytes

-- ---- values with values in them

-- A further text stands after a comma and a space.
abbrev pub further_text : List ℕ → List ℕ
further_text text = codes ", " ++ text

-- Texts one after the other, with a comma and a space between them.
abbrev pub parted : List (List ℕ) → List ℕ
parted [] = []
parted (text ∷ texts) = text ++ flat_map further_text texts

-- A tuple is a row of a list, printed as `[a, b]`, of a structure, as `{a, b}`, or of a map, as `{k=>v, k=>v}`. (At any
-- other type any text will do.)
abbrev pub tuple_text : (Typ → List (List ℕ)) → (Roses Kind → List (List ℕ)) → (Typ → Typ → List (List ℕ)) → Typ → List ℕ
tuple_text Each By Entries (node (list m) (more e end)) = codes "[" ++ (parted (Each e) ++ codes "]")
tuple_text Each By Entries (node (fixed_size_list n m) (more e end)) = codes "[" ++ (parted (Each e) ++ codes "]")
tuple_text Each By Entries (node (structure names m) ts) = codes "{" ++ (parted (By ts) ++ codes "}")
tuple_text Each By Entries (node (map sorted m) (more k (more v end))) = codes "{" ++ (parted (Entries k v) ++ codes "}")
tuple_text Each By Entries _ = codes "?"

-- The type of the member with a tag, of a union's type.
abbrev pub member_under : ℕ → Typ → Option Typ
member_under tag (node (union_kind names tags m) ts) = member tag tags ts
member_under tag _ = None

-- The types below a union's type that are of the member with a tag: one, where there is such a member.
abbrev pub member_types : ℕ → Typ → Roses Kind
member_types tag t = elim (member_under tag t) [ Some d ↦ more d end | None ↦ end ]

abbrev mutual
  -- The text of a value, by its type: a union as `#5(a)`, a variant as `v(a)`, and a value of which nothing is known as
  -- `?`.
  pub value_text : Value → Typ → List ℕ
  value_text (node null vs) d = codes "null"
  value_text (node opaque vs) d = codes "?"
  value_text (node (bool true) vs) d = codes "true"
  value_text (node (bool false) vs) d = codes "false"
  value_text (node (number n) vs) d = number_text n
  value_text (node (decimal_mark x) vs) d = decimal_text x
  value_text (node (utf8 bytes) vs) d = bytes_text bytes
  value_text (node (binary bytes) vs) d = bytes_text bytes
  value_text (node tuple vs) d = tuple_text (λ e. each_text vs e) (λ ts. texts_by vs ts) (λ k v. entry_texts vs k v) (bare d)
  value_text (node (union tag) vs) d = codes "#" ++ (decimal tag ++ (codes "(" ++ (parted (texts_by vs (member_types tag (bare d))) ++ codes ")")))
  value_text (node (variant e) vs) d = codes "v(" ++ (parted (texts_by vs (more e end)) ++ codes ")")

  -- The texts of values of one type.
  pub each_text : Values → Typ → List (List ℕ)
  each_text end e = []
  each_text (more v vs) e = value_text v e ∷ each_text vs e

  -- The texts of values, each by its type.
  pub texts_by : Values → Roses Kind → List (List ℕ)
  texts_by (more v vs) (more t ts) = value_text v t ∷ texts_by vs ts
  texts_by _ _ = []

  -- The texts of a map's entries.
  pub entry_texts : Values → Typ → Typ → List (List ℕ)
  entry_texts end k v = []
  entry_texts (more e es) k v = entry_text e k v ∷ entry_texts es k v

  -- The text of an entry: its key's and its value's. An entry of which nothing is known is `?`.
  pub entry_text : Value → Typ → Typ → List ℕ
  entry_text (node tuple (more a (more b end))) k v = value_text a k ++ (codes "=>" ++ value_text b v)
  entry_text (node _ vs) k v = codes "?"
