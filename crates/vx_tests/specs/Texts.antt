-- Values of rows, each with its type and its text.
use Rattle.std.specs.Prelude.{ℕ, false, true, pos, negsuc, List, [], ◌∷◌, ◌++◌, codes, replicate}
use Rattle.vx_trees.specs.Rose.{node, end, more}
use Rattle.vx_types.specs.Kind.{boolean, primitive, decimal as decimal_kind, utf8 as utf8_kind, list, structure, map, union as union_kind, variant as variant_kind, extension}
use Rattle.vx_types.specs.Typ.{Typ}
use Rattle.vx_types.specs.Value.{Value, lone, i256, null, opaque, bool, number, decimal, utf8, tuple, union, variant_of}
use Rattle.vx_types.specs.declared.nullability.Nullability.TheVariants.{Nullable, NonNullable}
use Rattle.vx_numbers.specs.declared.ptype.PType.TheVariants as P
use Rattle.vx_numbers.specs.declared.value.PValue.TheVariants.{U8, I8, F16}

-- A value of a type, and its text.
pub record ShownValue : Type 0 where
  pub value : Value
  pub dtype : Typ
  pub text : List ℕ

-- The types of the values below.
abbrev pub bytes_list : Typ
bytes_list = node (list NonNullable) (more (node (primitive P.U8 Nullable) end) end)

abbrev pub pair : Typ
pair = node (structure (codes "a" ∷ codes "b" ∷ []) NonNullable) (more (node (boolean NonNullable) end) (more (node (utf8_kind NonNullable) end) end))

abbrev pub named_numbers : Typ
named_numbers = node (map false NonNullable) (more (node (utf8_kind NonNullable) end) (more (node (primitive P.I8 NonNullable) end) end))

abbrev pub either : Typ
either = node (union_kind (codes "a" ∷ codes "b" ∷ []) (7 ∷ 5 ∷ []) NonNullable) (more (node (boolean NonNullable) end) (more bytes_list end))

-- A list of one number and one null.
abbrev pub two_bytes : Value
two_bytes = node tuple (more (lone (number (U8 1))) (more (lone null) end))

-- Null, booleans, floats, wide decimals, lists, structures, maps with an entry of which nothing is known, unions,
-- variants, extensions.
abbrev pub shown_values : List ShownValue
shown_values =
    record { value = lone null; dtype = bytes_list; text = codes "null" }
    ∷ record { value = lone opaque; dtype = bytes_list; text = codes "?" }
    ∷ record { value = lone (bool false); dtype = node (boolean NonNullable) end; text = codes "false" }
    ∷ record { value = lone (number (F16 15360)); dtype = node (primitive P.F16 NonNullable) end; text = codes "0x3c00" }
    ∷ record { value = lone (decimal (i256 (171 ∷ replicate 31 0))); dtype = node (decimal_kind 76 (pos 0) NonNullable) end; text = codes "0x" ++ (replicate 62 48 ++ codes "ab") }
    ∷ record { value = two_bytes; dtype = bytes_list; text = codes "[1, null]" }
    ∷ record { value = node tuple end; dtype = bytes_list; text = codes "[]" }
    ∷ record { value = node tuple (more (lone (bool true)) (more (lone (utf8 (codes "hi"))) end)); dtype = pair; text = codes "{true, x6869}" }
    ∷ record { value = node tuple (more (node tuple (more (lone (utf8 (codes "k"))) (more (lone (number (I8 (negsuc 0)))) end))) (more (lone opaque) end)); dtype = named_numbers; text = codes "{x6b=>-1, ?}" }
    ∷ record { value = node (union 5) (more two_bytes end); dtype = either; text = codes "#5([1, null])" }
    ∷ record { value = variant_of pair (node tuple (more (lone (bool true)) (more (lone null) end))); dtype = node (variant_kind NonNullable) end; text = codes "v({true, null})" }
    ∷ record { value = two_bytes; dtype = node (extension (codes "e") []) (more bytes_list end); text = codes "[1, null]" }
    ∷ []
