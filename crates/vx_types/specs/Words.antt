-- Nullability of types, and the type of a map's entries.
use Rattle.std.specs.Prelude.{ℕ, List, [], ◌∷◌}
use Rattle.vx_trees.specs.Rose.{Roses, node, end, more}
use Rattle.vx_types.specs.declared.nullability.Nullability.{Nullability}
use Rattle.vx_types.specs.declared.nullability.Nullability.TheVariants.{Nullable, NonNullable}
use Rattle.vx_types.specs.Kind.{Kind, null, boolean, primitive, decimal, utf8, binary, list, fixed_size_list, structure, union, map, variant, extension}
use Rattle.vx_types.specs.Parts.{Entries}
use Rattle.vx_types.specs.Typ.{Typ}

abbrev mutual
  -- The nullability of a type: that of its kind; the kind of nulls is nullable, and
  -- an extension has the nullability of its storage.
  pub nullability : Typ → Nullability
  nullability (node null ts) = Nullable
  nullability (node (boolean n) ts) = n
  nullability (node (primitive p n) ts) = n
  nullability (node (decimal p s n) ts) = n
  nullability (node (utf8 n) ts) = n
  nullability (node (binary n) ts) = n
  nullability (node (list n) ts) = n
  nullability (node (fixed_size_list k n) ts) = n
  nullability (node (structure ns n) ts) = n
  nullability (node (union ns ids n) ts) = n
  nullability (node (map b n) ts) = n
  nullability (node (variant n) ts) = n
  nullability (node (extension id bs) ts) = first_nullability ts

  -- The nullability of the first of the types.
  pub first_nullability : Roses Kind → Nullability
  first_nullability end = Nullable
  first_nullability (more t ts) = nullability t

abbrev mutual
  -- The type with another nullability. The kind of nulls stays as it is; for an
  -- extension the nullability of its storage changes.
  pub with_nullability : Nullability → Typ → Typ
  with_nullability m (node null ts) = node null ts
  with_nullability m (node (boolean n) ts) = node (boolean m) ts
  with_nullability m (node (primitive p n) ts) = node (primitive p m) ts
  with_nullability m (node (decimal p s n) ts) = node (decimal p s m) ts
  with_nullability m (node (utf8 n) ts) = node (utf8 m) ts
  with_nullability m (node (binary n) ts) = node (binary m) ts
  with_nullability m (node (list n) ts) = node (list m) ts
  with_nullability m (node (fixed_size_list k n) ts) = node (fixed_size_list k m) ts
  with_nullability m (node (structure ns n) ts) = node (structure ns m) ts
  with_nullability m (node (union ns ids n) ts) = node (union ns ids m) ts
  with_nullability m (node (map b n) ts) = node (map b m) ts
  with_nullability m (node (variant n) ts) = node (variant m) ts
  with_nullability m (node (extension id bs) ts) = node (extension id bs) (with_first_nullability m ts)

  -- The types, the first with another nullability.
  pub with_first_nullability : Nullability → Roses Kind → Roses Kind
  with_first_nullability m end = end
  with_first_nullability m (more t ts) = more (with_nullability m t) ts

-- The names of an entry's fields: "key" and "value".
abbrev pub key_name : List ℕ
key_name = 107 ∷ 101 ∷ 121 ∷ []

abbrev pub value_name : List ℕ
value_name = 118 ∷ 97 ∷ 108 ∷ 117 ∷ 101 ∷ []

-- The type of a map's entries: a structure of a key and a value, not nullable.
abbrev pub entries : Entries → Typ
entries m = node (structure (key_name ∷ value_name ∷ []) NonNullable) (more m.key (more m.value end))
