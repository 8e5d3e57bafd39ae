-- Types as trees of kinds.
use Rattle.std.specs.Prelude.{ℕ, ◌≡◌, ◌<◌, ◌^◌, List, length}
use Rattle.std.specs.Coded.{Coded}
use Rattle.vx_trees.specs.Rose.{Rose, Roses, count, roses_of}
use Rattle.vx_trees.specs.Everywhere.{Everywhere, EverywhereBelow}
use Rattle.vx_trees.specs.Codes.{coded_rose}
use Rattle.vx_trees.specs.Bytes.{AreBytes}
use Rattle.vx_types.specs.Content.{IsText, AreTexts, AreDistinct, IsDecimal}
use Rattle.vx_types.specs.Kind.{Kind, null, boolean, primitive, decimal, utf8, binary, list, fixed_size_list, structure, union, map, variant, extension, kind_code}

-- A type is a tree: a kind, and the types within it.
abbrev pub Typ : Type 0
Typ = Rose Kind

-- The code of types, which decides their equality.
abbrev pub typ_code : Coded Typ
typ_code = coded_rose null kind_code

-- A structure has as many names as fields, each UTF-8.
pub record IsStructure (names : List (List ℕ)) (size : ℕ) : Type 0 where
  pub types : size ≡ length names
  pub texts : AreTexts names

-- A union has as many names and tags as members; the tags are distinct.
pub record IsUnion (names : List (List ℕ)) (ids : List ℕ) (size : ℕ) : Type 0 where
  pub types : size ≡ length names
  pub tags : length ids ≡ length names
  pub texts : AreTexts names
  pub bytes : AreBytes ids
  pub distinct : AreDistinct ids

-- A kind has the types within it that it asks for: an extension its storage, a list
-- the type of its elements, a map the types of its keys and its values, a structure
-- and a union one for each name. The kind's own part meets its conditions.
abbrev pub IsTypeNode : Kind → Roses Kind → Type 0
IsTypeNode null ts = count ts ≡ 0
IsTypeNode (boolean n) ts = count ts ≡ 0
IsTypeNode (primitive p n) ts = count ts ≡ 0
IsTypeNode (decimal p s n) ts = (count ts ≡ 0) × IsDecimal p s
IsTypeNode (utf8 n) ts = count ts ≡ 0
IsTypeNode (binary n) ts = count ts ≡ 0
IsTypeNode (list n) ts = count ts ≡ 1
IsTypeNode (fixed_size_list k n) ts = (count ts ≡ 1) × (k < 2 ^ 32)
IsTypeNode (structure ns n) ts = IsStructure ns (count ts)
IsTypeNode (union ns ids n) ts = IsUnion ns ids (count ts)
IsTypeNode (map b n) ts = count ts ≡ 2
IsTypeNode (variant n) ts = count ts ≡ 0
IsTypeNode (extension id bs) ts = (count ts ≡ 1) × IsText id × AreBytes bs

-- A tree of kinds is a type where this holds at each of its nodes.
abbrev pub IsType : Typ → Type 0
IsType = Everywhere IsTypeNode

-- Each tree of the list is a type.
abbrev pub AreTypes : List Typ → Type 0
AreTypes ts = EverywhereBelow IsTypeNode (roses_of ts)
