-- Lists, whose elements stand one row's after the other's, split by offsets.
use Rattle.std.specs.Prelude.{ℕ, suc, ◌-◌, List, [], ◌∷◌, Option, None, codes, IsTrue, Bool, nat_le}
use Rattle.vx_trees.specs.Rose.{node, end, more}
use Rattle.vx_types.specs.Kind.{list}
use Rattle.vx_numbers.specs.Numbers.{is_integer}
use Rattle.vx_types.specs.Typ.{Typ}
use Rattle.vx_types.specs.Value.{tuple}
use Rattle.vx_numbers.specs.declared.ptype.PType.{PType}
use Rattle.vx_array_tree.specs.Encodings.VarBins.{AreOffsets}
use Rattle.vx_array_tree.specs.Place.{Place, place, numbers, is_len, when, AllowsValidity, before_validity, first_place, second_place, ptype_of}
use Rattle.vx_array_tree.specs.Rows.{Rows, by_validity_with, validity, first, second, rest, index_at, values_from, cells_from}

-- The identifier is "vortex.list".
abbrev pub id : List ℕ
id = codes "vortex.list"

-- The metadata is how many elements there are, and the kind of the offsets.
pub record Metadata : Type 0 where
  pub elements_len : ℕ
  pub offset_ptype : PType

-- The metadata of a node over children at these places.
abbrev pub metadata_of : List Place → Metadata
metadata_of ps = record { elements_len = (first_place ps).len; offset_ptype = ptype_of (second_place ps).dtype }

-- Offsets are integers.
abbrev pub IsFair : Metadata → Type 0
IsFair v = IsTrue (is_integer v.offset_ptype)

-- A node is of a type of lists, and has elements, one offset more than rows, and at most a validity.
abbrev pub plan : Typ → ℕ → Metadata → ℕ → Option (List Place)
plan (node (list m) (more e end)) n v k =
    when (is_len (suc n)) (before_validity (place e v.elements_len ∷ place (numbers v.offset_ptype) (suc n) ∷ []) n k)
plan _ n v k = None

-- Each child but the elements is a control child.
abbrev pub is_control : ℕ → Bool
is_control i = nat_le 1 i

-- A validity stands only where rows may be null.
abbrev pub Allows : Typ → ℕ → Type 0
Allows d k = AllowsValidity d 2 k

-- The offsets are right whatever rows are valid.
abbrev pub Content : ℕ → List Rows → Type 0
Content n rs = AreOffsets (second rs) n (first rs).len

-- How many elements a row has: as many as lie between its offset and the next.
abbrev pub size_at : Rows → ℕ → ℕ
size_at offsets i = index_at offsets (suc i) - index_at offsets i

-- A valid row is the elements from its offset up to the next.
abbrev pub rows : ℕ → List Rows → Rows
rows n rs =
    by_validity_with n (validity (rest (rest rs)))
    (λ i. node tuple (values_from (first rs) (index_at (second rs) i) (size_at (second rs) i)))
    (λ i. suc (cells_from (first rs) (index_at (second rs) i) (size_at (second rs) i)))
