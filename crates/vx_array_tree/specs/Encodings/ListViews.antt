-- Lists, each with an offset and a size of its own, so that they may stand in any order, overlap or leave
-- elements out.
use Rattle.std.specs.Prelude.{ℕ, suc, ◌≡◌, ◌+◌, ◌<◌, ◌≤◌, List, [], ◌∷◌, Option, None, Bool, false, codes, IsTrue, refl, nat_le}
use Rattle.std.specs.Coded.{Coded, code_by, coded_bool}
use Rattle.vx_trees.specs.Rose.{node, end, more}
use Rattle.vx_types.specs.Kind.{list}
use Rattle.vx_numbers.specs.Numbers.{is_integer}
use Rattle.vx_types.specs.Typ.{Typ}
use Rattle.vx_types.specs.Value.{tuple}
use Rattle.vx_numbers.specs.declared.ptype.PType.{PType}
use Rattle.vx_array_tree.specs.Place.{Place, place, numbers, AllowsValidity, before_validity, first_place, second_place, third_place, ptype_of}
use Rattle.vx_array_tree.specs.Rows.{Rows, by_validity_with, validity, first, second, third, rest, index_at, IsIndex, IsThere, values_from, cells_from}

-- The identifier is "vortex.listview".
abbrev pub id : List ℕ
id = codes "vortex.listview"

-- A node holds a flag, which is kept as given and never written: that rows stand one after the other.
pub record Data : Type 0 where
  pub zero_copy : Bool

-- The code by which what nodes hold is told apart.
abbrev pub data_code : Coded Data
data_code = code_by Bool coded_bool (λ x. x.zero_copy) (λ b. record { zero_copy = b }) (λ _. refl)

-- What a node that is read holds: no flag.
abbrev pub body_of : Data
body_of = record { zero_copy = false }

-- What is read back where a node was written: the flag is lost.
abbrev pub cleared : Data → Data
cleared x = body_of

-- A node is normal where there is no flag to lose.
abbrev pub IsNormal : Data → Type 0
IsNormal x = x.zero_copy ≡ false

-- The metadata is how many elements there are, and the kinds of the offsets and of the sizes.
pub record Metadata : Type 0 where
  pub elements_len : ℕ
  pub offset_ptype : PType
  pub size_ptype : PType

-- The metadata of a node over children at these places.
abbrev pub metadata_of : List Place → Metadata
metadata_of ps = record { elements_len = (first_place ps).len; offset_ptype = ptype_of (second_place ps).dtype; size_ptype = ptype_of (third_place ps).dtype }

-- Offsets and sizes are integers.
pub record IsFair (v : Metadata) : Type 0 where
  pub offsets : IsTrue (is_integer v.offset_ptype)
  pub sizes : IsTrue (is_integer v.size_ptype)

-- A node is of a type of lists, and has elements, an offset and a size for each row, and at most a validity.
abbrev pub plan : Typ → ℕ → Metadata → ℕ → Option (List Place)
plan (node (list m) (more e end)) n v k =
    before_validity (place e v.elements_len ∷ place (numbers v.offset_ptype) n ∷ place (numbers v.size_ptype) n ∷ []) n k
plan _ n v k = None

-- Each child but the elements is a control child.
abbrev pub is_control : ℕ → Bool
is_control i = nat_le 1 i

-- A validity stands only where rows may be null.
abbrev pub Allows : Typ → ℕ → Type 0
Allows d k = AllowsValidity d 3 k

-- A row's offset and size are natural numbers, and its elements are there. (Where an offset or a size is not
-- known, nothing is asked of it.)
pub record IsView (elements offsets sizes : Rows) (i : ℕ) : Type 0 where
  pub offset : IsThere offsets.valid i → IsIndex offsets i
  pub size : IsThere sizes.valid i → IsIndex sizes i
  pub within : index_at offsets i + index_at sizes i ≤ elements.len

-- The views are right where rows are valid.
abbrev pub Content : ℕ → List Rows → Type 0
Content n rs = (i : ℕ) → i < n → IsThere (validity (rest (rest (rest rs)))) i → IsView (first rs) (second rs) (third rs) i

-- A valid row is as many elements from its offset on as its size says.
abbrev pub rows : ℕ → List Rows → Rows
rows n rs =
    by_validity_with n (validity (rest (rest (rest rs))))
    (λ i. node tuple (values_from (first rs) (index_at (second rs) i) (index_at (third rs) i)))
    (λ i. suc (cells_from (first rs) (index_at (second rs) i) (index_at (third rs) i)))
