-- Lists of one size, whose elements stand one row's after the other's.
use Rattle.std.specs.Prelude.{ℕ, suc, ◌*◌, List, [], ◌∷◌, Option, None, codes, Bool, nat_le}
use Rattle.vx_trees.specs.Rose.{node, end, more}
use Rattle.vx_types.specs.Kind.{fixed_size_list}
use Rattle.vx_types.specs.Typ.{Typ}
use Rattle.vx_types.specs.Value.{tuple}
use Rattle.vx_array_tree.specs.Place.{Place, place, is_len, when, AllowsValidity, before_validity}
use Rattle.vx_array_tree.specs.Rows.{Rows, by_validity_with, validity, first, rest, values_from, cells_from}

-- The identifier is "vortex.fixed_size_list".
abbrev pub id : List ℕ
id = codes "vortex.fixed_size_list"

-- A node is of a type of lists of one size, and has that many elements for each row, and at most a validity.
abbrev pub plan : Typ → ℕ → ℕ → Option (List Place)
plan (node (fixed_size_list s m) (more e end)) n k = when (is_len (n * s)) (before_validity (place e (n * s) ∷ []) n k)
plan _ n k = None

-- Each child but the elements is a control child.
abbrev pub is_control : ℕ → Bool
is_control i = nat_le 1 i

-- A validity stands only where rows may be null.
abbrev pub Allows : Typ → ℕ → Type 0
Allows d k = AllowsValidity d 1 k

-- The size of a type's rows.
abbrev pub size_of : Typ → ℕ
size_of (node (fixed_size_list s m) ts) = s
size_of _ = 0

-- A valid row is its elements, which stand after those of the rows before it, null or not.
abbrev pub rows : Typ → ℕ → List Rows → Rows
rows d n rs =
    by_validity_with n (validity (rest rs))
    (λ i. node tuple (values_from (first rs) (i * size_of d) (size_of d)))
    (λ i. suc (cells_from (first rs) (i * size_of d) (size_of d)))
