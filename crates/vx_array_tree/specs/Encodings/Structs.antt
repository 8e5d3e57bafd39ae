-- Structs, by their fields.
use Rattle.std.specs.Prelude.{ℕ, suc, ◌==◌, List, Option, Some, None, Bool, true, codes, length, if◌then◌else◌, ◌&&◌}
use Rattle.vx_trees.specs.Rose.{node, count}
use Rattle.vx_types.specs.Kind.{structure}
use Rattle.vx_types.specs.Typ.{Typ}
use Rattle.vx_types.specs.Value.{tuple}
use Rattle.vx_array_tree.specs.Place.{Place, AllowsValidity, after_validity, places_at}
use Rattle.vx_array_tree.specs.Rows.{Rows, by_validity_with, validity, rest, values_at, cells_at}

-- The identifier is "vortex.struct".
abbrev pub id : List ℕ
id = codes "vortex.struct"

-- A node is of a struct type, and has a child for each field, of its type and as many rows, after at most a validity.
abbrev pub plan : Typ → ℕ → ℕ → Option (List Place)
plan (node (structure ns m) ts) n k = after_validity (places_at ts n) n k
plan _ n k = None

-- How many fields a type has.
abbrev pub width_of : Typ → ℕ
width_of (node k ts) = count ts

-- A validity stands only where rows may be null.
abbrev pub Allows : Typ → ℕ → Type 0
Allows d k = AllowsValidity d (width_of d) k

-- A validity stands in front where a node has one child more than fields.
abbrev pub has_validity : Typ → ℕ → Bool
has_validity d k = k == suc (width_of d)

-- Of k children a validity alone is a control child.
abbrev pub is_control : Typ → ℕ → ℕ → Bool
is_control d k i = has_validity d k && (i == 0)

-- The fields' rows, without a validity's.
abbrev pub fields : Typ → List Rows → List Rows
fields d rs = if has_validity d (length rs) then rest rs else rs

-- Whether a struct is valid: without a validity, each is.
abbrev pub structure_valid : Bool → List Rows → ℕ → Option Bool
structure_valid b rs i = if b then validity rs i else Some true

-- A valid row is its fields' rows.
abbrev pub rows : Typ → ℕ → List Rows → Rows
rows d n rs =
    by_validity_with n (structure_valid (has_validity d (length rs)) rs)
    (λ i. node tuple (values_at (fields d rs) i))
    (λ i. suc (cells_at (fields d rs) i))
