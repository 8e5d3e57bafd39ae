-- Unions, by the tags of their rows.
use Rattle.std.specs.Prelude.{ℕ, suc, ◌<◌, ◌==◌, List, [], ◌∷◌, Option, Some, None, codes, IsTrue, is_some, if◌then◌else◌, Bool}
use Rattle.vx_trees.specs.Rose.{node, end, more}
use Rattle.vx_types.specs.Kind.{primitive, union as union_kind}
use Rattle.vx_types.specs.Typ.{Typ}
use Rattle.vx_types.specs.Value.{union}
use Rattle.vx_numbers.specs.declared.ptype.PType.TheVariants.{U8}
use Rattle.vx_array_tree.specs.Place.{Place, place, exactly, places_at}
use Rattle.vx_array_tree.specs.Rows.{Rows, by_validity_with, first, rest, index_at, IsIndex, IsThere, no_rows}

-- The identifier is "vortex.union".
abbrev pub id : List ℕ
id = codes "vortex.union"

-- A node is of a union type, and has the rows' tags, which are null where the unions are, and a child for each
-- member, of its type and as many rows.
abbrev pub plan : Typ → ℕ → ℕ → Option (List Place)
plan (node (union_kind ns ids m) ts) n k = exactly (place (node (primitive U8 m) end) n ∷ places_at ts n) k
plan _ n k = None

-- The tags alone are control children.
abbrev pub is_control : ℕ → Bool
is_control i = i == 0

-- The rows of the member that a tag names.
abbrev pub member_rows : ℕ → List ℕ → List Rows → Option Rows
member_rows tag [] rs = None
member_rows tag (x ∷ ids) [] = None
member_rows tag (x ∷ ids) (r ∷ rs) = if tag == x then Some r else member_rows tag ids rs

-- The tags of a type's members.
abbrev pub tags_of : Typ → List ℕ
tags_of (node (union_kind ns ids m) ts) = ids
tags_of _ = []

-- The rows of the member that a row's tag names.
abbrev pub member_at : Typ → List Rows → ℕ → Option Rows
member_at d rs i = member_rows (index_at (first rs) i) (tags_of d) (rest rs)

-- A row's tag is one of the type.
pub record HasMember (d : Typ) (rs : List Rows) (i : ℕ) : Type 0 where
  pub tag : IsIndex (first rs) i
  pub named : IsTrue (is_some (member_at d rs i))

-- The tags are right where rows are valid.
abbrev pub Content : Typ → ℕ → List Rows → Type 0
Content d n rs = (i : ℕ) → i < n → IsThere (first rs).valid i → HasMember d rs i

-- The rows, or opaque ones. (Where a tag is right, there are rows.)
abbrev pub rows_or_none : Option Rows → Rows
rows_or_none None = no_rows
rows_or_none (Some r) = r

-- A valid row is its tag over the member's row at the same index.
abbrev pub rows : Typ → ℕ → List Rows → Rows
rows d n rs =
    by_validity_with n (first rs).valid
    (λ i. node (union (index_at (first rs) i)) (more ((rows_or_none (member_at d rs i)).row i) end))
    (λ i. suc ((rows_or_none (member_at d rs i)).cells i))
