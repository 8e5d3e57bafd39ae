-- The second identifier of primitives: which of the two holds how many rows.
use Rattle.std.specs.Prelude.{ℕ, List, Bool, true, not, ◌||◌, bytes_eq, nat_le, codes, if◌then◌else◌}
use Rattle.vx_array_tree.specs.Encodings.Primitives as Primitives

-- The second identifier is "vortex.primitive.v2".
abbrev pub revised_name : List ℕ
revised_name = codes "vortex.primitive.v2"

-- The old identifier holds at most this many rows, where primitives have two.
abbrev pub most_rows : ℕ
most_rows = 4

-- Any other identifier holds any number of rows.
abbrev pub revised_holds : List ℕ → ℕ → Bool
revised_holds id n = not (bytes_eq id Primitives.id) || nat_le n most_rows

-- The identifier under which n rows of primitives are written: the old one where it holds them, and else the second
-- where there are two.
abbrev pub id_of_rows : Bool → ℕ → List ℕ
id_of_rows two n = if nat_le n most_rows then Primitives.id else (if two then revised_name else Primitives.id)

-- The identifier of n rows, where there are two.
abbrev pub revised_id : ℕ → List ℕ
revised_id n = id_of_rows true n
