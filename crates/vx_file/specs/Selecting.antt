-- Which columns are asked of a column file.
use Rattle.std.specs.Prelude.{ℕ, ◌≡◌, ◌+◌, ◌≤◌, List, Option, Some, None, map, length, slice_get, slice_range, sum_by}
use Rattle.std.specs.List.{AllByRecursion}
use Rattle.vx_file.specs.Footer.{FileRange}

-- What is answered is what is asked of a list by its places, in the order asked, and again where it is asked again.
abbrev pub Picks : {A : Type 0} → List A → List ℕ → List A → Type 0
Picks xs asked answered = map (λ i. slice_get xs i) asked ≡ map (λ x. Some x) answered

-- So many bytes from an offset on.
abbrev pub part_of : List ℕ → ℕ → ℕ → List ℕ
part_of bytes start len = slice_range bytes start (start + len)

-- The bytes of a range.
abbrev pub bytes_in : List ℕ → FileRange → List ℕ
bytes_in bytes r = part_of bytes r.start r.len

-- These bytes stand in others at an offset.
abbrev pub StandAt : List ℕ → ℕ → List ℕ → Type 0
StandAt bytes start own = part_of bytes start (length own) ≡ own

-- How many bytes a range has that stands at a place in a list: none past the end.
abbrev pub len_of : Option FileRange → ℕ
len_of None = 0
len_of (Some r) = r.len

-- How many bytes are loaded where these columns are asked.
abbrev pub taken_by : List FileRange → List ℕ → ℕ
taken_by ranges asked = sum_by (λ i. len_of (slice_get ranges i)) asked

-- A range, counted from a start on, ends within so many bytes.
abbrev pub EndsWithin : ℕ → ℕ → FileRange → Type 0
EndsWithin size start r = start + (r.start + r.len) ≤ size

-- Each of a file's ranges does.
abbrev pub EndWithin : ℕ → ℕ → List FileRange → Type 0
EndWithin size start ranges = AllByRecursion (EndsWithin size start) ranges
