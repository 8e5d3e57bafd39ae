-- What is known of an array by its rows: how many there are and, by index, whether a row is valid, its value, and how
-- many cells it takes where it is printed. The type is not among it, so that arrays that differ by their types'
-- nullability alone have equal rows.
use Rattle.std.specs.Prelude.{ℕ, zero, suc, ◌+◌, ◌≡◌, List, [], ◌∷◌, Option, Some, None, Bool, true, false, unwrap_or, is_some, IsTrue}
use Rattle.vx_trees.specs.Rose.{end, more}
use Rattle.vx_types.specs.Value.{Value, Values, null, opaque, flag_in, lone, natural, value_cells}

-- Whether a row is valid is true, false, or not known: none, where it ends at something opaque.
pub record Rows : Type 0 where
  pub len : ℕ
  pub valid : ℕ → Option Bool
  pub row : ℕ → Value
  pub cells : ℕ → ℕ

-- Opaque rows. They stand for a missing child; no sound node lacks one.
abbrev pub no_rows : Rows
no_rows = record { len = 0; valid = λ i. None; row = λ i. lone opaque; cells = λ i. 1 }

-- The rows of the first of a node's children.
abbrev pub first : List Rows → Rows
first [] = no_rows
first (r ∷ rs) = r

-- Those of the children after the first.
abbrev pub rest : List Rows → List Rows
rest [] = []
rest (r ∷ rs) = rs

-- Those of the second.
abbrev pub second : List Rows → Rows
second rs = first (rest rs)

-- Those of the third.
abbrev pub third : List Rows → Rows
third rs = first (rest (rest rs))

-- Whether a row is valid, by the flags of the validity that may stand: where none does, each row is.
abbrev pub validity : List Rows → ℕ → Option Bool
validity [] i = Some true
validity (v ∷ vs) i = flag_in (v.row i)

-- A row's value, where the row is valid.
abbrev pub where_valid : Option Bool → (ℕ → Value) → ℕ → Value
where_valid None value i = lone opaque
where_valid (Some false) value i = lone null
where_valid (Some true) value i = value i

-- A row's cells: one where the row is not there.
abbrev pub cells_where : Option Bool → (ℕ → ℕ) → ℕ → ℕ
cells_where None count i = 1
cells_where (Some false) count i = 1
cells_where (Some true) count i = count i

-- Rows with these values where a validity says that they are there.
abbrev pub by_validity : ℕ → (ℕ → Option Bool) → (ℕ → Value) → Rows
by_validity n valid value = record {
  len = n;
  valid = valid;
  row = λ i. where_valid (valid i) value i;
  cells = λ i. value_cells (where_valid (valid i) value i);
}

-- The same, with cells that are counted by those of other rows.
abbrev pub by_validity_with : ℕ → (ℕ → Option Bool) → (ℕ → Value) → (ℕ → ℕ) → Rows
by_validity_with n valid value count = record {
  len = n;
  valid = valid;
  row = λ i. where_valid (valid i) value i;
  cells = λ i. cells_where (valid i) count i;
}

-- The rows of another array, as those of one of a length.
abbrev pub as_rows : ℕ → Rows → Rows
as_rows n r = record { len = n; valid = r.valid; row = r.row; cells = r.cells }

-- As many rows' values, from one on.
abbrev pub values_from : Rows → ℕ → ℕ → Values
values_from r i zero = end
values_from r i (suc k) = more (r.row i) (values_from r (suc i) k)

-- The sum of their cells.
abbrev pub cells_from : Rows → ℕ → ℕ → ℕ
cells_from r i zero = 0
cells_from r i (suc k) = r.cells i + cells_from r (suc i) k

-- Each array's row at one index.
abbrev pub values_at : List Rows → ℕ → Values
values_at [] i = end
values_at (r ∷ rs) i = more (r.row i) (values_at rs i)

-- The sum of their cells.
abbrev pub cells_at : List Rows → ℕ → ℕ
cells_at [] i = 0
cells_at (r ∷ rs) i = r.cells i + cells_at rs i

-- A control row as a natural number: 0 where it is none.
abbrev pub index_at : Rows → ℕ → ℕ
index_at r i = unwrap_or (natural (r.row i)) 0

-- A control row is a natural number.
abbrev pub IsIndex : Rows → ℕ → Type 0
IsIndex r i = IsTrue (is_some (natural (r.row i)))

-- A row is valid.
abbrev pub IsThere : (ℕ → Option Bool) → ℕ → Type 0
IsThere valid i = valid i ≡ Some true
