-- Cells that are spent, and what is refused for them.
use Rattle.std.proofs.Common.{ℕ, ◌≡◌, ◌≤◌, ◌+◌, Result, Ok, Err, IfOk, IfErr, OnOk, subst, arith}
use Rattle.vx_types.specs.Value.{Value}
use Rattle.vx_rows.specs.Plain.{plain_value}
use Rattle.vx_rows.specs.Refused.{RefusesCells}
use Rattle.vx_rows.specs.declared.error.ArrayError.{ArrayError}
use Rattle.vx_rows.specs.declared.error.ArrayError.TheVariants.{OutOfMemory, BadShape, BadContent, ForeignControl, ValueTooLarge, BadCast}
use Rattle.vx_rows.specs.declared.row.RowValue.{RowValue}

-- What is refused for some cells is refused for more.
pub refused_more : (e : ArrayError) (few many budget : ℕ) → few ≤ many → RefusesCells e few budget → RefusesCells e many budget
refused_more OutOfMemory few many budget h r = tt
refused_more BadShape few many budget h r = absurd r
refused_more BadContent few many budget h r = absurd r
refused_more ForeignControl few many budget h r = absurd r
refused_more ValueTooLarge few many budget h r = omega (arith, h, r)
refused_more BadCast few many budget h r = absurd r

-- What is refused where some cells were spent is refused with them.
pub refused_after : (e : ArrayError) (spent cells left budget total : ℕ) → budget ≡ spent + left → spent + cells ≤ total → RefusesCells e cells left → RefusesCells e total budget
refused_after OutOfMemory spent cells left budget total q h r = tt
refused_after BadShape spent cells left budget total q h r = absurd r
refused_after BadContent spent cells left budget total q h r = absurd r
refused_after ForeignControl spent cells left budget total q h r = absurd r
refused_after ValueTooLarge spent cells left budget total q h r = omega (arith, q, h, r)
refused_after BadCast spent cells left budget total q h r = absurd r

-- What is said of a row, or of a number of cells, is said of the same one.
pub same_row : (r : Result RowValue ArrayError) (v w : Value) → v ≡ w → IfOk r (λ row. plain_value row ≡ v) → IfOk r (λ row. plain_value row ≡ w)
same_row r v w e h = subst (λ (z : Value). IfOk r (λ row. plain_value row ≡ z)) e h

pub same_spent : (r : Result RowValue ArrayError) (a b old new : ℕ) → a ≡ b → OnOk r (old ≡ a + new) → OnOk r (old ≡ b + new)
same_spent r a b old new e h = subst (λ (n : ℕ). OnOk r (old ≡ n + new)) e h

pub same_refused : (r : Result RowValue ArrayError) (a b budget : ℕ) → a ≡ b → IfErr r (λ e. RefusesCells e a budget) → IfErr r (λ e. RefusesCells e b budget)
same_refused r a b budget e h = subst (λ (n : ℕ). IfErr r (λ x. RefusesCells x n budget)) e h

-- Where a row was built, the budget had its n cells.
pub cells_fit : (r : Result RowValue ArrayError) (cells old new : ℕ) → OnOk r (old ≡ cells + new) → IfOk r (λ _. cells ≤ old)
cells_fit (Ok row) cells old new h = omega (arith, h)
cells_fit (Err e) cells old new h = tt

-- What steps rest on that spend cells.
pub ruleset spending = (same_row, same_spent, same_refused, cells_fit, refused_more, refused_after)
