-- The cells of a row are those of the value that it is.
use Rattle.std.proofs.Common.{ap}
use Rattle.vx_types.specs.Value.{Value, value_cells}
use Rattle.vx_rows.specs.Plain.{plain_value}
use Rattle.vx_rows.proofs.LawsOfCells.{same_refused, same_row, same_spent}
use Rattle.vx_arrays.proofs.parts.spent_over.Goals as goal

pub returns-clause-row : goal.returns-clause-row
returns-clause-row c = same_row c.spent_row.result (plain_value c.in_ok-row.row) _ c.in_ok-row.ensures.ok c.spent_row.ensures.row

pub returns-clause-spent : goal.returns-clause-spent
returns-clause-spent c = same_spent c.spent_row.result _ _ _ _ (ap (λ (v : Value). value_cells v) c.in_ok-row.ensures.ok) c.spent_row.ensures.spent

pub returns-clause-err : goal.returns-clause-err
returns-clause-err c = same_refused c.spent_row.result _ _ _ (ap (λ (v : Value). value_cells v) c.in_ok-row.ensures.ok) c.spent_row.ensures.err
