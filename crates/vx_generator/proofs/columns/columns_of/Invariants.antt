use Rattle.std.proofs.Common.{◌≡◌}
use Rattle.vx_generator.specs.Columns.{before, columns}
use Rattle.vx_generator.proofs.columns.columns_of.Given as goal

abbrev pub invariant-loop-row : goal.invariant-loop-row
invariant-loop-row l = (l.columns ≡ columns l.fn.seed l.rows l.row) × (l.draws ≡ before l.fn.seed l.row)
