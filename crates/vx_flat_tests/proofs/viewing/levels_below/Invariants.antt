use Rattle.vx_flat.specs.Seen.{IsViewOf}
use Rattle.vx_flat_tests.specs.Worked.{array_schema}
use Rattle.vx_flat_tests.proofs.viewing.levels_below.Given as goal

abbrev pub invariant-loop-level : goal.invariant-loop-level
invariant-loop-level l = IsViewOf array_schema 1 l.view
