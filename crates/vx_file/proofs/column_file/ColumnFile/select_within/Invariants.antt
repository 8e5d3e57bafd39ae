-- The columns so far are those that were asked so far.
use Rattle.std.proofs.Common.{take}
use Rattle.vx_registry.specs.Meaning.{session_meaning}
use Rattle.vx_file.proofs.SelectingSteps.{HasSelected}
use Rattle.vx_file.proofs.column_file.ColumnFile.select_within.Given as goal

abbrev pub invariant-loop-column : goal.invariant-loop-column
invariant-loop-column g l =
    let s = session_meaning (λ b. (goal.ArrayPlugin-dyn g (b.vtable, b.value)).means b.value) (λ b. (goal.ExtPlugin-dyn g (b.vtable, b.value)).accepted b.value) l.session in
    HasSelected s l.self l.start (take l.column-index l.column-items) l.arrays.items (g.R.Ranges.state l.fn.ranges) (g.R.Ranges.state l.ranges)
