use Rattle.std.proofs.Common.{arith}
use Rattle.std.proofs.lemmas.Int.{ints}
use Rattle.std.proofs.lemmas.Bool.Decides.{nat_tests}
use Rattle.vx_generator.specs.Columns.{stored}
use Rattle.vx_generator.proofs.columns.stored.Goals as goal

pub returns-then-draw-eq0 : goal.returns-then-draw-eq0
unfolding stored
returns-then-draw-eq0 c = grind (arith, nat_tests)

pub returns-else-draw-eq0 : goal.returns-else-draw-eq0
unfolding stored
returns-else-draw-eq0 c = grind (arith, ints, nat_tests)
