use Rattle.std.proofs.Common.{◌≡◌, ◌++◌}
use Rattle.vx_generator.specs.Columns.{element_bytes}
use Rattle.vx_generator.specs.Draws.{after}
use Rattle.vx_generator.proofs.columns.push_elements.Given as goal

abbrev pub invariant-loop : goal.invariant-loop
invariant-loop l = (l.elements.items ≡ l.initial.elements.items ++ element_bytes l.initial.draws l.counter) × (l.draws ≡ after l.initial.draws l.counter)
