-- The values so far, before what is still to be read, are the whole list.
use Rattle.std.proofs.Common.{◌≡◌, ◌-◌}
use Rattle.vx_forms.specs.Lists.{read_more}
use Rattle.vx_forms.specs.Numbers.{uint64}
use Rattle.vx_forms_tests.specs.Sizes.{numbers}
use Rattle.vx_forms_tests.proofs.sizes.take_numbers.Given as goal

abbrev pub invariant-loop : goal.invariant-loop
invariant-loop l = numbers.read l.fn.bytes ≡ read_more uint64 l.values.items (l.count - l.counter) l.rest
