-- By the steps of a loop that reads a list.
use Rattle.std.proofs.Common.{◌+◌, ◌-◌, ap, sym, ◌∙◌, arith}
use Rattle.vx_forms.specs.Lists.{read_more}
use Rattle.vx_forms.specs.Numbers.{uint64}
use Rattle.vx_forms.proofs.ListSteps.{each_step, each_refused}
use Rattle.vx_forms_tests.proofs.sizes.take_numbers.Goals as goal

pub returns-in-Err-take_u64-clause-refused : goal.returns-in-Err-take_u64-clause-refused
returns-in-Err-take_u64-clause-refused c =
    let left = c.in-Ok.found.0 - (c.loop.counter + 1) in
    c.loop.invariant
    ∙ each_refused uint64 c.loop.values.items (c.in-Ok.found.0 - c.loop.counter) left c.loop.rest.now c.in-Err-take_u64.e
    (omega (arith, c.loop-test.true)) c.in-Err-take_u64.ensures.refused

pub loop-preserved : goal.loop-preserved
loop-preserved c =
    let left = c.in-Ok.found.0 - (c.loop.counter + 1) in
    c.loop.invariant
    ∙ each_step uint64 c.loop.values.items (c.in-Ok.found.0 - c.loop.counter) left c.loop.rest.now c.in-Ok-take_u64.value
    c.in-Ok-take_u64.after.now (omega (arith, c.loop-test.true)) c.in-Ok-take_u64.ensures.whole
    ∙ ap (λ xs. read_more uint64 xs left c.in-Ok-take_u64.after.now) (sym c.in_ok-push-in-Ok-take_u64.ensures.items)
