-- By the steps of a loop that reads a list.
use Rattle.std.proofs.Common.{◌+◌, ◌-◌, ap, ◌∙◌, arith}
use Rattle.vx_forms.specs.Lists.{read_more}
use Rattle.vx_forms.proofs.ListSteps.{list_begun, each_step, each_refused, each_done}
use Rattle.vx_file.specs.Footer.{most, range_form}
use Rattle.vx_file.specs.FooterReading.{range_of, ranges_of}
use Rattle.vx_file.proofs.FooterLists.{pushed_ranges}
use Rattle.vx_file.proofs.footer.take_ranges.Goals as goal

pub loop-init : goal.loop-init
loop-init c =
    list_begun range_form 0 most c.in-Ok.found.0 (c.in-Ok.found.0 - 0) (ranges_of c.new-ranges.result.items) c.args.bytes.now
    c.in-Ok.found.1.now c.in-Ok.ensures.whole (ap ranges_of c.new-ranges.ensures.items) (omega arith)

pub returns-in-Err-take_range-clause-refused : goal.returns-in-Err-take_range-clause-refused
returns-in-Err-take_range-clause-refused c =
    let left = c.in-Ok.found.0 - (c.loop.counter + 1) in
    c.loop.invariant
    ∙ each_refused range_form (ranges_of c.loop.ranges.items) (c.in-Ok.found.0 - c.loop.counter) left c.loop.rest.now
    c.in-Err-take_range.e (omega (arith, c.loop-test.true)) c.in-Err-take_range.ensures.refused

pub loop-preserved : goal.loop-preserved
loop-preserved c =
    let left = c.in-Ok.found.0 - (c.loop.counter + 1) in
    let range = c.in-Ok-take_range.range in
    let after = c.in-Ok-take_range.after.now in
    c.loop.invariant
    ∙ each_step range_form (ranges_of c.loop.ranges.items) (c.in-Ok.found.0 - c.loop.counter) left c.loop.rest.now (range_of range)
    after (omega (arith, c.loop-test.true)) c.in-Ok-take_range.ensures.whole
    ∙ ap (λ rs. read_more range_form rs left after) (pushed_ranges c.loop.ranges.items range _ c.in_ok-push-in-Ok-take_range.ensures.items)

pub returns-clause-whole : goal.returns-clause-whole
returns-clause-whole c =
    c.loop.invariant
    ∙ each_done range_form (ranges_of c.loop.ranges.items) (c.in-Ok.found.0 - c.loop.counter) c.loop.rest.now
    (omega (arith, c.loop-test.false))
