-- By the steps of a loop that reads a list.
use Rattle.std.proofs.Common.{◌≡◌, ◌+◌, ◌-◌, ◌++◌, ◌∷◌, [], ap, sym, ◌∙◌, arith}
use Rattle.vx_forms.specs.Lists.{read_more}
use Rattle.vx_forms.specs.Octets.{text}
use Rattle.vx_forms.proofs.ListSteps.{list_begun, each_step, each_refused, each_done}
use Rattle.vx_file.specs.Footer.{most}
use Rattle.vx_file.proofs.footer.take_ids.Goals as goal

pub loop-init : goal.loop-init
loop-init c =
    list_begun (text 0 most) 0 most c.in-Ok.found.0 (c.in-Ok.found.0 - 0) c.new-ids.result c.args.bytes.now c.in-Ok.found.1.now
    c.in-Ok.ensures.whole c.new-ids.ensures (omega arith)

pub returns-in-Err-take_text-clause-refused : goal.returns-in-Err-take_text-clause-refused
returns-in-Err-take_text-clause-refused c =
    let left = c.in-Ok.found.0 - (c.loop.counter + 1) in
    c.loop.invariant
    ∙ each_refused (text 0 most) c.loop.ids (c.in-Ok.found.0 - c.loop.counter) left c.loop.rest.now
    c.in-Err-take_text.e (omega (arith, c.loop-test.true)) c.in-Err-take_text.ensures.refused

pub loop-preserved : goal.loop-preserved
loop-preserved c =
    let left = c.in-Ok.found.0 - (c.loop.counter + 1) in
    let found = c.in-Ok-take_text.text.now in
    let after = c.in-Ok-take_text.after.now in
    let same : c.loop.ids ++ found ∷ [] ≡ c.push.new.self
    = sym (c.in_ok-push-in-Ok-take_text.ensures.ok ∙ ap (λ z. c.loop.ids ++ z ∷ []) c.in_ok-new-in-Ok-take_text.ensures.ok) in
    c.loop.invariant
    ∙ each_step (text 0 most) c.loop.ids (c.in-Ok.found.0 - c.loop.counter) left c.loop.rest.now found
    after (omega (arith, c.loop-test.true)) c.in-Ok-take_text.ensures.whole
    ∙ ap (λ xs. read_more (text 0 most) xs left after) same

pub returns-clause-whole : goal.returns-clause-whole
returns-clause-whole c =
    c.loop.invariant
    ∙ each_done (text 0 most) c.loop.ids (c.in-Ok.found.0 - c.loop.counter) c.loop.rest.now (omega (arith, c.loop-test.false))
