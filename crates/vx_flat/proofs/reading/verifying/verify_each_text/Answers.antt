use Rattle.std.proofs.Common.{arith, refl, ◌∙◌}
use Rattle.std.proofs.lemmas.Result.{err_from_is_err_and}
use Rattle.vx_flat.specs.Weight.{text_weight}
use Rattle.vx_flat.specs.Reading.{text_shown}
use Rattle.vx_flat.proofs.Each.{each_starts, each_fails, each_next, each_done}
use Rattle.vx_flat.proofs.reading.verifying.verify_each_text.Goals as goal

pub loop-init : goal.loop-init
loop-init c = (
  omega arith,
  λ levels. each_starts c.args.message.now (λ q. text_shown c.args.message.now q)
      (λ q. text_weight c.args.message.now q) c.args.budget.now levels c.args.place c.args.n,
  refl,
)

pub returns-in_err-verify_text-clause-verifies : goal.returns-in_err-verify_text-clause-verifies
returns-in_err-verify_text-clause-verifies c = λ levels.
    let p = err_from_is_err_and c.from_residual.result c.from_residual.ensures.1 in
    let m = c.args.message.now in
    rw (p.1, p.2)
    (each_fails m (λ q. text_shown m q)
    (λ q. text_weight m q) c.args.budget.now levels c.args.place c.args.n c.in_err-verify_text.field-0.0 c.loop.budget
    c.loop.at c.loop.counter
    c.loop-test.true (c.loop.invariant.1 levels) (rw (← c.target_at.ensures) (c.in_err-verify_text.ensures.verifies levels)))

pub loop-preserved : goal.loop-preserved
loop-preserved c = (
  omega (arith, c.loop.invariant.0),
  λ levels.
      let m = c.args.message.now in
      let k = c.in_ok-verify_text.ensures.verifies levels in
      each_next m (λ q. text_shown m q)
      (λ q. text_weight m q) c.args.budget.now levels c.args.place c.args.n c.loop.budget c.verify_text.new.budget
      c.loop.at c.loop.counter
      c.loop-test.true (c.loop.invariant.1 levels) (rw (← c.target_at.ensures) k.0)
      (rw (← c.target_at.ensures) k.1),
  let e = c.in_ok-verify_text.ensures.tables in e ∙ c.loop.invariant.2,
)

pub returns-clause-verifies : goal.returns-clause-verifies
returns-clause-verifies c = λ levels.
    each_done c.args.message.now (λ q. text_shown c.args.message.now q)
    (λ q. text_weight c.args.message.now q) c.args.budget.now levels c.args.place c.args.n c.loop.budget c.loop.at
    c.loop.counter
    c.loop-test.false (c.loop.invariant.1 levels)
