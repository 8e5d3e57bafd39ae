use Rattle.std.proofs.lemmas.Result.{err_from_is_err_and}
use Rattle.vx_flat.specs.Weight.{text_weight}
use Rattle.vx_flat.specs.Reading.{text_shown}
use Rattle.vx_flat.proofs.Each.{vector_crowded, vector_verified}
use Rattle.vx_flat.proofs.reading.verifying.verify_texts.Goals as goal

pub returns-in_err-add_bytes-clause-verifies : goal.returns-in_err-add_bytes-clause-verifies
returns-in_err-add_bytes-clause-verifies c = λ levels.
    let p = err_from_is_err_and c.from_residual.result c.from_residual.ensures.1 in
    let k = c.in_err-add_bytes.ensures.counts levels in
    let m = c.args.message.now in
    rw (p.1, p.2, k.0)
    (vector_crowded m (λ q. text_shown m q)
    (λ q. text_weight m q) c.args.budget.now levels c.args.place c.in-Some.n c.in-Some.ensures.count k.1)

pub returns-clause-verifies : goal.returns-clause-verifies
returns-clause-verifies c = λ levels.
    let m = c.args.message.now in
    vector_verified m (λ q. text_shown m q)
    (λ q. text_weight m q) c.args.budget.now levels c.args.place c.in-Some.n c.in-Some.ensures.count
    c.verify_each_text.result c.add_bytes.new.self c.verify_each_text.new.budget
    (c.in_ok-add_bytes.ensures.counts levels) (c.verify_each_text.ensures.verifies levels)
