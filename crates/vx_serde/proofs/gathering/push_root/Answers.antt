use Rattle.std.proofs.Common.{◌++◌, ◌∷◌, [], ◌∙◌, ap, sym}
use Rattle.std.proofs.lemmas.Result.{err_from_is_err_and}
use Rattle.vx_serde.proofs.gathering.push_root.Goals as goal

pub returns-clause-encodings : goal.returns-clause-encodings
returns-clause-encodings c = λ more.
    c.in_ok-push.ensures.items ∙ ap (λ n. c.args.found.now.encodings.items ++ n ∷ []) (sym (c.in_ok-encoding.ensures.number more))

pub returns-in_err-encoding-clause-cause : goal.returns-in_err-encoding-clause-cause
returns-in_err-encoding-clause-cause c =
    let p = err_from_is_err_and c.from_residual.result c.from_residual.ensures.1 in
    rw (p.1, p.2) c.in_err-encoding.ensures.cause
