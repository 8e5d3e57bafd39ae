use Rattle.std.proofs.Common.{◌≡◌, ◌∙◌, sym, subst}
use Rattle.vx_fn_wire.specs.ReadsExpr.{ReadsExpr}
use Rattle.vx_fn_wire.specs.Seen.{expr}
use Rattle.vx_fn_wire.proofs.LawsOfExpressions.{written_read}
use Rattle.vx_fn_wire.proofs.expression.Expression.message.Goals as goal

pub returns-clause-read_back : goal.returns-clause-read_back
returns-clause-read_back c = λ registry unknown gives.
    let e = expr c.args.self.now in
    subst (λ m. ReadsExpr registry unknown m e) (sym (c.new.ensures ∙ c.in_ok-slots.ensures.same)) (written_read registry unknown e c.in_ok-slots.ensures.formed gives)
