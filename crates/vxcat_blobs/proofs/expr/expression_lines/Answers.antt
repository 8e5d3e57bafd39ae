use Rattle.std.proofs.Common.{ℕ, List, ap, subst, sym, ◌∙◌}
use Rattle.vx_fn_wire.specs.Seen.{expr}
use Rattle.vxcat_blobs.specs.ExprCommand.{IsReadAsExpression, two_lines}
use Rattle.vxcat_blobs.proofs.Expressions.{as_read, memory_alone, read_as, refused}
use Rattle.vxcat_blobs.proofs.expr.expression_lines.Goals as goal

pub returns-in-Err-clause-cause : goal.returns-in-Err-clause-cause
returns-in-Err-clause-cause c =
    rw c.of_expr.ensures (refused c.in-Err.error c.args.bytes.now
    (λ x read. c.in-Err.ensures.complete x (as_read _ _ x c.new-scalars.ensures (subst (λ (l : List ℕ). IsReadAsExpression l x) (sym c.as_slice.ensures) read))))

pub returns-in-Err-to_proto_bytes-clause-cause : goal.returns-in-Err-to_proto_bytes-clause-cause
returns-in-Err-to_proto_bytes-clause-cause c =
    let e = expr c.in-Ok.expression in
    let read = subst (λ (l : List ℕ). IsReadAsExpression l e) c.as_slice.ensures (read_as _ _ e c.new-scalars.ensures c.in-Ok.ensures.read) in
    let memory = memory_alone c.in-Err-to_proto_bytes.error c.args.bytes.now e read c.in-Ok.ensures.shallow c.in-Err-to_proto_bytes.ensures.cause in
    rw c.of_expr-in-Err-to_proto_bytes.ensures (refused c.in-Err-to_proto_bytes.error c.args.bytes.now (λ x other. memory))

pub returns-in-Ok-two_lines-clause-lines : goal.returns-in-Ok-two_lines-clause-lines
returns-in-Ok-two_lines-clause-lines c =
    let e = expr c.in-Ok.expression in
    let read = subst (λ (l : List ℕ). IsReadAsExpression l e) c.as_slice.ensures (read_as _ _ e c.new-scalars.ensures c.in-Ok.ensures.read) in
    (e, read, c.in-Ok-two_lines.ensures ∙ ap (λ (l : List ℕ). two_lines e l) c.in-Ok-to_proto_bytes.ensures.exact)
