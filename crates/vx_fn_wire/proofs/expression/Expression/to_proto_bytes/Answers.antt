use Rattle.std.proofs.Common.{rules}
use Rattle.vx_proto.specs.Reads.{Reads}
use Rattle.vx_fn_wire.specs.Messages.{expr_message}
use Rattle.vx_fn_wire.specs.Schema.{expr_lists}
use Rattle.vx_fn_wire.specs.Seen.{expr}
use Rattle.vx_fn_wire.proofs.LawsOfExpressions.{written_read}
use Rattle.vx_fn_wire.proofs.expression.Expression.to_proto_bytes.Goals as goal

pub returns-clause-read_back : goal.returns-clause-read_back
returns-clause-read_back c = λ registry unknown gives.
    let e = expr c.args.self.now in
    let shown : Reads expr_lists 0 c.new.result (expr_message e) = search rules in
    record { value = expr_message e; shown = shown; read = written_read registry unknown e c.in_ok-message.ensures.formed gives }
