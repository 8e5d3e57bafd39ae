use Rattle.vx_fn_wire.proofs.ReadBytes.{one_read, none_read}
use Rattle.vx_fn_wire.proofs.expression.Expression.from_proto.Goals as goal

pub returns-clause-complete : goal.returns-clause-complete
returns-clause-complete g c = λ t reads.
    one_read _ c.args.session.now.unknown _ _ c.expression_of.ensures.read c.expression_of.ensures.cause t reads

pub returns-clause-refused : goal.returns-clause-refused
returns-clause-refused g c = λ e cause.
    none_read _ c.args.session.now.unknown _ _ c.expression_of.ensures.read e cause
