use Rattle.std.proofs.Common.{◌≡◌, ◌⊎◌}
use Rattle.std.proofs.lemmas.Result.{err_from_is_err_and}
use Rattle.vx_fn_wire.specs.ReadsExpr.{RefusesReadingExprBytes}
use Rattle.vx_fn_wire.specs.Refusals.{refusal_of_proto}
use Rattle.vx_fn_wire.specs.Session.{scalars_meaning}
use Rattle.vx_fn_wire.specs.declared.error.FnWireError.TheVariants.{OutOfMemory}
use Rattle.vx_fn_wire.proofs.ReadBytes.{bytes_unread, of_bytes, refused_bytes, read_shallow}
use Rattle.vx_trees.proofs.LawsOfResults.{at_error}
use Rattle.vx_fn_wire.proofs.expression.Expression.from_proto_bytes.Goals as goal

pub returns-in_err-message-clause-cause : goal.returns-in_err-message-clause-cause
returns-in_err-message-clause-cause g c =
    let p = err_from_is_err_and c.from_residual.result c.from_residual.ensures.1 in
    let registry = scalars_meaning (λ z. (g.dyn-1.0.entry z.vtable).1.scalar_of z.value) c.args.session.now.scalars in
    let unknown = c.args.session.now.unknown in
    let error = c.in_err-message.field-0.0 in
    at_error c.from_residual.result p.0 (refusal_of_proto error) (λ e. (e ≡ OutOfMemory) ⊎ RefusesReadingExprBytes registry unknown e c.args.bytes.now) p.1 p.2
    (bytes_unread registry unknown c.args.bytes.now error c.in_err-message.ensures.cause)

pub returns-clause-complete : goal.returns-clause-complete
returns-clause-complete g c =
    let registry = scalars_meaning (λ z. (g.dyn-1.0.entry z.vtable).1.scalar_of z.value) c.args.session.now.scalars in
    λ e h. c.from_proto.ensures.complete e (of_bytes registry c.args.session.now.unknown c.args.bytes.now c.in_ok-message.message e c.in_ok-message.ensures.found h)

pub returns-clause-refused : goal.returns-clause-refused
returns-clause-refused g c =
    let registry = scalars_meaning (λ z. (g.dyn-1.0.entry z.vtable).1.scalar_of z.value) c.args.session.now.scalars in
    λ e u. refused_bytes registry c.args.session.now.unknown c.args.bytes.now c.in_ok-message.message c.from_proto.result e c.in_ok-message.ensures.found c.from_proto.ensures.refused u

pub returns-clause-shallow : goal.returns-clause-shallow
returns-clause-shallow g c =
    let registry = scalars_meaning (λ z. (g.dyn-1.0.entry z.vtable).1.scalar_of z.value) c.args.session.now.scalars in
    read_shallow registry c.args.session.now.unknown c.in_ok-message.message c.from_proto.result c.in_ok-message.ensures.nests c.from_proto.ensures.read
