use Rattle.std.specs.Fn.{FnReturnsAt}
use Rattle.std.proofs.Common.{rules, Err}
use Rattle.vx_proto.specs.Value.{Value, value_view}
use Rattle.vx_scalar_wire.proofs.reading.type_in.Goals as goal

pub returns-clause-cause : goal.returns-clause-cause
returns-clause-cause g c = λ s k.
    let t : Value = value_view c.args.slots.now in
    let says : FnReturnsAt g.F.Fn c.args.types.now t (Err c.in-Err.error) = search rules in
    c.type_refusal.ensures s t (k t (Err c.in-Err.error) says)
