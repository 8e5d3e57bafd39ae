use Rattle.std.proofs.Common.{◌≡◌, IfOk, subst}
use Rattle.vx_fn_wire.proofs.AggregateParts.{read_of, caused_of, one_read, none_read}
use Rattle.vx_fn_wire.proofs.aggregate_fn.AggregateFn.from_proto.Goals as goal

pub returns-clause-read : goal.returns-clause-read
returns-clause-read g c =
    let named : c.in_ok-id.id ≡ c.parts_of-parts.result.id.now = subst (λ r. IfOk r (λ i. i ≡ c.parts_of-parts.result.id.now)) c.in_ok-id.ensures.same c.new.ensures.ok in
    read_of _ c.args.session.now.unknown _ _ _ _ _ _ c.parts_of-parts.ensures named c.metadata_or_none-metadata.ensures c.function_of.ensures.given

pub returns-clause-cause : goal.returns-clause-cause
returns-clause-cause g c =
    let named : c.in_ok-id.id ≡ c.parts_of-parts.result.id.now = subst (λ r. IfOk r (λ i. i ≡ c.parts_of-parts.result.id.now)) c.in_ok-id.ensures.same c.new.ensures.ok in
    caused_of _ c.args.session.now.unknown _ _ _ _ _ _ c.parts_of-parts.ensures named c.metadata_or_none-metadata.ensures c.function_of.ensures.cause

pub returns-clause-complete : goal.returns-clause-complete
returns-clause-complete g c = λ f reads.
    one_read _ c.args.session.now.unknown _ _ f (returns-clause-read g c) (returns-clause-cause g c) reads

pub returns-clause-refused : goal.returns-clause-refused
returns-clause-refused g c = λ e cause.
    none_read _ c.args.session.now.unknown _ _ e (returns-clause-read g c) cause
