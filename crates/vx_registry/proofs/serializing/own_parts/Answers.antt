use Rattle.std.proofs.Common.{IfOk, sym, subst}
use Rattle.vx_registry.specs.Serialization.{HasPartsOf}
use Rattle.vx_registry.proofs.serializing.own_parts.Goals as goal

pub returns-clause-parts : goal.returns-clause-parts
returns-clause-parts g c = λ x. subst (λ b. IfOk c.written_as.result (HasPartsOf b c.args.array.now)) (sym (c.in-Ok.ensures.two x)) c.written_as.ensures.parts
