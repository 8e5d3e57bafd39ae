use Rattle.std.proofs.Common.{sym}
use Rattle.vx_type_wire.specs.Session.{ext_meaning}
use Rattle.vx_registry.proofs.session.VortexSession.array_serialize.Goals as goal

pub returns-clause-parts : goal.returns-clause-parts
returns-clause-parts g c = c.serialize_root.ensures.parts (ext_meaning (λ b. (goal.ExtPlugin-dyn g (b.vtable, b.value)).accepted b.value) c.args.self.now.ext) (sym c.allows_unknown.ensures)

pub returns-clause-cause : goal.returns-clause-cause
returns-clause-cause g c = c.serialize_root.ensures.cause (ext_meaning (λ b. (goal.ExtPlugin-dyn g (b.vtable, b.value)).accepted b.value) c.args.self.now.ext) (sym c.allows_unknown.ensures)
