use Rattle.vx_types.specs.Seen.{typ}
use Rattle.vx_type_wire.specs.Session.{ext_meaning}
use Rattle.vx_registry.specs.Meaning.{session_meaning}
use Rattle.vx_registry.proofs.LawsSessions.{session_lawful}
use Rattle.vx_serialized.specs.Serialized.{wire_in}
use Rattle.vx_serialized.proofs.LawsOfTrees.{told_one}
use Rattle.vx_serialized.proofs.serialized.node.SerializedNode.decode.Goals as goal

pub returns-clause-one : goal.returns-clause-one
returns-clause-one g c = λ t told.
    let x = ext_meaning (λ b. (goal.ExtPlugin-dyn g (b.vtable, b.value)).accepted b.value) c.args.session.now.ext in
    let s = session_meaning (λ b. (goal.ArrayPlugin-dyn g (b.vtable, b.value)).means b.value) (λ b. (goal.ExtPlugin-dyn g (b.vtable, b.value)).accepted b.value) c.args.session.now in
    told_one s (session_lawful (λ b. (goal.ArrayPlugin-dyn g (b.vtable, b.value)).means b.value) c.args.session.now.arrays x) (wire_in c.args.ids.now c.args.self.now) (typ c.args.dtype.now) c.args.len c.decode_node.result c.decode_node.ensures.told c.decode_node.ensures.cause t told
