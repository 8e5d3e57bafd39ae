use Rattle.std.proofs.lemmas.Result.{err_from_is_err_and}
use Rattle.vx_types.specs.Seen.{typ}
use Rattle.vx_registry.specs.Meaning.{reader_in, session_meaning}
use Rattle.vx_serialized.specs.Serialized.{wire_in}
use Rattle.vx_serialized.proofs.NodeTold.{caused_by_plan, node_of}
use Rattle.vx_serialized.proofs.decoding.plan_node.Goals as goal

pub returns-clause-read : goal.returns-clause-read
returns-clause-read g c = λ ids named read.
    let s = session_meaning (λ b. (goal.ArrayPlugin-dyn g (b.vtable, b.value)).means b.value) (λ b. (goal.ExtPlugin-dyn g (b.vtable, b.value)).accepted b.value) c.args.session.now in
    let r = reader_in (λ b. (goal.ArrayPlugin-dyn g (b.vtable, b.value)).means b.value) c.args.session.now.arrays c.args.entry in
    node_of s (wire_in ids c.args.node.now) (typ c.args.dtype.now) c.args.len r c.in_ok-head.head c.args.id.now named c.in_ok-head.ensures.id read (c.in_ok-head.ensures.head ids)

pub returns-in_err-children-clause-cause : goal.returns-in_err-children-clause-cause
returns-in_err-children-clause-cause g c = λ ids named read.
    let p = err_from_is_err_and c.from_residual-in_err-children.result c.from_residual-in_err-children.ensures.1 in
    let s = session_meaning (λ b. (goal.ArrayPlugin-dyn g (b.vtable, b.value)).means b.value) (λ b. (goal.ExtPlugin-dyn g (b.vtable, b.value)).accepted b.value) c.args.session.now in
    let r = reader_in (λ b. (goal.ArrayPlugin-dyn g (b.vtable, b.value)).means b.value) c.args.session.now.arrays c.args.entry in
    let w = wire_in ids c.args.node.now in
    rw (p.1, p.2)
    (caused_by_plan s c.in_err-children.field-0.0 w (typ c.args.dtype.now) c.args.len r c.in_ok-head.head
    (node_of s w (typ c.args.dtype.now) c.args.len r c.in_ok-head.head c.args.id.now named c.in_ok-head.ensures.id read (c.in_ok-head.ensures.head ids)) c.in_err-children.ensures.cause)
