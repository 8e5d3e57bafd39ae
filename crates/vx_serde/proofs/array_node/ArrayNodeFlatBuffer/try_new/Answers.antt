use Rattle.std.proofs.Common.{sym}
use Rattle.std.proofs.lemmas.Result.{err_from_is_err_and}
use Rattle.vx_type_wire.specs.Session.{ext_meaning}
use Rattle.vx_registry.specs.Meaning.{session_meaning}
use Rattle.vx_serde.specs.ArrayNode.{plain_options}
use Rattle.vx_serde.proofs.Taking.{untaken}
use Rattle.vx_serde.proofs.array_node.ArrayNodeFlatBuffer.try_new.Goals as goal

pub returns-in_err-array-clause-cause : goal.returns-in_err-array-clause-cause
returns-in_err-array-clause-cause g c =
    let s = session_meaning (λ b. (goal.ArrayPlugin-dyn g (b.vtable, b.value)).means b.value) (λ b. (goal.ExtPlugin-dyn g (b.vtable, b.value)).accepted b.value) c.args.session.now in
    let p = err_from_is_err_and c.from_residual.result c.from_residual.ensures.1 in
    rw (p.1, p.2) (untaken s plain_options c.args.array.now c.args.ctx.now c.in_err-array.field-0.0 (c.in_err-array.ensures.cause (ext_meaning (λ b. (goal.ExtPlugin-dyn g (b.vtable, b.value)).accepted b.value) c.args.session.now.ext) (sym c.allows_unknown-unknown.ensures)))

pub returns-clause-array : goal.returns-clause-array
returns-clause-array g c = c.in_ok-array.ensures.tree (ext_meaning (λ b. (goal.ExtPlugin-dyn g (b.vtable, b.value)).accepted b.value) c.args.session.now.ext) (sym c.allows_unknown-unknown.ensures)

pub returns-clause-taken : goal.returns-clause-taken
returns-clause-taken g c = c.in_ok-array.ensures.written (ext_meaning (λ b. (goal.ExtPlugin-dyn g (b.vtable, b.value)).accepted b.value) c.args.session.now.ext) (sym c.allows_unknown-unknown.ensures)

pub returns-clause-two : goal.returns-clause-two
returns-clause-two g c = c.in-Ok.ensures.two (ext_meaning (λ b. (goal.ExtPlugin-dyn g (b.vtable, b.value)).accepted b.value) c.args.session.now.ext)
