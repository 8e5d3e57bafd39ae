use Rattle.std.proofs.lemmas.Result.{err_from_is_err_and}
use Rattle.vx_type_wire.specs.Session.{ext_meaning}
use Rattle.vx_registry.specs.Meaning.{session_meaning}
use Rattle.vx_registry.proofs.LawsSessions.{session_lawful}
use Rattle.vx_serde.specs.Request.{request}
use Rattle.vx_serde.specs.Recoding.{product}
use Rattle.vx_serde.proofs.NeverCaused.{memory_at_reading, memory_at_array}
use Rattle.vx_serde.proofs.Recodings.{recoded, faithful, left-still, left-written, caused_by_reading, caused_by_writing, written_of_reading}
use Rattle.vx_serde.proofs.recoding.recode.Goals as goal

-- ---- the blob is not read

pub returns-in_err-array-clause-shipped : goal.returns-in_err-array-clause-shipped
returns-in_err-array-clause-shipped g c = λ ok.
    let p = err_from_is_err_and c.from_residual.result c.from_residual.ensures.1 in
    let x = ext_meaning (λ b. (goal.ExtPlugin-dyn g (b.vtable, b.value)).accepted b.value) c.args.session.now.ext in
    let asked = request c.args.blob c.args.dtype.now c.args.len c.args.read_ids.now c.args.ctx.now (session_meaning (λ b. (goal.ArrayPlugin-dyn g (b.vtable, b.value)).means b.value) (λ b. (goal.ExtPlugin-dyn g (b.vtable, b.value)).accepted b.value) c.args.session.now) c.args.options.now in
    rw (p.1, p.2) (tt, λ can. memory_at_reading asked (session_lawful (λ b. (goal.ArrayPlugin-dyn g (b.vtable, b.value)).means b.value) c.args.session.now.arrays x) c.in_err-array.field-0.0 can c.in_err-array.ensures.cause)

pub returns-in_err-array-clause-left : goal.returns-in_err-array-clause-left
returns-in_err-array-clause-left g c =
    let asked = request c.args.blob c.args.dtype.now c.args.len c.args.read_ids.now c.args.ctx.now (session_meaning (λ b. (goal.ArrayPlugin-dyn g (b.vtable, b.value)).means b.value) (λ b. (goal.ExtPlugin-dyn g (b.vtable, b.value)).accepted b.value) c.args.session.now) c.args.options.now in
    left-still asked

pub returns-in_err-array-clause-cause : goal.returns-in_err-array-clause-cause
returns-in_err-array-clause-cause g c =
    let p = err_from_is_err_and c.from_residual.result c.from_residual.ensures.1 in
    let asked = request c.args.blob c.args.dtype.now c.args.len c.args.read_ids.now c.args.ctx.now (session_meaning (λ b. (goal.ArrayPlugin-dyn g (b.vtable, b.value)).means b.value) (λ b. (goal.ExtPlugin-dyn g (b.vtable, b.value)).accepted b.value) c.args.session.now) c.args.options.now in
    rw (p.1, p.2) (caused_by_reading asked c.in_err-array.field-0.0 c.in_err-array.ensures.cause)

-- ---- the array is not written

pub returns-in_err-buffers-clause-cause : goal.returns-in_err-buffers-clause-cause
returns-in_err-buffers-clause-cause g c =
    let p = err_from_is_err_and c.from_residual-in_err-buffers.result c.from_residual-in_err-buffers.ensures.1 in
    let x = ext_meaning (λ b. (goal.ExtPlugin-dyn g (b.vtable, b.value)).accepted b.value) c.args.session.now.ext in
    let asked = request c.args.blob c.args.dtype.now c.args.len c.args.read_ids.now c.args.ctx.now (session_meaning (λ b. (goal.ArrayPlugin-dyn g (b.vtable, b.value)).means b.value) (λ b. (goal.ExtPlugin-dyn g (b.vtable, b.value)).accepted b.value) c.args.session.now) c.args.options.now in
    rw (p.1, p.2) (caused_by_writing asked (session_lawful (λ b. (goal.ArrayPlugin-dyn g (b.vtable, b.value)).means b.value) c.args.session.now.arrays x) c.in_ok-array.ensures.paired c.in_err-buffers.field-0.0 c.in_ok-array.array c.in_ok-array.ensures.spelled c.in_err-buffers.ensures.cause)

pub returns-in_err-buffers-clause-shipped : goal.returns-in_err-buffers-clause-shipped
returns-in_err-buffers-clause-shipped g c = λ ok.
    let p = err_from_is_err_and c.from_residual-in_err-buffers.result c.from_residual-in_err-buffers.ensures.1 in
    let x = ext_meaning (λ b. (goal.ExtPlugin-dyn g (b.vtable, b.value)).accepted b.value) c.args.session.now.ext in
    let asked = request c.args.blob c.args.dtype.now c.args.len c.args.read_ids.now c.args.ctx.now (session_meaning (λ b. (goal.ArrayPlugin-dyn g (b.vtable, b.value)).means b.value) (λ b. (goal.ExtPlugin-dyn g (b.vtable, b.value)).accepted b.value) c.args.session.now) c.args.options.now in
    rw (p.1, p.2) (tt, λ can. memory_at_array asked ok (session_lawful (λ b. (goal.ArrayPlugin-dyn g (b.vtable, b.value)).means b.value) c.args.session.now.arrays x) c.in_ok-array.ensures.paired c.in_err-buffers.field-0.0 c.in_ok-array.array c.in_ok-array.ensures.spelled can c.in_err-buffers.ensures.cause)

pub returns-in_err-buffers-clause-unread : goal.returns-in_err-buffers-clause-unread
returns-in_err-buffers-clause-unread g c =
    let p = err_from_is_err_and c.from_residual-in_err-buffers.result c.from_residual-in_err-buffers.ensures.1 in
    let asked = request c.args.blob c.args.dtype.now c.args.len c.args.read_ids.now c.args.ctx.now (session_meaning (λ b. (goal.ArrayPlugin-dyn g (b.vtable, b.value)).means b.value) (λ b. (goal.ExtPlugin-dyn g (b.vtable, b.value)).accepted b.value) c.args.session.now) c.args.options.now in
    rw (p.1, p.2) (λ read. absurd (written_of_reading asked c.in_err-buffers.field-0.0 c.in_ok-array.array c.in_err-buffers.ensures.cause read))

pub returns-in_err-buffers-clause-left : goal.returns-in_err-buffers-clause-left
returns-in_err-buffers-clause-left g c =
    let x = ext_meaning (λ b. (goal.ExtPlugin-dyn g (b.vtable, b.value)).accepted b.value) c.args.session.now.ext in
    let asked = request c.args.blob c.args.dtype.now c.args.len c.args.read_ids.now c.args.ctx.now (session_meaning (λ b. (goal.ArrayPlugin-dyn g (b.vtable, b.value)).means b.value) (λ b. (goal.ExtPlugin-dyn g (b.vtable, b.value)).accepted b.value) c.args.session.now) c.args.options.now in
    left-written asked (session_lawful (λ b. (goal.ArrayPlugin-dyn g (b.vtable, b.value)).means b.value) c.args.session.now.arrays x) c.in_ok-array.array c.serialize.new.ctx c.in_ok-array.ensures.spelled c.serialize.ensures.left c.serialize.ensures.own

-- ---- all is done

pub returns-clause-made : goal.returns-clause-made
returns-clause-made g c =
    let x = ext_meaning (λ b. (goal.ExtPlugin-dyn g (b.vtable, b.value)).accepted b.value) c.args.session.now.ext in
    let asked = request c.args.blob c.args.dtype.now c.args.len c.args.read_ids.now c.args.ctx.now (session_meaning (λ b. (goal.ArrayPlugin-dyn g (b.vtable, b.value)).means b.value) (λ b. (goal.ExtPlugin-dyn g (b.vtable, b.value)).accepted b.value) c.args.session.now) c.args.options.now in
    let made = product (record { array = c.in_ok-array.array; buffers = c.in_ok-buffers.buffers }) c.serialize.new.ctx in
    let law = session_lawful (λ b. (goal.ArrayPlugin-dyn g (b.vtable, b.value)).means b.value) c.args.session.now.arrays x in
    recoded asked made law c.in_ok-array.ensures.paired c.in_ok-array.ensures.spelled c.in_ok-array.ensures.within_limits c.in_ok-buffers.ensures.made

pub returns-clause-shipped : goal.returns-clause-shipped
returns-clause-shipped g c = λ ok.
    let x = ext_meaning (λ b. (goal.ExtPlugin-dyn g (b.vtable, b.value)).accepted b.value) c.args.session.now.ext in
    let asked = request c.args.blob c.args.dtype.now c.args.len c.args.read_ids.now c.args.ctx.now (session_meaning (λ b. (goal.ArrayPlugin-dyn g (b.vtable, b.value)).means b.value) (λ b. (goal.ExtPlugin-dyn g (b.vtable, b.value)).accepted b.value) c.args.session.now) c.args.options.now in
    let made = product (record { array = c.in_ok-array.array; buffers = c.in_ok-buffers.buffers }) c.serialize.new.ctx in
    let law = session_lawful (λ b. (goal.ArrayPlugin-dyn g (b.vtable, b.value)).means b.value) c.args.session.now.arrays x in
    (faithful asked made ok law c.in_ok-array.ensures.paired (returns-clause-made g c), λ can. tt)

pub returns-clause-left : goal.returns-clause-left
returns-clause-left g c =
    let x = ext_meaning (λ b. (goal.ExtPlugin-dyn g (b.vtable, b.value)).accepted b.value) c.args.session.now.ext in
    let asked = request c.args.blob c.args.dtype.now c.args.len c.args.read_ids.now c.args.ctx.now (session_meaning (λ b. (goal.ArrayPlugin-dyn g (b.vtable, b.value)).means b.value) (λ b. (goal.ExtPlugin-dyn g (b.vtable, b.value)).accepted b.value) c.args.session.now) c.args.options.now in
    left-written asked (session_lawful (λ b. (goal.ArrayPlugin-dyn g (b.vtable, b.value)).means b.value) c.args.session.now.arrays x) c.in_ok-array.array c.serialize.new.ctx c.in_ok-array.ensures.spelled c.serialize.ensures.left c.serialize.ensures.own
