use Rattle.std.proofs.lemmas.Result.{err_from_is_err_and}
use Rattle.vx_flat.specs.Limits.{limits_to}
use Rattle.vx_types.specs.Seen.{typ}
use Rattle.vx_type_wire.specs.Session.{ext_meaning}
use Rattle.vx_registry.specs.Meaning.{session_meaning}
use Rattle.vx_registry.proofs.LawsSessions.{session_lawful}
use Rattle.vx_serialized.proofs.LawsOfRefusals.{reader_limits, unopened}
use Rattle.vx_serde.proofs.NeverCaused.{never_refused}
use Rattle.vx_serde.proofs.Readings.{all_within, all_spelled, all_undecoded, the_one, complete}
use Rattle.vx_serde.proofs.reading.read_blob.Goals as goal

-- ---- the blob is not opened

pub returns-in_err-serialized-clause-cause : goal.returns-in_err-serialized-clause-cause
returns-in_err-serialized-clause-cause g c =
    let p = err_from_is_err_and c.from_residual.result c.from_residual.ensures.1 in
    let s = session_meaning (λ b. (goal.ArrayPlugin-dyn g (b.vtable, b.value)).means b.value) (λ b. (goal.ExtPlugin-dyn g (b.vtable, b.value)).accepted b.value) c.args.session.now in
    rw (p.1, p.2) (unopened (limits_to c.args.deep) s c.args.blob.bytes c.args.read_ids.now (typ c.args.dtype.now) c.args.len c.in_err-serialized.field-0.0 c.in_err-serialized.ensures.cause)

pub returns-in_err-serialized-clause-complete : goal.returns-in_err-serialized-clause-complete
returns-in_err-serialized-clause-complete g c = λ within t spelled.
    let p = err_from_is_err_and c.from_residual.result c.from_residual.ensures.1 in
    let x = ext_meaning (λ b. (goal.ExtPlugin-dyn g (b.vtable, b.value)).accepted b.value) c.args.session.now.ext in
    let s = session_meaning (λ b. (goal.ArrayPlugin-dyn g (b.vtable, b.value)).means b.value) (λ b. (goal.ExtPlugin-dyn g (b.vtable, b.value)).accepted b.value) c.args.session.now in
    let e = c.in_err-serialized.field-0.0 in
    let law = session_lawful (λ b. (goal.ArrayPlugin-dyn g (b.vtable, b.value)).means b.value) c.args.session.now.arrays x in
    let cause = unopened (limits_to c.args.deep) s c.args.blob.bytes c.args.read_ids.now (typ c.args.dtype.now) c.args.len e c.in_err-serialized.ensures.cause in
    rw (p.1, p.2) (tt, never_refused (limits_to c.args.deep) s law c.args.blob.bytes c.args.read_ids.now (typ c.args.dtype.now) c.args.len t spelled within e cause)

-- ---- it is opened

pub returns-clause-spelled : goal.returns-clause-spelled
returns-clause-spelled g c =
    let s = session_meaning (λ b. (goal.ArrayPlugin-dyn g (b.vtable, b.value)).means b.value) (λ b. (goal.ExtPlugin-dyn g (b.vtable, b.value)).accepted b.value) c.args.session.now in
    all_spelled (limits_to c.args.deep) s c.args.blob.bytes c.args.read_ids.now (typ c.args.dtype.now) c.args.len c.in_ok-serialized.serialized c.in_ok-serialized.ensures.opened c.decode.result c.decode.ensures.told

pub returns-clause-within_limits : goal.returns-clause-within_limits
returns-clause-within_limits g c = all_within c.decode.result (reader_limits (limits_to c.args.deep) c.args.blob.bytes c.in_ok-serialized.serialized c.in_ok-serialized.ensures.opened)

pub returns-clause-cause : goal.returns-clause-cause
returns-clause-cause g c =
    let s = session_meaning (λ b. (goal.ArrayPlugin-dyn g (b.vtable, b.value)).means b.value) (λ b. (goal.ExtPlugin-dyn g (b.vtable, b.value)).accepted b.value) c.args.session.now in
    all_undecoded (limits_to c.args.deep) s c.args.blob.bytes c.args.read_ids.now (typ c.args.dtype.now) c.args.len c.in_ok-serialized.serialized c.in_ok-serialized.ensures.opened c.decode.result c.decode.ensures.cause

pub returns-clause-the_one : goal.returns-clause-the_one
returns-clause-the_one g c =
    let x = ext_meaning (λ b. (goal.ExtPlugin-dyn g (b.vtable, b.value)).accepted b.value) c.args.session.now.ext in
    let s = session_meaning (λ b. (goal.ArrayPlugin-dyn g (b.vtable, b.value)).means b.value) (λ b. (goal.ExtPlugin-dyn g (b.vtable, b.value)).accepted b.value) c.args.session.now in
    let law = session_lawful (λ b. (goal.ArrayPlugin-dyn g (b.vtable, b.value)).means b.value) c.args.session.now.arrays x in
    the_one (limits_to c.args.deep) s c.args.blob.bytes c.args.read_ids.now (typ c.args.dtype.now) c.args.len law c.decode.result (returns-clause-spelled g c)

pub returns-clause-complete : goal.returns-clause-complete
returns-clause-complete g c = λ within t spelled.
    let x = ext_meaning (λ b. (goal.ExtPlugin-dyn g (b.vtable, b.value)).accepted b.value) c.args.session.now.ext in
    let s = session_meaning (λ b. (goal.ArrayPlugin-dyn g (b.vtable, b.value)).means b.value) (λ b. (goal.ExtPlugin-dyn g (b.vtable, b.value)).accepted b.value) c.args.session.now in
    let law = session_lawful (λ b. (goal.ArrayPlugin-dyn g (b.vtable, b.value)).means b.value) c.args.session.now.arrays x in
    complete (limits_to c.args.deep) s c.args.blob.bytes c.args.read_ids.now (typ c.args.dtype.now) c.args.len law c.decode.result (returns-clause-spelled g c) (returns-clause-cause g c) within t spelled
