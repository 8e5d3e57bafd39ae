use Rattle.std.specs.Prelude.{Err}
use Rattle.std.proofs.Common.{◌≡◌, refl}
use Rattle.std.proofs.lemmas.Result.{err_from_is_err_and}
use Rattle.vx_type_wire.specs.Known.{no_readers}
use Rattle.vx_types.specs.Seen.{typ}
use Rattle.vx_scalar_wire.specs.StatsUnread.{RefusesStatBytes}
use Rattle.vx_scalar_wire.specs.declared.error.ScalarWireError.TheVariants.{OutOfMemory}
use Rattle.vx_trees.proofs.LawsOfResults.{at_error}
use Rattle.vx_scalar_wire.proofs.StatsValues.{read_some, value_told, bytes_refused, told_read, told_fits}
use Rattle.vx_scalar_wire.proofs.stats.reading.value_of_type.Goals as goal

pub returns-in_err-value-clause-cause : goal.returns-in_err-value-clause-cause
returns-in_err-value-clause-cause c =
    let r = c.from_residual.result in
    let q = err_from_is_err_and r c.from_residual.ensures.1 in
    let e = c.in_err-value.field-0.0 in
    let d = typ c.args.dtype.now in
    at_error r q.0 e (λ z. RefusesStatBytes z d c.args.bytes.now) q.1 q.2 (bytes_refused _ e d c.args.bytes.now c.new-readers.ensures c.in_err-value.ensures.cause)

pub returns-in_err-value-clause-complete : goal.returns-in_err-value-clause-complete
returns-in_err-value-clause-complete c = λ h.
    let r = c.from_residual.result in
    let q = err_from_is_err_and r c.from_residual.ensures.1 in
    let e = c.in_err-value.field-0.0 in
    at_error r q.0 e (λ z. z ≡ OutOfMemory) q.1 q.2 (told_read _ (Err e) (typ c.args.dtype.now) c.args.bytes.now c.new-readers.ensures c.in_err-value.ensures.complete h)

pub returns-in_err-validate-clause-complete : goal.returns-in_err-validate-clause-complete
returns-in_err-validate-clause-complete c = λ h.
    let d = typ c.args.dtype.now in
    let bytes = c.args.bytes.now in
    absurd
    (told_fits no_readers c.in-Some.value d bytes refl (read_some _ _ c.in-Some.value d bytes c.new-readers.ensures c.in-Some.is c.in_ok-value.ensures.read) c.in_err-validate.ensures.err.1 h)

pub returns-clause-read : goal.returns-clause-read
returns-clause-read c =
    let d = typ c.args.dtype.now in
    let bytes = c.args.bytes.now in
    value_told no_readers c.in-Some.value d bytes refl (read_some _ _ c.in-Some.value d bytes c.new-readers.ensures c.in-Some.is c.in_ok-value.ensures.read) c.in_ok-validate.ensures.ok
