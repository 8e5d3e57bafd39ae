use Rattle.std.proofs.Common.{List, ℕ, subst}
use Rattle.std.proofs.lemmas.Result.{err_from_is_err_and}
use Rattle.vx_flat.specs.Limits.{limits_to}
use Rattle.vx_serialized.specs.Overrides.{overrides_in}
use Rattle.vx_serialized.specs.Stored.{RefusesMessage, array_at}
use Rattle.vx_serialized.proofs.StoredMessages.{refused_message, refused_descriptors}
use Rattle.vx_serialized.proofs.serialized.SerializedArray.over_segment_with.Goals as goal

pub returns-in_err-verified-clause-cause : goal.returns-in_err-verified-clause-cause
returns-in_err-verified-clause-cause c =
    let p = err_from_is_err_and c.from_residual.result c.from_residual.ensures.1 in
    let P : List ℕ → Type 0 = λ m. RefusesMessage (limits_to c.args.deep) c.in_err-verified.field-0.0 m in
    rw (p.1, p.2) (refused_message (limits_to c.args.deep) c.in_err-verified.field-0.0 (overrides_in c.args.overrides.now) c.args.segment.bytes c.args.tree.bytes (subst P c.as_slice.ensures c.in_err-verified.ensures.cause))

pub returns-in_err-buffers-clause-cause : goal.returns-in_err-buffers-clause-cause
returns-in_err-buffers-clause-cause c =
    let p = err_from_is_err_and c.from_residual-in_err-buffers.result c.from_residual-in_err-buffers.ensures.1 in
    let m = c.as_slice.result.now in
    rw (p.1, p.2)
    (rw c.as_slice.ensures at
    (refused_descriptors (limits_to c.args.deep) c.in_err-buffers.field-0.0 (overrides_in c.args.overrides.now) c.args.segment.bytes m (array_at m c.in_ok-verified.verified.place) c.in_ok-verified.ensures.shows
    (rw c.in_ok-verified.ensures.descriptors at c.in_err-buffers.ensures.cause)))
