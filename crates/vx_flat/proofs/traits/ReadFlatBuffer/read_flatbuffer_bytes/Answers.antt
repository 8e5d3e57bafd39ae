use Rattle.std.proofs.Common.{inl, ap, Err, sym, subst}
use Rattle.vx_flat.specs.Seen.{seen}
use Rattle.vx_flat.proofs.Roots.{same_shown}
use Rattle.std.proofs.lemmas.Result.{err_from_is_err_and}
use Rattle.vx_flat.proofs.Refusing.{unread_for}
use Rattle.vx_flat.proofs.traits.ReadFlatBuffer.read_flatbuffer_bytes.Goals as goal

pub returns-in_err-view-clause-cause : goal.returns-in_err-view-clause-cause
returns-in_err-view-clause-cause g c =
    let p = err_from_is_err_and c.from_residual.result c.from_residual.ensures.1 in
    let f = c.in_err-view.field-0.0 in
    rw p.1 (inl (
      f,
      unread_for g.Self.Kind.TableKind.schema c.args.message.now f (λ e. c.in_err-view.ensures.bad (ap Err e))
          (λ e. c.in_err-view.ensures.limit (ap Err e)) (λ e. c.in_err-view.ensures.never_long (ap Err e)),
      p.2,
    ))

pub returns-in_err-view-clause-complete : goal.returns-in_err-view-clause-complete
returns-in_err-view-clause-complete g c = λ v x shows within_limits reads.
    let ok = c.in_err-view.ensures.complete v shows within_limits in
    absurd cc

pub returns-clause-complete : goal.returns-clause-complete
returns-clause-complete g c = λ v x shows within_limits reads.
    let view = c.in_ok-view.view in
    let same =
    same_shown g.Self.Kind.TableKind.schema c.args.message.now (seen view) v c.in_ok-view.ensures.shows.0 shows in
    c.read_flatbuffer.ensures.complete x (subst (λ v. g.Self.ReadFlatBuffer.reads v x) (sym same) reads)
