use Rattle.std.proofs.Common.{subst}
use Rattle.vx_flat.specs.declared.limits.Limits.{Limits}
use Rattle.vx_flat.specs.Verified.{Verified}
use Rattle.vx_flat.proofs.viewing.opening.verify_to.Goals as goal

pub returns-clause-verified : goal.returns-clause-verified
returns-clause-verified g c =
    let P : Limits → Type 0 = λ l. Verified g.K.TableKind.schema l c.args.message.now c.verify_within.result in
    subst P c.to.ensures c.verify_within.ensures.verified
