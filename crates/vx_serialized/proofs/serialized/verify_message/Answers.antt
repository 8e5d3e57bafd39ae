use Rattle.std.proofs.Common.{ℕ, ap, sym, ◌∙◌, subst, Err}
use Rattle.vx_flat.specs.Limits.{limits_to}
use Rattle.vx_flat.specs.Places.{u32_at}
use Rattle.vx_flat.specs.Seen.{seen}
use Rattle.vx_flat.specs.Weight.{weight}
use Rattle.vx_serialized.specs.ArraySchema.{array_schema}
use Rattle.vx_serialized.specs.Message.{node_of}
use Rattle.vx_serialized.specs.Stored.{IsStored}
use Rattle.vx_serialized.proofs.StoredMessages.{unread, is_stored, root_there, view_of}
use Rattle.vx_serialized.proofs.serialized.verify_message.Goals as goal

pub returns-in-Err-clause-cause : goal.returns-in-Err-clause-cause
returns-in-Err-clause-cause c =
    rw c.from.ensures
    (unread (limits_to c.args.deep) c.args.message.now c.in-Err.e (λ q. c.in-Err.ensures.bad (ap (λ z. Err z) q)) (λ q. c.in-Err.ensures.limit (ap (λ z. Err z) q)) (λ q. c.in-Err.ensures.never_long (ap (λ z. Err z) q)))

pub returns-in-Some-clause-stored : goal.returns-in-Some-clause-stored
returns-in-Some-clause-stored c =
    let m = c.args.message.now in
    let v = c.in-Ok.view in
    let at = c.in-Ok.ensures.shows.1 in
    let P : ℕ → Type 0 = λ t. IsStored m t in
    subst P (sym (c.place.ensures.place ∙ at.place))
    (is_stored m (u32_at m 0) (weight array_schema m) v at (node_of (seen c.in-Some.field-0)) (root_there v (view_of m (u32_at m 0) (weight array_schema m) v at) c.in-Some.field-0 c.in-Some.ensures.part))
