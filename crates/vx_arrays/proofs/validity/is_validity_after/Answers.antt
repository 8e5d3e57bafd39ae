-- Two arrays or more are no validity.
use Rattle.std.proofs.lemmas.Bool.{false≢true}
use Rattle.vx_arrays.proofs.After.{never_two}
use Rattle.vx_arrays.proofs.validity.is_validity_after.Goals as goal

pub returns-in_default : goal.returns-in_default
returns-in_default c = (λ t. absurd (false≢true t), λ v. absurd (never_two c.args.len c.args.after.now c.in_default.len_at_least v.planned))
