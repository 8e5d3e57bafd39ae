use Rattle.std.proofs.Common.{◌≡◌, subst}
use Rattle.vx_trees.specs.Rose.{label, below}
use Rattle.vx_array_tree.specs.Tree.{Tree}
use Rattle.vx_wire_tree.specs.Limits.{HasMessage}
use Rattle.vx_wire_tree.specs.Taken.{step, written}
use Rattle.vx_registry.specs.Meaning.{arrays_meaning}
use Rattle.vx_serde.specs.Taking.{root_head, root_below, RefusesTaking}
use Rattle.vx_serde.proofs.taken.OpenRoot.new.Goals as goal

pub returns-in-Ok-clause-step : goal.returns-in-Ok-clause-step
returns-in-Ok-clause-step g c = λ x u.
    let s = arrays_meaning (λ b. (goal.ArrayPlugin-dyn g (b.vtable, b.value)).means b.value) c.args.arrays.now x in
    subst (λ (z : Tree). step s z ≡ written (root_head (label z) c.in-Ok.given) (root_below (below z) c.in-Ok.given)) c.array.ensures (c.in-Ok.ensures.step x u)

pub returns-in-Ok-clause-message : goal.returns-in-Ok-clause-message
returns-in-Ok-clause-message g c = subst (λ (z : Tree). HasMessage (root_head (label z) c.in-Ok.given) (root_below (below z) c.in-Ok.given)) c.array.ensures c.in-Ok.ensures.message

pub returns-in-Err-clause-cause : goal.returns-in-Err-clause-cause
returns-in-Err-clause-cause g c = λ x u.
    let s = arrays_meaning (λ b. (goal.ArrayPlugin-dyn g (b.vtable, b.value)).means b.value) c.args.arrays.now x in
    subst (λ (z : Tree). RefusesTaking s c.args.room z c.in-Err.e) c.array.ensures (c.in-Err.ensures.cause x u)
