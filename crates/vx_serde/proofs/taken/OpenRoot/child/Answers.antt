use Rattle.std.proofs.lemmas.Result.{err_from_is_err_and, IfOk-weaker, IfErr-weaker}
use Rattle.vx_registry.specs.Meaning.{arrays_meaning}
use Rattle.vx_serde.specs.Taking.{source_tree, root_arrays}
use Rattle.vx_serde.proofs.TakenBelow.{one_below, wanted_below}
use Rattle.vx_serde.proofs.taken.OpenRoot.child.Goals as goal

pub returns-clause-opened : goal.returns-clause-opened
returns-clause-opened g c = λ x u.
    IfOk-weaker c.new.result _ _ (λ o y. record { array = source_tree c.in_ok-below.below; stands = c.in_ok-below.ensures.ok; step_is = y }) (c.new.ensures.step x u)

pub returns-clause-cause : goal.returns-clause-cause
returns-clause-cause g c = λ x u.
    let s = arrays_meaning (λ b. (goal.ArrayPlugin-dyn g (b.vtable, b.value)).means b.value) c.args.arrays.now x in
    IfErr-weaker c.new.result _ _ (λ e y. one_below s c.args.room (root_arrays c.args.self.now.root) c.args.i (source_tree c.in_ok-below.below) e c.in_ok-below.ensures.ok y) (c.new.ensures.cause x u)

pub returns-in_err-below-clause-cause : goal.returns-in_err-below-clause-cause
returns-in_err-below-clause-cause g c = λ x u.
    let p = err_from_is_err_and c.from_residual.result c.from_residual.ensures.1 in
    rw (p.1, p.2) (wanted_below (arrays_meaning (λ b. (goal.ArrayPlugin-dyn g (b.vtable, b.value)).means b.value) c.args.arrays.now x) c.args.room (root_arrays c.args.self.now.root) c.in_err-below.field-0.0 c.in_err-below.ensures.err)
