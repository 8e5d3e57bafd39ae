use Rattle.std.proofs.lemmas.Result.{err_from_is_err_and}
use Rattle.vx_trees.specs.Rose.{label}
use Rattle.vx_registry.specs.Meaning.{arrays_meaning}
use Rattle.vx_registry.proofs.Roots.{own_parts, given_parts, no_parts, without_parts}
use Rattle.vx_registry.proofs.serializing.serialize_root.Goals as goal

pub returns-in_ok-own_parts-in-Own-clause-parts : goal.returns-in_ok-own_parts-in-Own-clause-parts
returns-in_ok-own_parts-in-Own-clause-parts g c = λ x u.
    let s = arrays_meaning (λ b. (goal.ArrayPlugin-dyn g (b.vtable, b.value)).means b.value) c.args.arrays.now x in
    own_parts s c.args.array.now _ c.in_ok-own_parts-in-Own.field-0 (rw c.in-Own.is at (c.in_ok-written_root.ensures.root x u)) (c.in_ok-own_parts-in-Own.ensures.parts x) c.in_ok-own_parts-in-Own.ensures.fits

pub returns-in_err-own_parts-in-Own-clause-cause : goal.returns-in_err-own_parts-in-Own-clause-cause
returns-in_err-own_parts-in-Own-clause-cause g c = λ x u.
    let p = err_from_is_err_and c.from_residual-in_err-own_parts-in-Own.result c.from_residual-in_err-own_parts-in-Own.ensures.1 in
    rw (p.1, p.2) (without_parts c.args.array.now _ c.in_err-own_parts-in-Own.field-0.0 (rw c.in-Own.is at (c.in_ok-written_root.ensures.root x u)) c.in_err-own_parts-in-Own.ensures.err)

pub returns-in-Given-clause-parts : goal.returns-in-Given-clause-parts
returns-in-Given-clause-parts g c = λ x u.
    let s = arrays_meaning (λ b. (goal.ArrayPlugin-dyn g (b.vtable, b.value)).means b.value) c.args.arrays.now x in
    given_parts s (label c.args.array.now) _ c.in-Given.parts (rw c.in-Given.is at (c.in_ok-written_root.ensures.root x u))

pub returns-in-Nothing-clause-parts : goal.returns-in-Nothing-clause-parts
returns-in-Nothing-clause-parts g c = λ x u.
    let s = arrays_meaning (λ b. (goal.ArrayPlugin-dyn g (b.vtable, b.value)).means b.value) c.args.arrays.now x in
    no_parts s _ (rw c.in-Nothing.is at (c.in_ok-written_root.ensures.root x u))

pub returns-in_err-written_root-clause-cause : goal.returns-in_err-written_root-clause-cause
returns-in_err-written_root-clause-cause g c = λ x u.
    let p = err_from_is_err_and c.from_residual.result c.from_residual.ensures.1 in
    rw (p.1, p.2) (c.in_err-written_root.ensures.cause x u)
