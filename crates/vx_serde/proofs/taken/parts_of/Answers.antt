use Rattle.std.proofs.Common.{◌≡◌, ◌-◌, arith, subst, sym}
use Rattle.vx_trees.specs.Rose.{label, below}
use Rattle.vx_wire_tree.specs.Taken.{step, written}
use Rattle.vx_registry.specs.Meaning.{arrays_meaning}
use Rattle.vx_registry.specs.Serialization.{HasLargeMetadata}
use Rattle.vx_registry.specs.declared.error.RegistryError.TheVariants as registry
use Rattle.vx_serde.proofs.Taking.{no_room, root_at, formless_at}
use Rattle.vx_serde.proofs.taken.parts_of.Goals as goal

pub returns-then-room-eq0-clause-cause : goal.returns-then-room-eq0-clause-cause
returns-then-room-eq0-clause-cause g c = λ x u. no_room (arrays_meaning (λ b. (goal.ArrayPlugin-dyn g (b.vtable, b.value)).means b.value) c.args.arrays.now x) c.args.room c.args.array.now c.if-room-eq0.true

pub returns-then-not-has_message-clause-cause : goal.returns-then-not-has_message-clause-cause
returns-then-not-has_message-clause-cause g c = λ x u.
    let s = arrays_meaning (λ b. (goal.ArrayPlugin-dyn g (b.vtable, b.value)).means b.value) c.args.arrays.now x in
    let w : step s c.args.array.now ≡ written (label c.args.array.now) (below c.args.array.now) = rw c.in-Ok-Own.field-0-is at (c.in-Ok-Own.ensures.root x u) in
    root_at s (c.args.room - 1) c.args.room (omega (arith, c.if-room-eq0.false)) c.args.array.now registry.WireLimit (subst (λ z. HasLargeMetadata z) (sym w) (c.has_message.ensures.over c.if-not-has_message.true))

pub returns-else-not-has_message-clause-step : goal.returns-else-not-has_message-clause-step
returns-else-not-has_message-clause-step g c = λ x u. rw c.in-Ok-Own.field-0-is at (c.in-Ok-Own.ensures.root x u)

pub returns-in-Ok-Given-clause-step : goal.returns-in-Ok-Given-clause-step
returns-in-Ok-Given-clause-step g c = λ x u. rw c.in-Ok-Given.field-0-is at (c.in-Ok-Given.ensures.root x u)

pub returns-in-Ok-Nothing-clause-cause : goal.returns-in-Ok-Nothing-clause-cause
returns-in-Ok-Nothing-clause-cause g c = λ x u.
    formless_at (arrays_meaning (λ b. (goal.ArrayPlugin-dyn g (b.vtable, b.value)).means b.value) c.args.arrays.now x) (c.args.room - 1) c.args.room (omega (arith, c.if-room-eq0.false)) c.args.array.now (rw c.in-Ok-Nothing.field-0-is at (c.in-Ok-Nothing.ensures.root x u))

pub returns-in-Err-clause-cause : goal.returns-in-Err-clause-cause
returns-in-Err-clause-cause g c = λ x u.
    let s = arrays_meaning (λ b. (goal.ArrayPlugin-dyn g (b.vtable, b.value)).means b.value) c.args.arrays.now x in
    rw c.from.ensures (root_at s (c.args.room - 1) c.args.room (omega (arith, c.if-room-eq0.false)) c.args.array.now c.in-Err.e (c.in-Err.ensures.cause x u))
