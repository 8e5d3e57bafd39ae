use Rattle.std.proofs.Common.{Some, None, IfOk, IfErr, ap, sym, ◌∙◌, subst}
use Rattle.std.specs.Prelude.{option_map, option_and_then, option_copied}
use Rattle.vx_wire_tree.specs.Session.{revised, plugin}
use Rattle.vx_registry.specs.Meaning.{arrays_meaning, reader_in}
use Rattle.vx_registry.specs.Serialization.{IsRootOf, RefusesSerializing}
use Rattle.vx_registry.specs.Session.{entry}
use Rattle.vx_registry.proofs.Roots.{native_root, plugin_root}
use Rattle.vx_registry.proofs.serializing.written_root.Goals as goal

pub returns-in-Some-Shipped-clause-root : goal.returns-in-Some-Shipped-clause-root
returns-in-Some-Shipped-clause-root g c = λ x u.
    native_root (arrays_meaning (λ b. (goal.ArrayPlugin-dyn g (b.vtable, b.value)).means b.value) c.args.arrays.now x) c.args.array.now c.in_ok-id.id (Some (entry c.in-Some-Shipped.field-0-0)) (c.is_foreign.ensures.native c.if-is_foreign.false) (c.in_ok-id.ensures.ok ∙ c.encoding_id.ensures)
    (c.writer.ensures.found x ∙ ap (λ o. option_and_then (reader_in (λ b. (goal.ArrayPlugin-dyn g (b.vtable, b.value)).means b.value) c.args.arrays.now) o) (c.in-Some-Shipped.is ∙ ap (λ e. Some e) c.in-Some-Shipped.field-0-is))

pub returns-in-Some-Revised-clause-root : goal.returns-in-Some-Revised-clause-root
returns-in-Some-Revised-clause-root g c = λ x u.
    native_root (arrays_meaning (λ b. (goal.ArrayPlugin-dyn g (b.vtable, b.value)).means b.value) c.args.arrays.now x) c.args.array.now c.in_ok-id.id (Some revised) (c.is_foreign.ensures.native c.if-is_foreign.false) (c.in_ok-id.ensures.ok ∙ c.encoding_id.ensures)
    (c.writer.ensures.found x ∙ ap (λ o. option_and_then (reader_in (λ b. (goal.ArrayPlugin-dyn g (b.vtable, b.value)).means b.value) c.args.arrays.now) o) (c.in-Some-Revised.is ∙ ap (λ e. Some e) c.in-Some-Revised.field-0-is))

-- A plugin of that number is there.
pub returns-in-Some-clause-root : goal.returns-in-Some-clause-root
returns-in-Some-clause-root g c = λ x u.
    subst (λ z. IfOk c.given_root.result (IsRootOf c.args.array.now z))
    (sym (plugin_root (arrays_meaning (λ b. (goal.ArrayPlugin-dyn g (b.vtable, b.value)).means b.value) c.args.arrays.now x) c.args.array.now c.in_ok-id.id _ (c.is_foreign.ensures.native c.if-is_foreign.false) (c.in_ok-id.ensures.ok ∙ c.encoding_id.ensures)
    (c.writer.ensures.found x ∙ ap (λ o. option_and_then (reader_in (λ b. (goal.ArrayPlugin-dyn g (b.vtable, b.value)).means b.value) c.args.arrays.now) o) (c.in-Some-Boxed.is ∙ ap (λ e. Some e) c.in-Some-Boxed.field-0-is)
    ∙ ap (λ z. option_map (λ p. plugin p) (option_map (λ b. (goal.ArrayPlugin-dyn g (b.vtable, b.value)).means b.value) z)) (sym c.plugin.ensures ∙ ap (λ z. option_copied z) c.in-Some.is))))
    c.given_root.ensures.root

pub returns-in-Some-clause-cause : goal.returns-in-Some-clause-cause
returns-in-Some-clause-cause g c = λ x u.
    subst (λ z. IfErr c.given_root.result (λ e. RefusesSerializing e z))
    (sym (plugin_root (arrays_meaning (λ b. (goal.ArrayPlugin-dyn g (b.vtable, b.value)).means b.value) c.args.arrays.now x) c.args.array.now c.in_ok-id.id _ (c.is_foreign.ensures.native c.if-is_foreign.false) (c.in_ok-id.ensures.ok ∙ c.encoding_id.ensures)
    (c.writer.ensures.found x ∙ ap (λ o. option_and_then (reader_in (λ b. (goal.ArrayPlugin-dyn g (b.vtable, b.value)).means b.value) c.args.arrays.now) o) (c.in-Some-Boxed.is ∙ ap (λ e. Some e) c.in-Some-Boxed.field-0-is)
    ∙ ap (λ z. option_map (λ p. plugin p) (option_map (λ b. (goal.ArrayPlugin-dyn g (b.vtable, b.value)).means b.value) z)) (sym c.plugin.ensures ∙ ap (λ z. option_copied z) c.in-Some.is))))
    c.given_root.ensures.cause

-- No plugin of that number is there.
pub returns-in-Some-Boxed-clause-cause : goal.returns-in-Some-Boxed-clause-cause
returns-in-Some-Boxed-clause-cause g c = λ x u.
    native_root (arrays_meaning (λ b. (goal.ArrayPlugin-dyn g (b.vtable, b.value)).means b.value) c.args.arrays.now x) c.args.array.now c.in_ok-id.id None (c.is_foreign.ensures.native c.if-is_foreign.false) (c.in_ok-id.ensures.ok ∙ c.encoding_id.ensures)
    (c.writer.ensures.found x ∙ ap (λ o. option_and_then (reader_in (λ b. (goal.ArrayPlugin-dyn g (b.vtable, b.value)).means b.value) c.args.arrays.now) o) (c.in-Some-Boxed.is ∙ ap (λ e. Some e) c.in-Some-Boxed.field-0-is)
    ∙ ap (λ z. option_map (λ p. plugin p) (option_map (λ b. (goal.ArrayPlugin-dyn g (b.vtable, b.value)).means b.value) z)) (sym c.plugin.ensures ∙ ap (λ z. option_copied z) c.in-None-plugin.is))

pub returns-clause-cause : goal.returns-clause-cause
returns-clause-cause g c = λ x u.
    native_root (arrays_meaning (λ b. (goal.ArrayPlugin-dyn g (b.vtable, b.value)).means b.value) c.args.arrays.now x) c.args.array.now c.in_ok-id.id None (c.is_foreign.ensures.native c.if-is_foreign.false) (c.in_ok-id.ensures.ok ∙ c.encoding_id.ensures)
    (c.writer.ensures.found x ∙ ap (λ o. option_and_then (reader_in (λ b. (goal.ArrayPlugin-dyn g (b.vtable, b.value)).means b.value) c.args.arrays.now) o) c.in-None.is)
