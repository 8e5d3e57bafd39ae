use Rattle.std.proofs.Common.{Some, refl}
use Rattle.vx_wire_tree.specs.Session.{shipped, revised}
use Rattle.vx_encodings.specs.Plain.{plain_encoding}
use Rattle.vx_encodings.specs.declared.encoding.Encoding.TheVariants.{Primitive}
use Rattle.vx_serialized.proofs.EntrySteps.{unplanned, held_plan, past_plan, no_plugin, plugin_plans, plugin_unplanned}
use Rattle.vx_serialized.proofs.steps.plan_entry.Goals as goal

-- ---- a shipped encoding

pub returns-in-Ok-clause-plan : goal.returns-in-Ok-clause-plan
returns-in-Ok-clause-plan g c = rw c.in-Shipped.is (c.in-Ok.ensures.plan, tt)

pub returns-in-Err-clause-cause : goal.returns-in-Err-clause-cause
returns-in-Err-clause-cause g c = rw c.in-Shipped.is (rw c.from.ensures (unplanned _ (Some (shipped (plain_encoding c.in-Shipped.encoding))) c.in-Shipped.encoding refl c.args.head.now c.in-Err.e c.in-Err.ensures.err))

-- ---- primitives under two identifiers

pub returns-in-Ok-plan-clause-plan : goal.returns-in-Ok-plan-clause-plan
returns-in-Ok-plan-clause-plan g c = rw c.in-Revised.is (held_plan _ c.args.head.now c.in-Ok-plan.children c.held.result c.in-Ok-plan.ensures.plan c.held.ensures.ok)

pub returns-in-Ok-plan-clause-cause : goal.returns-in-Ok-plan-clause-cause
returns-in-Ok-plan-clause-cause g c = rw c.in-Revised.is (past_plan _ c.args.head.now c.in-Ok-plan.children c.held.result c.in-Ok-plan.ensures.plan c.held.ensures.err)

pub returns-in-Err-plan-clause-cause : goal.returns-in-Err-plan-clause-cause
returns-in-Err-plan-clause-cause g c = rw c.in-Revised.is (rw c.from-in-Err-plan.ensures (unplanned _ (Some revised) Primitive refl c.args.head.now c.in-Err-plan.e c.in-Err-plan.ensures.err))

-- ---- a plugin

pub returns-in-Ok-plan_by-clause-plan : goal.returns-in-Ok-plan_by-clause-plan
returns-in-Ok-plan_by-clause-plan g c =
    rw c.in-Boxed.is
    (plugin_plans (λ b. (goal.ArrayPlugin-dyn g (b.vtable, b.value)).means b.value) _ c.in-Some.plugin.now c.in-Some.ensures _ _ c.requires.borrowed c.args.head.now c.in-Ok-plan_by.children c.in-Ok-plan_by.ensures)

pub returns-in-Err-plan_by-clause-cause : goal.returns-in-Err-plan_by-clause-cause
returns-in-Err-plan_by-clause-cause g c =
    rw c.in-Boxed.is
    (rw c.plugin_error.ensures
    (plugin_unplanned (λ b. (goal.ArrayPlugin-dyn g (b.vtable, b.value)).means b.value) _ c.in-Some.plugin.now c.in-Some.ensures _ _ c.requires.borrowed c.in-Err-plan_by.e c.args.head.now c.in-Err-plan_by.ensures))

pub unreachable-requires : goal.unreachable-requires
unreachable-requires g c = no_plugin (λ b. (goal.ArrayPlugin-dyn g (b.vtable, b.value)).means b.value) _ c.in-None.ensures (rw c.in-Boxed.is at c.requires.within)
