use Rattle.std.proofs.Common.{[], ◌∷◌, ap, refl, sym, subst}
use Rattle.vx_wire_tree.specs.Session.{HasPairedPlugins}
use Rattle.vx_registry.specs.Meaning.{plugins_meaning}
use Rattle.vx_registry.specs.Session.{entry, shipped_id}
use Rattle.vx_registry.specs.declared.tables.Entry.TheVariants.{Shipped}
use Rattle.vx_registry.proofs.LawsSessions.{paired_registered}
use Rattle.vx_registry.proofs.Meanings.{found_put}
use Rattle.vx_registry.proofs.Pairing.{within_set, within_shipped}
use Rattle.vx_registry.proofs.array_session.ArraySession.register.Goals as goal

pub invariant_of-self : goal.invariant_of-self
invariant_of-self g c =
    record { in_range = within_set _ c.args.self.now.tables c.set.new.self _ c.set.result c.set.ensures.registered c.set.ensures.unchanged (within_shipped c.in-Shipped.encoding _ c.args.self.now.tables c.args.self.now.in_range) c.args.self.now.in_range }

pub returns-in-Ok-clause-readers : goal.returns-in-Ok-clause-readers
returns-in-Ok-clause-readers g c = λ x id.
    let own = c.args.self.now in
    let f = plugins_meaning (λ b. (goal.ArrayPlugin-dyn g (b.vtable, b.value)).means b.value) own.plugins.items in
    rw c.in-Shipped.is (found_put f (Shipped c.in-Shipped.encoding) (entry c.in-Shipped.encoding) (shipped_id c.in-Shipped.encoding ∷ []) own.tables.readers c.set.new.self.readers id refl (ap (λ r. r.readers) c.in-Ok.ensures.registered))

pub returns-in-Ok-clause-writers : goal.returns-in-Ok-clause-writers
returns-in-Ok-clause-writers g c = λ x id.
    let own = c.args.self.now in
    let f = plugins_meaning (λ b. (goal.ArrayPlugin-dyn g (b.vtable, b.value)).means b.value) own.plugins.items in
    rw c.in-Shipped.is (found_put f (Shipped c.in-Shipped.encoding) (entry c.in-Shipped.encoding) (shipped_id c.in-Shipped.encoding ∷ []) own.tables.writers c.set.new.self.writers id refl (ap (λ r. r.writers) c.in-Ok.ensures.registered))

pub returns-in-Ok-add-clause-readers : goal.returns-in-Ok-add-clause-readers
returns-in-Ok-add-clause-readers g c = λ x id. rw c.in-Boxed.is (c.in-Ok-add.ensures.readers x id)

pub returns-in-Ok-add-clause-writers : goal.returns-in-Ok-add-clause-writers
returns-in-Ok-add-clause-writers g c = λ x id. rw c.in-Boxed.is (c.in-Ok-add.ensures.writers x id)

pub returns-in-Ok-set_revised-clause-readers : goal.returns-in-Ok-set_revised-clause-readers
returns-in-Ok-set_revised-clause-readers g c = λ x id. rw c.in-Revised.is (c.in-Ok-set_revised.ensures.readers x id)

pub returns-in-Ok-set_revised-clause-writers : goal.returns-in-Ok-set_revised-clause-writers
returns-in-Ok-set_revised-clause-writers g c = λ x id. rw c.in-Revised.is (c.in-Ok-set_revised.ensures.writers x id)

pub returns-in-Ok-clause-paired : goal.returns-in-Ok-clause-paired
returns-in-Ok-clause-paired g c = λ x h. paired_registered _ _ _ _ (returns-in-Ok-clause-readers g c x) (returns-in-Ok-clause-writers g c x) h

pub returns-in-Ok-add-clause-paired : goal.returns-in-Ok-add-clause-paired
returns-in-Ok-add-clause-paired g c = λ x h. paired_registered _ _ _ _ (returns-in-Ok-add-clause-readers g c x) (returns-in-Ok-add-clause-writers g c x) h

pub returns-in-Err-add-clause-paired : goal.returns-in-Err-add-clause-paired
returns-in-Err-add-clause-paired g c = λ x h. subst (λ z. HasPairedPlugins z) (sym (c.in-Err-add.ensures.unchanged x)) h

pub returns-in-Ok-set_revised-clause-paired : goal.returns-in-Ok-set_revised-clause-paired
returns-in-Ok-set_revised-clause-paired g c = λ x h. paired_registered _ _ _ _ (returns-in-Ok-set_revised-clause-readers g c x) (returns-in-Ok-set_revised-clause-writers g c x) h

pub returns-in-Err-set_revised-clause-paired : goal.returns-in-Err-set_revised-clause-paired
returns-in-Err-set_revised-clause-paired g c = λ x h. subst (λ z. HasPairedPlugins z) (sym (c.in-Err-set_revised.ensures.unchanged x)) h
