use Rattle.std.proofs.Common.{[], ◌∷◌, ap, refl}
use Rattle.vx_wire_tree.specs.Session.{entry_id, revised}
use Rattle.vx_registry.specs.Meaning.{plugins_meaning}
use Rattle.vx_registry.specs.Session.{both_ids}
use Rattle.vx_registry.specs.declared.tables.Entry.TheVariants.{Revised}
use Rattle.vx_registry.proofs.Meanings.{found_put}
use Rattle.vx_registry.proofs.Pairing.{on_ok, within_set, within_revised}
use Rattle.vx_registry.proofs.array_session.ArraySession.set_revised.Goals as goal

pub invariant_of-self : goal.invariant_of-self
invariant_of-self g c =
    record { in_range = within_set _ c.args.self.now.tables c.set_revised.new.self _ c.set_revised.result c.set_revised.ensures.registered c.set_revised.ensures.unchanged (within_revised _ c.args.self.now.tables c.args.self.now.in_range) c.args.self.now.in_range }

pub returns-clause-readers : goal.returns-clause-readers
returns-clause-readers g c =
    let own = c.args.self.now in
    let f = plugins_meaning (λ b. (goal.ArrayPlugin-dyn g (b.vtable, b.value)).means b.value) own.plugins.items in
    on_ok c.set_revised.result (λ e x id. found_put f Revised revised both_ids own.tables.readers c.set_revised.new.self.readers id refl (ap (λ r. r.readers) e)) c.set_revised.ensures.registered

pub returns-clause-writers : goal.returns-clause-writers
returns-clause-writers g c =
    let own = c.args.self.now in
    let f = plugins_meaning (λ b. (goal.ArrayPlugin-dyn g (b.vtable, b.value)).means b.value) own.plugins.items in
    on_ok c.set_revised.result (λ e x id. found_put f Revised revised (entry_id revised ∷ []) own.tables.writers c.set_revised.new.self.writers id refl (ap (λ r. r.writers) e)) c.set_revised.ensures.registered
