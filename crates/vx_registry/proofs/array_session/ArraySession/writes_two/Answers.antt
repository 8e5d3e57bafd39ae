use Rattle.vx_registry.proofs.Meanings.{all_there, paired_meaning}
use Rattle.vx_registry.proofs.Pairing.{on_any}
use Rattle.vx_registry.proofs.array_session.ArraySession.writes_two.Goals as goal

pub returns-in-Some-Revised-clause-paired : goal.returns-in-Some-Revised-clause-paired
returns-in-Some-Revised-clause-paired g c = λ x.
    let own = c.args.self.now in
    paired_meaning _ _ (all_there (λ b. (goal.ArrayPlugin-dyn g (b.vtable, b.value)).means b.value) own.plugins.items) own.tables c.writer.ensures.paired own.in_range x

pub returns-clause-paired : goal.returns-clause-paired
returns-clause-paired g c =
    let own = c.args.self.now in
    on_any c.match-writer.result (λ x. paired_meaning _ _ (all_there (λ b. (goal.ArrayPlugin-dyn g (b.vtable, b.value)).means b.value) own.plugins.items) own.tables c.writer.ensures.paired own.in_range x)
