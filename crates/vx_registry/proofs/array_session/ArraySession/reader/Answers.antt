use Rattle.vx_registry.proofs.Meanings.{all_there, paired_meaning}
use Rattle.vx_registry.proofs.array_session.ArraySession.reader.Goals as goal

pub returns-clause-paired : goal.returns-clause-paired
returns-clause-paired g c = λ x.
    let own = c.args.self.now in
    paired_meaning _ _ (all_there (λ b. (goal.ArrayPlugin-dyn g (b.vtable, b.value)).means b.value) own.plugins.items) own.tables c.reader.ensures.paired own.in_range x
