use Rattle.std.proofs.Common.{◌∙◌}
use Rattle.std.specs.Prelude.{bytes_eq}
use Rattle.indexmap.specs.IndexMap.{insert_entry}
use Rattle.vx_registry.specs.declared.tables.Entry.TheVariants.{Shipped}
use Rattle.vx_registry.proofs.Pairing.{paired_as, paired_shipped}
use Rattle.vx_registry.proofs.tables.Tables.set.Goals as goal
use Rattle.vx_registry.proofs.tables.Tables.set.Goals.{In-Ok-insert}

pub invariant_of-self-2 : goal.invariant_of-self-2
invariant_of-self-2 c =
    let e = Shipped c.args.encoding in
    let read = c.in-Ok.ensures.entries ∙ (λ i. insert_entry bytes_eq (c.reserve.ensures.entries i) ((c.in_ok-read.ensures.ok ∙ c.id.ensures) i) e) in
    let written = c.in-Ok-insert.ensures.entries ∙ (λ i. insert_entry bytes_eq (c.reserve-2.ensures.entries i) ((c.in_ok-written.ensures.ok ∙ c.id-2.ensures) i) e) in
    paired_as _ _ (λ i. record { readers = read i; writers = written i }) (paired_shipped c.args.encoding _ c.self.invariant)
