use Rattle.std.proofs.Common.{◌∙◌}
use Rattle.std.specs.Prelude.{bytes_eq}
use Rattle.indexmap.specs.IndexMap.{insert_entry}
use Rattle.vx_registry.specs.declared.tables.Entry.TheVariants.{Revised}
use Rattle.vx_registry.proofs.Pairing.{paired_as, paired_revised}
use Rattle.vx_registry.proofs.tables.Tables.set_revised.Goals as goal

pub invariant_of-self-2 : goal.invariant_of-self-2
invariant_of-self-2 c =
    let first = c.in-Ok.ensures.entries ∙ (λ i. insert_entry bytes_eq (c.reserve.ensures.entries i) (c.in_ok-first.ensures.ok i) Revised) in
    let read = c.in-Ok-insert.ensures.entries ∙ (λ i. insert_entry bytes_eq (first i) (c.in_ok-second.ensures.ok i) Revised) in
    let written = c.in-Ok-insert-2.ensures.entries ∙ (λ i. insert_entry bytes_eq (c.reserve-2.ensures.entries i) (c.in_ok-written.ensures.ok i) Revised) in
    paired_as _ _ (λ i. record { readers = read i; writers = written i }) (paired_revised _ c.self.invariant)
