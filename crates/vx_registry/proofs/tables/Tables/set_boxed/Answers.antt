use Rattle.std.proofs.Common.{◌∙◌}
use Rattle.std.specs.Prelude.{bytes_eq}
use Rattle.indexmap.specs.IndexMap.{insert_entry}
use Rattle.vx_registry.specs.Session.{put_all}
use Rattle.vx_registry.specs.declared.tables.Entry.TheVariants.{Boxed}
use Rattle.vx_registry.proofs.Pairing.{paired_as, paired_boxed}
use Rattle.vx_registry.proofs.tables.Tables.set_boxed.Goals as goal

pub invariant_of-self-2 : goal.invariant_of-self-2
invariant_of-self-2 c =
    let e = Boxed c.args.number in
    let read = c.put_all.ensures ∙ (λ i. put_all e (c.in_ok-read.ensures.ids i) (c.reserve.ensures.entries i)) in
    let written = c.in-Ok.ensures.entries ∙ (λ i. insert_entry bytes_eq (c.reserve-2.ensures.entries i) ((c.in_ok-written.ensures.ok ∙ c.as_str.ensures.same) i) e) in
    paired_as _ _ (λ i. record { readers = read i; writers = written i }) (paired_boxed c.args.number c.args.id.now c.args.ids.now _ c.self.invariant)
