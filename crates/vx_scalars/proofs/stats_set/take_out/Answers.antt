use Rattle.std.proofs.Common.{sym, subst, arith}
use Rattle.vx_scalars.specs.Places.{Changes}
use Rattle.vx_scalars.specs.Stats.{AreEntries}
use Rattle.vx_scalars.specs.declared.precision.Precision.TheVariants.{Absent}
use Rattle.vx_scalars.proofs.Entries.{place-below, remove-changes, remove-entries}
use Rattle.vx_scalars.proofs.stats_set.take_out.Goals as goal

pub remove-requires : goal.remove-requires
remove-requires c = omega (arith, place-below c.args.stat c.args.place c.args.entries.now.items c.requires.place, c.args.entries.now.ok.0)

pub returns-clause-changes : goal.returns-clause-changes
returns-clause-changes c =
    subst (λ es. Changes c.args.stat Absent c.args.entries.now.items es) (sym c.remove.ensures.items)
    (remove-changes c.args.stat c.args.place c.args.entries.now.items c.requires.before c.requires.place)

pub returns-clause-after : goal.returns-clause-after
returns-clause-after c =
    subst AreEntries (sym c.remove.ensures.items)
    (remove-entries c.args.place c.args.entries.now.items (place-below c.args.stat c.args.place c.args.entries.now.items c.requires.place) c.requires.before)
