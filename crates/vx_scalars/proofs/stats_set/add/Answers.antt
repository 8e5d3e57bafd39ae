use Rattle.std.proofs.Common.{sym, subst, refl}
use Rattle.vx_scalars.specs.Places.{Changes}
use Rattle.vx_scalars.specs.Stats.{told, AreEntries}
use Rattle.vx_scalars.proofs.Entries.{push-changes, push-entries}
use Rattle.vx_scalars.proofs.stats_set.add.Goals as goal

pub returns-clause-changes : goal.returns-clause-changes
returns-clause-changes c =
    subst (λ es. Changes c.args.stat (told c.args.value) c.args.entries.now.items es) (sym c.in_ok-push.ensures.items)
    (push-changes c.args.stat (c.args.stat, c.args.value) c.args.entries.now.items refl c.requires.nowhere)

pub returns-clause-after : goal.returns-clause-after
returns-clause-after c =
    subst AreEntries (sym c.in_ok-push.ensures.items)
    (push-entries (c.args.stat, c.args.value) c.args.entries.now.items c.requires.before c.requires.nowhere c.requires.told)
