use Rattle.std.proofs.Common.{refl, arith}
use Rattle.vx_scalars.proofs.Entries.{place-below, set-changes, set-entries}
use Rattle.vx_scalars.proofs.stats_set.replace.Goals as goal

pub index_mut-requires : goal.index_mut-requires
index_mut-requires c = omega (arith, place-below c.args.stat c.args.place c.args.entries.now.items c.requires.place, c.args.entries.now.ok.0)

pub returns-clause-changes : goal.returns-clause-changes
returns-clause-changes c =
    set-changes c.args.stat (c.args.stat, c.args.value) c.args.place c.args.entries.now.items refl c.requires.place

pub returns-clause-after : goal.returns-clause-after
returns-clause-after c = set-entries (c.args.stat, c.args.value) c.args.place c.args.entries.now.items c.requires.before c.requires.place c.requires.told
