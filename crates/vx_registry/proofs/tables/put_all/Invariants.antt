use Rattle.std.proofs.Common.{◌≡◌, ◌≤◌, length}
use Rattle.std.specs.Vec.Iter.{into_iter_items}
use Rattle.indexmap.specs.IndexMap.{spare}
use Rattle.vx_registry.specs.Session.{put_all}
use Rattle.vx_registry.proofs.tables.put_all.Given as goal

-- The identifiers that are left are still to be put in, and there is room for them.
abbrev pub invariant-loop-id : goal.invariant-loop-id
invariant-loop-id l =
    (put_all l.entry (into_iter_items l.id-iterator) l.table.entries ≡ put_all l.entry (into_iter_items l.initial.id-iterator) l.initial.table.entries)
    × (length (into_iter_items l.id-iterator) ≤ spare l.table)
