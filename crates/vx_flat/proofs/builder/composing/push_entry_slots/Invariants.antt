use Rattle.std.proofs.Common.{◌≡◌, ◌+◌, ◌*◌, ◌≤◌, ◌++◌, drop}
use Rattle.vx_flat.specs.Building.{entry_slots}
use Rattle.vx_flat.proofs.builder.composing.push_entry_slots.Given as goal

abbrev pub invariant-loop-entry : goal.invariant-loop-entry
invariant-loop-entry l = record {
  near : l.end ≤ 4 + 15 * l.entry-index;
  at : l.index ≡ l.entry-index;
  slots : l.slots.items ++ entry_slots l.block l.target l.index l.end (drop l.entry-index l.entries)
      ≡ l.fn.slots.items ++ entry_slots l.block l.target 0 4 l.entries;
}
