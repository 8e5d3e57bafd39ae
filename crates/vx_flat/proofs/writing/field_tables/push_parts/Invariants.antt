use Rattle.std.proofs.Common.{◌≡◌, ◌+◌, ◌*◌, ◌≤◌, ◌++◌, [], drop}
use Rattle.vx_flat.specs.FieldTables.{inline_end, distances, entry_bytes, zeros}
use Rattle.vx_flat.specs.Layout.{cells_bytes}
use Rattle.vx_flat.specs.Linking.{cells_of}
use Rattle.vx_flat.proofs.writing.field_tables.push_parts.Given as goal

abbrev pub invariant-loop-entry : goal.invariant-loop-entry
invariant-loop-entry l = record {
  near : l.end ≤ 4 + 15 * l.entry-index;
  size : inline_end l.end (drop l.entry-index (cells_of l.entries [])) ≡ inline_end 4 (cells_of l.entries []);
  few : l.absent ≤ l.entry-index;
  distances : l.distances.items ++ (zeros (2 * l.absent) ++ entry_bytes (distances l.end (drop l.entry-index (cells_of l.entries []))))
      ≡ l.fn.distances.items ++ entry_bytes (distances 4 (cells_of l.entries []));
  own : l.own.items ++ cells_bytes [] 0 l.end (drop l.entry-index (cells_of l.entries []))
      ≡ l.fn.own.items ++ cells_bytes [] 0 4 (cells_of l.entries []);
}
