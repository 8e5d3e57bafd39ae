use Rattle.std.proofs.Common.{◌≡◌, drop, bytes_eq}
use Rattle.std.specs.Map.{lookup}
use Rattle.vx_type_wire.specs.Borrowed.{borrowed_entries}
use Rattle.vx_type_wire.proofs.lending.ReadersOf+ref+dyn+ExtPlugin.accepts.Given as goal

-- what is found among the readers that are left is what is found among all
abbrev pub invariant-loop-entry : goal.invariant-loop-entry
invariant-loop-entry g l =
    lookup (bytes_eq l.id) (borrowed_entries (λ r. (goal.ExtPlugin-dyn g r.now).accepted r.now.1) (drop l.entry-index l.entry-items))
    ≡ lookup (bytes_eq l.id) (borrowed_entries (λ r. (goal.ExtPlugin-dyn g r.now).accepted r.now.1) l.entry-items)
