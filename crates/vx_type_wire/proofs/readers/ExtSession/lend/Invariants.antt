use Rattle.std.proofs.Common.{◌≡◌, ◌++◌}
use Rattle.vx_type_wire.specs.Borrowed.{borrowed_entries}
use Rattle.vx_type_wire.proofs.BorrowedReaders.{each_value}
use Rattle.vx_type_wire.proofs.readers.ExtSession.lend.Given as goal

-- the readers so far are borrowed, and the others are left
abbrev pub invariant-loop-id : goal.invariant-loop-id
invariant-loop-id g l =
    borrowed_entries (λ r. (goal.ExtPlugin-dyn g r.now).accepted r.now.1) l.entries.items ++ each_value (λ b. (goal.ExtPlugin-dyn g (b.vtable, b.value)).accepted b.value) l.id-iterator
    ≡ each_value (λ b. (goal.ExtPlugin-dyn g (b.vtable, b.value)).accepted b.value) l.self.readers.entries
