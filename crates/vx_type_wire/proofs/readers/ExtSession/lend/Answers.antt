use Rattle.std.proofs.Common.{ap, ◌∙◌}
use Rattle.vx_type_wire.specs.Borrowed.{borrowed_entries}
use Rattle.vx_type_wire.proofs.BorrowedReaders.{none_borrowed, borrowed_alike}
use Rattle.vx_type_wire.proofs.readers.ExtSession.lend.Goals as goal

pub loop-id-init : goal.loop-id-init
loop-id-init g c =
    none_borrowed (λ b. (goal.ExtPlugin-dyn g (b.vtable, b.value)).accepted b.value) c.args.self.now.readers.entries c.into_iter-id-iterator.result _
    (ap (λ z. borrowed_entries (λ r. (goal.ExtPlugin-dyn g r.now).accepted r.now.1) z) c.new-entries.ensures.items) (c.into_iter-id-iterator.ensures.into_iter_gives ∙ c.iter-id-items.ensures.rest)

pub returns : goal.returns
returns g c =
    borrowed_alike (λ b. (goal.ExtPlugin-dyn g (b.vtable, b.value)).accepted b.value) c.args.self.now.readers.entries c.loop-id.id-iterator _ c.args.self.now.unknown c.in-None.ensures.steps.0 c.loop-id.invariant
