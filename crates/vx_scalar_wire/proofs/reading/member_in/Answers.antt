use Rattle.std.proofs.Common.{◌∙◌, sym, arith}
use Rattle.vx_proto.specs.Value.{value_view, view}
use Rattle.vx_scalar_wire.proofs.Held.{first_view, lone, vacant, none_view}
use Rattle.vx_scalar_wire.proofs.reading.member_in.Goals as goal

pub returns-in-empty : goal.returns-in-empty
returns-in-empty c = vacant (value_view c.args.slots.now) c.requires (sym c.entries_at.ensures ∙ none_view c.entries_at.result.now (omega arith))

pub returns-in-len1-up : goal.returns-in-len1-up
returns-in-len1-up c =
    let h = first_view c.entries_at.result.now c.entry-item.result (omega arith) c.entry-item.is in
    lone (value_view c.args.slots.now) c.entry-item.result.0 (view c.entry-item.result.1) h.0 c.requires (sym c.entries_at.ensures ∙ h.1)
