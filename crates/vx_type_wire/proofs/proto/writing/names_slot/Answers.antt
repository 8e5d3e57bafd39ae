use Rattle.std.proofs.Common.{◌++◌, ◌+◌, drop, ap, ◌∙◌, List, ℕ}
use Rattle.vx_proto.specs.Repeated.{members}
use Rattle.vx_proto.proofs.LawsOfRepeated.{member_written, all_written}
use Rattle.vx_proto.specs.Value.{octets, entries_view}
use Rattle.vx_type_wire.proofs.proto.writing.names_slot.Goals as goal

pub loop-name-preserved : goal.loop-name-preserved
loop-name-preserved c =
    let names = c.as_slice-name-items.result.now in
    ap (λ z. entries_view z ++ members octets c.args.number (drop (c.loop-name.name-index + 1) names)) c.in_ok-push.ensures.items
    ∙ member_written octets c.args.number c.loop-name.entries.items c.in_ok-copied.field-0 names c.loop-name.name-index c.name-item.result c.loop-name-test.true c.name-item.is
    (c.in_ok-copied.ensures.same ∙ ap octets (c.as_bytes.ensures.value ∙ c.as_str-text.ensures.same)) c.loop-name.invariant

pub returns-clause-same : goal.returns-clause-same
returns-clause-same c =
    all_written octets c.args.number c.loop-name.entries.items c.as_slice-name-items.result.now c.loop-name.name-index c.loop-name-test.false c.loop-name.invariant
    ∙ ap (λ (z : List (List ℕ)). members octets c.args.number z) c.as_slice-name-items.ensures
