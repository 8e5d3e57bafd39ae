use Rattle.std.proofs.Common.{[], ◌∷◌, refl, ap, ◌∙◌}
use Rattle.vx_proto.proofs.LawsOfMessages.{where_ok}
use Rattle.vx_proto.proofs.LawsOfRepeated.{shows_message}
use Rattle.vx_proto.specs.Value.{Content, value_view}
use Rattle.vx_scalar_wire.proofs.writing.message_slot.Goals as goal

pub returns-clause-same : goal.returns-clause-same
returns-clause-same c =
    where_ok c.one.result _ _ c.one.ensures.same
    (λ es same. same ∙ ap (λ (e : Content). (c.args.number, e) ∷ []) (shows_message c.args.slots (value_view c.args.slots.items) refl))
