use Rattle.std.proofs.Common.{◌≡◌, None, Some, ap, sym, subst, ◌∙◌}
use Rattle.vx_proto.specs.Form.{HasForm}
use Rattle.vx_proto.specs.Parts.{message_in, entries_in}
use Rattle.vx_proto.specs.Value.{Value, value_view}
use Rattle.vx_proto.proofs.LawsOfParts.{IfStands, whole_read, message_is_held}
use Rattle.vx_type_wire.specs.TypeMessage.{type_lists}
use Rattle.vx_encodings.specs.VariantMessage.{variant_schema, variant_value, variant_parts}
use Rattle.vx_encodings.proofs.encodings.variant.VariantMetadataMessage.from_value.Goals as goal

pub new-requires : goal.new-requires
new-requires c =
    let r = whole_read variant_schema 14 variant_parts (value_view c.args.slots.items) c.requires in
    let shredded : Some (value_view c.in-Some.inner.items) ≡ r.0.0 = c.in-Some.ensures ∙ ap (λ w. message_in (entries_in w 0)) r.1 ∙ message_is_held 1 r.0.0 in
    subst (IfStands (HasForm type_lists 0)) (sym shredded) r.2.0

pub returns-in-Some-clause-same : goal.returns-in-Some-clause-same
returns-in-Some-clause-same c =
    let r = whole_read variant_schema 14 variant_parts (value_view c.args.slots.items) c.requires in
    let shredded : Some (value_view c.in-Some.inner.items) ≡ r.0.0 = c.in-Some.ensures ∙ ap (λ w. message_in (entries_in w 0)) r.1 ∙ message_is_held 1 r.0.0 in
    ap (λ (v : Value). variant_value (Some v)) c.new.ensures ∙ ap variant_value shredded ∙ sym r.1

pub returns-in-None-clause-same : goal.returns-in-None-clause-same
returns-in-None-clause-same c =
    let r = whole_read variant_schema 14 variant_parts (value_view c.args.slots.items) c.requires in
    let shredded : None ≡ r.0.0 = c.in-None.ensures ∙ ap (λ w. message_in (entries_in w 0)) r.1 ∙ message_is_held 1 r.0.0 in
    ap variant_value shredded ∙ sym r.1
