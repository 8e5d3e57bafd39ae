use Rattle.std.proofs.Common.{◌≡◌, ap, sym, ◌∙◌}
use Rattle.vx_proto.specs.Parts.{number_in, entries_in}
use Rattle.vx_proto.specs.Value.{value_view}
use Rattle.vx_proto.specs.declared.schema.ScalarKind.TheVariants.{Uint32}
use Rattle.vx_proto.proofs.LawsOfParts.{whole_read, uint32_range}
use Rattle.vx_encodings.specs.BoolMessage.{bool_schema, bool_value}
use Rattle.vx_encodings.specs.NumberMessage.{number_parts}
use Rattle.vx_encodings.proofs.encodings.bool.BoolMetadataMessage.from_value.Goals as goal

pub returns-clause-same : goal.returns-clause-same
returns-clause-same c =
    let r = whole_read bool_schema 0 (number_parts Uint32 tt) (value_view c.args.slots.items) c.requires in
    let held = ap (λ s. number_in (entries_in (value_view s) 0)) c.deref.ensures.value ∙ ap (λ w. number_in (entries_in w 0)) r.1 in
    let offset : c.u32_at-offset.result ≡ r.0.0 = c.u32_at-offset.ensures.same r.0.0 held (uint32_range r.0.0 r.2.0) in
    ap bool_value offset ∙ sym r.1
