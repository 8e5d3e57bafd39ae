-- The two slots hold the metadata.
use Rattle.std.proofs.Common.{ℕ, ◌≡◌, ap, sym, ◌∙◌, Some}
use Rattle.std.proofs.lemmas.Option.{same_Some}
use Rattle.vx_numbers.specs.Numbers.{code_of}
use Rattle.vx_proto.specs.Parts.{number_in, entries_in}
use Rattle.vx_proto.specs.Value.{value_view}
use Rattle.vx_proto.proofs.LawsOfParts.{whole_read, enum_range}
use Rattle.vx_encodings.proofs.ElementCounts.{both_numbers}
use Rattle.vx_encodings.proofs.OffsetKinds.{kind_coded}
use Rattle.vx_encodings.specs.ListMessage.{list_schema, list_parts}
use Rattle.vx_encodings.proofs.encodings.lists.ListMetadataMessage.from_value.Goals as goal

pub kind_at-offset_ptype-requires : goal.kind_at-offset_ptype-requires
kind_at-offset_ptype-requires c =
    let r = whole_read list_schema 0 list_parts (value_view c.args.slots.items) c.requires in
    let p = kind_coded r.0.1.0 (enum_range 11 r.0.1.0 r.2.1.0) in
    let held = ap (λ s. number_in (entries_in (value_view s) 1)) c.deref-2.ensures.value ∙ ap (λ w. number_in (entries_in w 1)) r.1 in
    (p.0, held ∙ ap (λ (n : ℕ). Some n) (sym p.1))

pub returns-clause-same : goal.returns-clause-same
returns-clause-same c =
    let r = whole_read list_schema 0 list_parts (value_view c.args.slots.items) c.requires in
    let first = ap (λ s. number_in (entries_in (value_view s) 0)) c.deref.ensures.value ∙ ap (λ w. number_in (entries_in w 0)) r.1 in
    let count : c.u64_at-elements_len.result ≡ r.0.0 = c.u64_at-elements_len.ensures.same r.0.0 first in
    let second = ap (λ s. number_in (entries_in (value_view s) 1)) c.deref-2.ensures.value ∙ ap (λ w. number_in (entries_in w 1)) r.1 in
    let code = same_Some (code_of c.kind_at-offset_ptype.result) r.0.1.0 (sym c.kind_at-offset_ptype.ensures ∙ second) in
    both_numbers c.u64_at-elements_len.result r.0.0 c.kind_at-offset_ptype.result r.0.1.0 count code ∙ sym r.1
