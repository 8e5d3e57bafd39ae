-- A plain value of the form of the message is that of its fields.
use Rattle.std.proofs.Common.{◌≡◌, option_map, ap, sym, ◌∙◌, Some, arith}
use Rattle.vx_numbers.specs.Numbers.{code_of}
use Rattle.vx_proto.specs.Parts.{number_in, entries_in}
use Rattle.vx_proto.specs.Value.{value_view}
use Rattle.vx_proto.proofs.LawsOfParts.{whole_read, enum_range, uint32_range}
use Rattle.vx_encodings.proofs.DictFields.{fields_value, flag_held}
use Rattle.vx_encodings.proofs.OffsetKinds.{kind_coded}
use Rattle.vx_encodings.specs.DictMessage.{dict_parts, dict_schema, flag_of}
use Rattle.vx_encodings.proofs.encodings.dict.DictMetadataMessage.from_value.Goals as goal

pub unreachable-requires : goal.unreachable-requires
unreachable-requires c =
    let r = whole_read dict_schema 0 dict_parts (value_view c.args.slots.items) c.requires in
    let below = enum_range 11 r.0.1.0 r.2.1.0 in
    let held = ap (λ s. number_in (entries_in (value_view s) 1)) c.deref-4.ensures.value ∙ ap (λ w. number_in (entries_in w 1)) r.1 in
    let code : c.u8_at.result ≡ r.0.1.0 = c.u8_at.ensures.same r.0.1.0 held (omega (arith, below)) in
    let p = kind_coded r.0.1.0 below in
    let found : c.from_code.result ≡ Some p.0 = c.from_code.ensures.each p.0 (p.1 ∙ sym code) in
    let none = c.in-None.is in
    cc

pub returns-clause-same : goal.returns-clause-same
returns-clause-same c =
    let r = whole_read dict_schema 0 dict_parts (value_view c.args.slots.items) c.requires in
    let below = enum_range 11 r.0.1.0 r.2.1.0 in
    let held0 = ap (λ s. number_in (entries_in (value_view s) 0)) c.deref.ensures.value ∙ ap (λ w. number_in (entries_in w 0)) r.1 in
    let count : c.u32_at-values_len.result ≡ r.0.0 = c.u32_at-values_len.ensures.same r.0.0 held0 (uint32_range r.0.0 r.2.0) in
    let held1 = ap (λ s. number_in (entries_in (value_view s) 1)) c.deref-4.ensures.value ∙ ap (λ w. number_in (entries_in w 1)) r.1 in
    let code : c.u8_at.result ≡ r.0.1.0 = c.u8_at.ensures.same r.0.1.0 held1 (omega (arith, below)) in
    let coded : code_of c.in-Some.codes_ptype ≡ c.u8_at.result = c.in-Some.ensures.coded in
    let nullable : c.option_at-is_nullable_codes.result ≡ r.0.1.1.0 =
    c.option_at-is_nullable_codes.ensures ∙ ap (λ s. option_map flag_of (number_in (entries_in (value_view s) 2))) c.deref-2.ensures.value ∙ ap (λ w. option_map flag_of (number_in (entries_in w 2))) r.1 ∙ flag_held 3 r.0.1.1.0 in
    let referenced : c.option_at-all_values_referenced.result ≡ r.0.1.1.1.0 =
    c.option_at-all_values_referenced.ensures ∙ ap (λ s. option_map flag_of (number_in (entries_in (value_view s) 3))) c.deref-3.ensures.value ∙ ap (λ w. option_map flag_of (number_in (entries_in w 3))) r.1 ∙ flag_held 4 r.0.1.1.1.0 in
    fields_value _ _ _ _ _ _ _ _ count (coded ∙ code) nullable referenced ∙ sym r.1
