use Rattle.std.proofs.Common.{◌≡◌, ap, sym, ◌∙◌, Some, arith}
use Rattle.vx_numbers.specs.Numbers.{code_of}
use Rattle.vx_proto.specs.Parts.{number_in, entries_in}
use Rattle.vx_proto.specs.Value.{value_view}
use Rattle.vx_proto.specs.declared.schema.ScalarKind.TheVariants.{Enum}
use Rattle.vx_proto.proofs.LawsOfParts.{whole_read, enum_range}
use Rattle.vx_encodings.proofs.OffsetKinds.{kind_coded}
use Rattle.vx_encodings.specs.NumberMessage.{number_parts, number_value}
use Rattle.vx_encodings.specs.VarBinMessage.{varbin_schema}
use Rattle.vx_encodings.proofs.encodings.varbin.VarBinMetadataMessage.from_value.Goals as goal

pub unreachable-requires : goal.unreachable-requires
unreachable-requires c =
    let r = whole_read varbin_schema 0 (number_parts (Enum 11) tt) (value_view c.args.slots.items) c.requires in
    let below = enum_range 11 r.0.0 r.2.0 in
    let held = ap (λ s. number_in (entries_in (value_view s) 0)) c.deref.ensures.value ∙ ap (λ w. number_in (entries_in w 0)) r.1 in
    let code : c.u8_at-code.result ≡ r.0.0 = c.u8_at-code.ensures.same r.0.0 held (omega (arith, below)) in
    let p = kind_coded r.0.0 below in
    let found : c.from_code.result ≡ Some p.0 = c.from_code.ensures.each p.0 (p.1 ∙ sym code) in
    let none = c.in-None.is in
    cc

pub returns-clause-same : goal.returns-clause-same
returns-clause-same c =
    let r = whole_read varbin_schema 0 (number_parts (Enum 11) tt) (value_view c.args.slots.items) c.requires in
    let below = enum_range 11 r.0.0 r.2.0 in
    let held = ap (λ s. number_in (entries_in (value_view s) 0)) c.deref.ensures.value ∙ ap (λ w. number_in (entries_in w 0)) r.1 in
    let code : c.u8_at-code.result ≡ r.0.0 = c.u8_at-code.ensures.same r.0.0 held (omega (arith, below)) in
    let coded : code_of c.in-Some.offsets_ptype ≡ c.u8_at-code.result = c.in-Some.ensures.coded in
    ap number_value (coded ∙ code) ∙ sym r.1
