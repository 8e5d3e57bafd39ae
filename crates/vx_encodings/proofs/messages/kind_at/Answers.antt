-- There is a kind with this code.
use Rattle.std.proofs.Common.{◌≡◌, ap, sym, ◌∙◌, Some, arith}
use Rattle.vx_numbers.specs.Numbers.{code_of}
use Rattle.vx_encodings.proofs.OffsetKinds.{few_kinds}
use Rattle.vx_encodings.proofs.messages.kind_at.Goals as goal

pub unreachable-requires : goal.unreachable-requires
unreachable-requires c =
    let p = c.requires in
    let code : c.u8_at.result ≡ code_of p.0 = c.u8_at.ensures.same (code_of p.0) p.1 (omega (arith, few_kinds p.0)) in
    let found : c.from_code.result ≡ Some p.0 = c.from_code.ensures.each p.0 (sym code) in
    let none = c.in-None.is in
    cc

pub returns : goal.returns
returns c =
    let p = c.requires in
    let code : c.u8_at.result ≡ code_of p.0 = c.u8_at.ensures.same (code_of p.0) p.1 (omega (arith, few_kinds p.0)) in
    let coded : code_of c.in-Some.kind ≡ c.u8_at.result = c.in-Some.ensures.coded in
    p.1 ∙ ap (λ n. Some n) (sym (coded ∙ code))
