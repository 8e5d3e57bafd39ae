use Rattle.std.specs.Int.{w64, w128, cast_signed, cast_unsigned}
use Rattle.std.proofs.Common.{rules, ◌≡◌, ◌∙◌, ℤ, subst}
use Rattle.std.proofs.lemmas.Int.{to_z-of_z}
use Rattle.vx_proto.specs.Signed.{zigzag}
use Rattle.vx_proto.specs.Value.{number}
use Rattle.vx_types.specs.Seen.{typ}
use Rattle.vx_types.specs.Value as V
use Rattle.vx_scalar_wire.specs.Answers.{GivesValue, lone_member}
use Rattle.vx_scalar_wire.proofs.Leaves.{no_signed, signed_given}
use Rattle.vx_scalar_wire.proofs.reading.numbers.signed.Goals as goal

pub returns-in-Ok : goal.returns-in-Ok
returns-in-Ok c = λ s most.
    let wide : ℤ = cast_signed w128 (cast_unsigned w128 c.from.result) in
    let same : wide ≡ c.args.value = to_z-of_z w128 c.from.result (search rules) ∙ c.from.ensures ∙ to_z-of_z w64 c.args.value c.ranges.value in
    subst (λ z. GivesValue (λ n. V.lone (V.number n)) c.integer.result s most (typ c.args.dtype.now) (lone_member 3 (number (zigzag z)))) same
    (signed_given c.integer.result s most (typ c.args.dtype.now) c.in-Ok.kind wide c.in-Ok.ensures.ok c.integer.ensures.kind c.integer.ensures.same c.integer.ensures.fits c.integer.ensures.none)

pub returns-in-Err : goal.returns-in-Err
returns-in-Err c = λ s most. no_signed c.in-Err.error s most (typ c.args.dtype.now) (number (zigzag c.args.value)) c.in-Err.ensures.err.0 c.in-Err.ensures.err.1
