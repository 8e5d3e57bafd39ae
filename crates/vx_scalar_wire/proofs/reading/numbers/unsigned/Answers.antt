use Rattle.std.specs.Int.{w128, cast_signed, cast_unsigned}
use Rattle.std.specs.Prelude.{IfOk, IfErr, Some}
use Rattle.std.proofs.Common.{rules, ◌≡◌, ◌∙◌, ℤ, pos, subst}
use Rattle.std.proofs.lemmas.Int.{to_z-of_z}
use Rattle.vx_proto.specs.Value.{number}
use Rattle.vx_types.specs.Fits.{IsOf, bare}
use Rattle.vx_types.specs.Seen.{typ}
use Rattle.vx_scalar_wire.specs.Refusing.{IsNoInteger, integer_of}
use Rattle.vx_scalar_wire.proofs.Leaves.{half_given, no_unsigned, unsigned_given}
use Rattle.vx_scalar_wire.proofs.reading.numbers.unsigned.Goals as goal

pub returns-in-F16 : goal.returns-in-F16
returns-in-F16 c = λ s most.
    half_given c.half_of.result s most (typ c.args.dtype.now) c.args.value (subst (λ p. IsOf p (bare (typ c.args.dtype.now))) c.in-F16.is c.in-Ok.ensures.ok) c.half_of.ensures.same c.half_of.ensures.fits c.half_of.ensures.none

pub returns-in_default : goal.returns-in_default
returns-in_default c = λ s most.
    let wide : ℤ = cast_signed w128 (cast_unsigned w128 c.from.result) in
    let same : wide ≡ pos c.args.value = to_z-of_z w128 c.from.result (search rules) ∙ c.from.ensures in
    unsigned_given c.integer.result s most (typ c.args.dtype.now) c.in-Ok.kind c.args.value c.in-Ok.ensures.ok c.in_default.not-F16 c.integer.ensures.kind
    (subst (λ z. IfOk c.integer.result (λ n. integer_of n ≡ Some z)) same c.integer.ensures.same) c.integer.ensures.fits
    (subst (λ z. IfErr c.integer.result (λ e. IsNoInteger e c.in-Ok.kind z)) same c.integer.ensures.none)

pub returns-in-Err : goal.returns-in-Err
returns-in-Err c = λ s most. no_unsigned c.in-Err.error s most (typ c.args.dtype.now) (number c.args.value) c.in-Err.ensures.err.0 c.in-Err.ensures.err.1
