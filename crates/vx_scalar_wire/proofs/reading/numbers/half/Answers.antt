use Rattle.std.proofs.Common.{subst, refl, inl}
use Rattle.vx_proto.specs.Value.{number}
use Rattle.vx_types.specs.Fits.{IsOf, bare}
use Rattle.vx_types.specs.Seen.{typ}
use Rattle.vx_numbers.specs.declared.value.PValue.TheVariants.{F16}
use Rattle.vx_scalar_wire.proofs.Leaves.{float_given, no_half, other_half}
use Rattle.vx_scalar_wire.proofs.reading.numbers.half.Goals as goal

pub returns-in-F16 : goal.returns-in-F16
returns-in-F16 c = λ s most.
    float_given c.half_of.result s most (typ c.args.dtype.now) 10 (number c.args.value) (F16 c.args.value) (subst (λ p. IsOf p (bare (typ c.args.dtype.now))) c.in-F16.is c.in-Ok.ensures.ok) refl (inl refl)
    c.half_of.ensures.same c.half_of.ensures.fits c.half_of.ensures.none

pub returns-in_default : goal.returns-in_default
returns-in_default c = λ s most. other_half s most (typ c.args.dtype.now) (number c.args.value) c.in-Ok.kind c.in-Ok.ensures.ok c.in_default.not-F16

pub returns-in-Err : goal.returns-in-Err
returns-in-Err c = λ s most. no_half c.in-Err.error s most (typ c.args.dtype.now) (number c.args.value) c.in-Err.ensures.err.0 c.in-Err.ensures.err.1
