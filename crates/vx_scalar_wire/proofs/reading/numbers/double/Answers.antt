use Rattle.std.proofs.Common.{subst, refl, arith}
use Rattle.vx_proto.specs.Value.{number}
use Rattle.vx_types.specs.Fits.{IsOf, bare}
use Rattle.vx_types.specs.Seen.{typ}
use Rattle.vx_scalar_wire.proofs.Leaves.{no_double, other_double}
use Rattle.vx_scalar_wire.proofs.reading.numbers.double.Goals as goal

pub returns-in-F64 : goal.returns-in-F64
returns-in-F64 c = λ s most. (subst (λ p. IsOf p (bare (typ c.args.dtype.now))) c.in-F64.is c.in-Ok.ensures.ok, refl, omega (arith, c.ranges.value.fits), refl)

pub returns-in_default : goal.returns-in_default
returns-in_default c = λ s most. other_double s most (typ c.args.dtype.now) (number c.args.value) c.in-Ok.kind c.in-Ok.ensures.ok c.in_default.not-F64

pub returns-in-Err : goal.returns-in-Err
returns-in-Err c = λ s most. no_double c.in-Err.error s most (typ c.args.dtype.now) (number c.args.value) c.in-Err.ensures.err.0 c.in-Err.ensures.err.1
