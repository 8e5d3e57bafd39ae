use Rattle.std.proofs.Common.{subst, refl}
use Rattle.vx_proto.specs.Value.{number}
use Rattle.vx_types.specs.Fits.{IsOf, bare}
use Rattle.vx_types.specs.Seen.{typ}
use Rattle.vx_numbers.specs.declared.value.PValue.TheVariants.{F32}
use Rattle.vx_scalar_wire.proofs.Leaves.{float_given, no_single, other_single}
use Rattle.vx_scalar_wire.proofs.reading.numbers.single.Goals as goal

pub returns-in-F32 : goal.returns-in-F32
returns-in-F32 c = λ s most.
    float_given c.single_of.result s most (typ c.args.dtype.now) 5 (number c.args.value) (F32 c.args.value) (subst (λ p. IsOf p (bare (typ c.args.dtype.now))) c.in-F32.is c.in-Ok.ensures.ok) refl refl
    c.single_of.ensures.same c.single_of.ensures.fits c.single_of.ensures.none

pub returns-in_default : goal.returns-in_default
returns-in_default c = λ s most. other_single s most (typ c.args.dtype.now) (number c.args.value) c.in-Ok.kind c.in-Ok.ensures.ok c.in_default.not-F32

pub returns-in-Err : goal.returns-in-Err
returns-in-Err c = λ s most. no_single c.in-Err.error s most (typ c.args.dtype.now) (number c.args.value) c.in-Err.ensures.err.0 c.in-Err.ensures.err.1
