use Rattle.vx_proto.specs.Value.{number}
use Rattle.vx_types.specs.Seen.{typ}
use Rattle.vx_scalar_wire.proofs.Leaves.{mismatch, no_flags}
use Rattle.vx_scalar_wire.proofs.reading.numbers.flag_value.Goals as goal

pub returns-in_default : goal.returns-in_default
returns-in_default c = λ s most.
    mismatch s most (typ c.args.dtype.now) (typ c.bare_dtype.result.now) 2 (number c.args.value) c.bare_dtype.ensures (no_flags c.bare_dtype.result.now c.in_default.not-Bool)
