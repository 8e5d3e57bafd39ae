use Rattle.std.proofs.Common.{arith}
use Rattle.vx_flat.specs.Seen.{part_in}
use Rattle.vx_scalars.specs.Seen.{value_of}
use Rattle.vx_scalars.specs.StatTypes.{stat_type}
use Rattle.vx_types.specs.Seen.{typ}
use Rattle.vx_scalar_wire.specs.declared.error.ScalarWireError.TheVariants.{BadPrecision}
use Rattle.vx_scalar_wire.proofs.StatsValues.{some_holds, never_bad}
use Rattle.vx_scalar_wire.proofs.stats.reading.read_bound.Goals as goal

pub returns-in_default-number-clause-complete : goal.returns-in_default-number-clause-complete
returns-in_default-number-clause-complete c = λ x h.
    let o = stat_type c.args.stat (typ c.args.dtype.now) in
    let f = part_in c.args.view.now c.args.field in
    let p = part_in c.args.view.now c.args.precision in
    never_bad o f p x (value_of c.in-Some.value) c.number.result BadPrecision h (some_holds _ c.in-Some.value o f c.in-Some.is c.in_ok-value.ensures.read) c.number.ensures (omega arith)
