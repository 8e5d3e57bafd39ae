use Rattle.vx_flat.specs.Seen.{part_in}
use Rattle.vx_scalars.specs.StatTypes.{stat_type}
use Rattle.vx_types.specs.Seen.{typ}
use Rattle.vx_scalar_wire.proofs.StatsValues.{typed_some, told_bytes}
use Rattle.vx_scalar_wire.proofs.stats.reading.value_in.Goals as goal

pub returns-in-Some-bytes-clause-complete : goal.returns-in-Some-bytes-clause-complete
returns-in-Some-bytes-clause-complete c = λ h.
    let o = stat_type c.args.stat (typ c.args.dtype.now) in
    c.value_of_type.ensures.complete
    (told_bytes o (typ c.in-Some.own) (part_in c.args.view.now c.args.field) c.in-Some-bytes.bytes.now (typed_some _ c.in-Some.own o c.in-Some.is c.in_ok-own.ensures.ok) c.in-Some-bytes.ensures h)
