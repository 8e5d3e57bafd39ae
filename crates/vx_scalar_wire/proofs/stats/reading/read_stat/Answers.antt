use Rattle.vx_flat.specs.Seen.{kinds_in, seen}
use Rattle.vx_types.specs.Seen.{typ}
use Rattle.vx_scalar_wire.proofs.StatsValues.{least_at, greatest_at}
use Rattle.vx_scalar_wire.proofs.stats.reading.read_stat.Goals as goal

pub returns-in-Min-clause-complete : goal.returns-in-Min-clause-complete
returns-in-Min-clause-complete c = λ x h.
    c.read_bound.ensures.complete x (least_at c.args.stat (kinds_in c.args.view.now) (typ c.args.dtype.now) (seen c.args.view.now) x c.in-Min.is c.requires h)

pub returns-in-Max-clause-complete : goal.returns-in-Max-clause-complete
returns-in-Max-clause-complete c = λ x h.
    c.read_bound-in-Max.ensures.complete x (greatest_at c.args.stat (kinds_in c.args.view.now) (typ c.args.dtype.now) (seen c.args.view.now) x c.in-Max.is c.requires h)
