use Rattle.std.proofs.Common.{sym, subst}
use Rattle.vx_flat.specs.Seen.{seen}
use Rattle.vx_trees.specs.Rose.{label}
use Rattle.vx_types.specs.Seen.{typ}
use Rattle.vx_scalars.specs.Stats.{Stats, FitStats}
use Rattle.vx_scalars.proofs.LawsStats.{none_fit}
use Rattle.vx_serialized.proofs.StatsRead.{refused_stats, shown_stats, shown_none}
use Rattle.vx_serialized.proofs.decoding.statistics_in.Goals as goal

pub returns-in-Ok-clause-shown : goal.returns-in-Ok-clause-shown
returns-in-Ok-clause-shown c = shown_stats (typ c.args.dtype.now) (label c.args.node.now.root).stats (seen c.in-Some.table) c.in-Ok.stats c.in-Some.ensures.some c.in-Ok.ensures.read

pub returns-in-Err-clause-cause : goal.returns-in-Err-clause-cause
returns-in-Err-clause-cause c =
    rw c.as_wire_error.ensures
    (refused_stats c.in-Err.e (typ c.args.dtype.now) (label c.args.node.now.root).stats (seen c.in-Some.table) c.in-Some.ensures.some c.in-Err.ensures.complete)

pub returns-in_default-clause-shown : goal.returns-in_default-clause-shown
returns-in_default-clause-shown c = shown_none (typ c.args.dtype.now) (label c.args.node.now.root).stats c.new.result c.in_default.ensures.none c.new.ensures

pub returns-in_default-clause-fits : goal.returns-in_default-clause-fits
returns-in_default-clause-fits c = subst (λ (x : Stats). FitStats (typ c.args.dtype.now) x) (sym c.new.ensures) (none_fit (typ c.args.dtype.now))
