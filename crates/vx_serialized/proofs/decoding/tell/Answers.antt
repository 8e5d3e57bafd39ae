use Rattle.std.proofs.Common.{sym, subst}
use Rattle.vx_types.specs.Typ.{Typ}
use Rattle.vx_scalars.specs.Stats.{FitStats}
use Rattle.vx_serialized.proofs.decoding.tell.Goals as goal

pub unreachable-requires : goal.unreachable-requires
unreachable-requires c = c.in-Err.ensures.err.1 (subst (λ (d : Typ). FitStats d c.in_ok-stats.stats) (sym c.requires) c.in_ok-stats.ensures.fits)

pub returns-clause-told : goal.returns-clause-told
returns-clause-told c = record { stats = c.in_ok-stats.stats; shown = c.in_ok-stats.ensures.shown; tree_is = c.in-Ok.ensures.ok }
