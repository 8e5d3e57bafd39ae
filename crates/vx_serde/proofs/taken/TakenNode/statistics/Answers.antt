use Rattle.std.proofs.Common.{ap, ◌∙◌, subst}
use Rattle.vx_trees.specs.Rose.{label, below}
use Rattle.vx_scalars.specs.Stats.{FitStats}
use Rattle.vx_array_tree.specs.Tree.{Tree}
use Rattle.vx_serde.specs.Taking.{source_tree, taken_below}
use Rattle.vx_serde.proofs.Taking.{same_stats, same_fit}
use Rattle.vx_serde.proofs.taken.TakenNode.statistics.Goals as goal

pub returns-clause-stats : goal.returns-clause-stats
returns-clause-stats c =
    let n = c.self.inside in
    c.statistics.ensures.stats ∙ ap (λ (z : Tree). (label z).stats) c.array.ensures ∙ same_stats (source_tree n.source) (taken_below (below (source_tree n.source)) n.children) c.args.self.now n.given c.self.view_is

pub returns-clause-fits : goal.returns-clause-fits
returns-clause-fits c =
    let n = c.self.inside in
    same_fit (source_tree n.source) (taken_below (below (source_tree n.source)) n.children) c.args.self.now n.given c.self.view_is (subst (λ (z : Tree). FitStats (label z).dtype (label z).stats) c.array.ensures c.statistics.ensures.fits)
