use Rattle.std.proofs.Common.{sym, ◌∙◌}
use Rattle.vx_scalars.proofs.Entries.{nowhere-more}
use Rattle.vx_scalars.proofs.stats_set.place_in.Goals as goal

pub loop-i-preserved : goal.loop-i-preserved
loop-i-preserved c =
    nowhere-more c.args.stat c.loop-i.i c.args.entries.now c.index-entries-i.result c.loop-i-test.true c.loop-i.invariant
    (λ e. c.if-index.false (c.index.ensures ∙ e ∙ sym c.index-in-loop-i.ensures))
