use Rattle.std.proofs.Common.{refl, sym, ◌∙◌, true≢false}
use Rattle.vx_scalars.specs.declared.stat.Stat.TheVariants.{Min, Max, Sum, IsSorted, IsStrictSorted, IsConstant}
use Rattle.vx_scalars.specs.declared.stat.Stat.TheVariants.{NullCount, UncompressedSizeInBytes, NaNCount}
use Rattle.vx_scalars.proofs.stats_set.StatsSet.validate.Goals as goal
use Rattle.vx_scalars.proofs.stats_set.StatsSet.validate.Goals.{else-bounds_fit-via-then-bounds_fit+then-flags_fit+else-counts_fit, else-bounds_fit-via-then-bounds_fit+else-flags_fit, else-bounds_fit-via-else-bounds_fit}

pub returns-clause-err : goal.returns-clause-err
returns-clause-err c = (
  refl,
  λ f. elim c.else-bounds_fit.branch [
    | else-bounds_fit-via-then-bounds_fit+then-flags_fit+else-counts_fit w ↦ true≢false (sym (w.counts_fit.ensures.1 (f NullCount, f UncompressedSizeInBytes, f NaNCount)) ∙ w.if-counts_fit.false)
    | else-bounds_fit-via-then-bounds_fit+else-flags_fit w ↦ true≢false (sym (w.flags_fit.ensures.1 (f IsSorted, f IsStrictSorted, f IsConstant)) ∙ w.if-flags_fit.false)
    | else-bounds_fit-via-else-bounds_fit w ↦ true≢false (sym (c.bounds_fit.ensures.1 (f Min, f Max, f Sum)) ∙ w.if-bounds_fit.false)
  ],
)
