use Rattle.std.proofs.Common.{sym, ap, ◌∙◌, subst}
use Rattle.vx_scalars.specs.Stats.{with_told, IsNowhere}
use Rattle.vx_scalars.specs.declared.precision.Precision.TheVariants.{Absent}
use Rattle.vx_scalars.proofs.Entries.{changes-view, nowhere-changes, told-absent}
use Rattle.vx_scalars.proofs.stats_set.StatsSet.set.Goals as goal

pub returns-then-absent-2-clause-ok : goal.returns-then-absent-2-clause-ok
returns-then-absent-2-clause-ok c =
    let s = c.args.stat in
    let es = c.self.inside.entries.items in
    let f : IsNowhere s es = subst (λ xs. IsNowhere s xs) c.as_slice.ensures.value c.in-None.ensures in
    let nothing = told-absent c.args.value (sym c.is_absent-absent.ensures.absent ∙ c.if-absent-2.true) in
    sym c.self.view_is ∙ changes-view s Absent es es (nowhere-changes s es f) ∙ ap (λ t. with_told t s Absent) c.self.view_is
    ∙ ap (λ x. with_told c.args.self.now s x) (sym nothing)
