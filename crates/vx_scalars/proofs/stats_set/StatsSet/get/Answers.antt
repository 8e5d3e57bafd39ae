use Rattle.std.proofs.Common.{sym, ap, ◌∙◌, subst, arith}
use Rattle.vx_scalars.specs.Places.{IsPlace}
use Rattle.vx_scalars.specs.Stats.{told, told_at, told_in, IsNowhere}
use Rattle.vx_scalars.proofs.Entries.{place-below, place-tells, nowhere-tells, told_at-stats_of}
use Rattle.vx_scalars.proofs.stats_set.StatsSet.get.Goals as goal

pub index-requires : goal.index-requires
index-requires c =
    let es = c.self.inside.entries.items in
    let p : IsPlace c.args.stat c.in-Some.place es = subst (λ xs. IsPlace c.args.stat c.in-Some.place xs) c.as_slice.ensures.value c.in-Some.ensures in
    omega (arith, place-below c.args.stat c.in-Some.place es p, c.self.inside.entries.ok.0)

pub returns-in-Some : goal.returns-in-Some
returns-in-Some c =
    let es = c.self.inside.entries.items in
    let p : IsPlace c.args.stat c.in-Some.place es = subst (λ xs. IsPlace c.args.stat c.in-Some.place xs) c.as_slice.ensures.value c.in-Some.ensures in
    ap told c.as_borrowed.ensures ∙ ap (λ e. told e.1) c.index.ensures ∙ place-tells c.args.stat c.in-Some.place es c.index.result.now p
    ∙ sym (told_at-stats_of (λ s. told_in s es) c.args.stat) ∙ ap (λ t. told_at t c.args.stat) c.self.view_is

pub returns-in-None : goal.returns-in-None
returns-in-None c =
    let es = c.self.inside.entries.items in
    let f : IsNowhere c.args.stat es = subst (λ xs. IsNowhere c.args.stat xs) c.as_slice.ensures.value c.in-None.ensures in
    sym (nowhere-tells c.args.stat es f) ∙ sym (told_at-stats_of (λ s. told_in s es) c.args.stat) ∙ ap (λ t. told_at t c.args.stat) c.self.view_is
