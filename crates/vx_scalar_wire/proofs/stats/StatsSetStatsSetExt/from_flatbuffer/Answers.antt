use Rattle.std.proofs.Common.{◌≡◌, ◌<◌, ◌≤◌, List, length, get_or, ap, arith}
use Rattle.std.proofs.lemmas.Result.{err_from_is_err_and}
use Rattle.vx_flat.specs.Seen.{seen}
use Rattle.vx_types.specs.Seen.{typ}
use Rattle.vx_scalars.specs.Stats.{told, told_at}
use Rattle.vx_scalars.specs.declared.stat.Stat.{Stat}
use Rattle.vx_scalars.specs.declared.stat.Stat.TheVariants.{Min}
use Rattle.vx_scalar_wire.specs.declared.error.ScalarWireError.TheVariants.{OutOfMemory}
use Rattle.vx_trees.proofs.LawsOfResults.{at_match}
use Rattle.vx_scalar_wire.proofs.StatsRead.{one_more, all_shown, stats_fit, stats_one}
use Rattle.vx_scalar_wire.proofs.stats.StatsSetStatsSetExt.from_flatbuffer.Goals as goal

pub loop-stat-init : goal.loop-stat-init
loop-stat-init c = record { whole = c.all-stats.ensures; so_far = λ s lt. absurd (omega (arith, lt)) }

pub loop-stat-preserved : goal.loop-stat-preserved
loop-stat-preserved c =
    let i = c.loop-stat.stat-index in
    let whole = c.loop-stat.invariant.whole in
    let nine : length c.all-stats.result ≡ 9 = ap (λ (xs : List Stat). length xs) whole in
    let lt : i < 9 = omega (arith, nine) in
    record {
      whole = whole;
      so_far = one_more i (typ c.args.dtype.now) (seen c.args.view.now) c.loop-stat.set c.set-in-loop-stat.new.self (get_or c.all-stats.result i Min) (told c.in_ok-told.told) lt (ap (λ (xs : List Stat). get_or xs i Min) whole)
          c.loop-stat.invariant.so_far c.in_ok-told.ensures.read c.in_ok-set.ensures.ok;
    }

pub returns-in_err-told-clause-complete : goal.returns-in_err-told-clause-complete
returns-in_err-told-clause-complete c = λ t h.
    let r = c.from_residual.result in
    let q = err_from_is_err_and r c.from_residual.ensures.1 in
    let s = get_or c.all-stats.result c.loop-stat.stat-index Min in
    at_match r q.0 c.in_err-told.field-0.0 (λ set. set ≡ t) (λ e. e ≡ OutOfMemory) q.1 q.2 (c.in_err-told.ensures.complete (told_at t s) (h s))

pub returns-clause-read : goal.returns-clause-read
returns-clause-read c =
    let nine : length c.all-stats.result ≡ 9 = ap (λ (xs : List Stat). length xs) c.loop-stat.invariant.whole in
    let all : 9 ≤ c.loop-stat.stat-index = omega (arith, nine) in
    all_shown (typ c.args.dtype.now) (seen c.args.view.now) c.loop-stat.set c.loop-stat.stat-index all c.loop-stat.invariant.so_far

pub returns-clause-fits : goal.returns-clause-fits
returns-clause-fits c =
    let d = typ c.args.dtype.now in
    let vs = seen c.args.view.now in
    let nine : length c.all-stats.result ≡ 9 = ap (λ (xs : List Stat). length xs) c.loop-stat.invariant.whole in
    let all : 9 ≤ c.loop-stat.stat-index = omega (arith, nine) in
    stats_fit d vs c.loop-stat.set (all_shown d vs c.loop-stat.set c.loop-stat.stat-index all c.loop-stat.invariant.so_far)

pub returns-clause-complete : goal.returns-clause-complete
returns-clause-complete c = λ t h.
    let d = typ c.args.dtype.now in
    let vs = seen c.args.view.now in
    let nine : length c.all-stats.result ≡ 9 = ap (λ (xs : List Stat). length xs) c.loop-stat.invariant.whole in
    let all : 9 ≤ c.loop-stat.stat-index = omega (arith, nine) in
    stats_one d vs c.loop-stat.set t (all_shown d vs c.loop-stat.set c.loop-stat.stat-index all c.loop-stat.invariant.so_far) h
