use Rattle.std.proofs.Common.{◌≡◌, ◌<◌, ◌≤◌, ◌++◌, ℕ, List, length, get_or, ap, arith}
use Rattle.vx_flat.specs.Seen.{seen}
use Rattle.vx_scalars.specs.StatTypes.{all_stats}
use Rattle.vx_scalars.specs.declared.stat.Stat.{Stat}
use Rattle.vx_scalars.specs.declared.stat.Stat.TheVariants.{Min}
use Rattle.vx_serialized.specs.StatNames.{names_standing}
use Rattle.vx_serialized.proofs.StandingNames.{names-next, names-end}
use Rattle.vx_serialized.proofs.serialized.stat_names.names_of.Goals as goal

pub loop-stat-init : goal.loop-stat-init
loop-stat-init c = record { whole = c.all-stats.ensures; so_far = ap (λ (names : List (List ℕ)). names ++ names_standing (seen c.args.table.now) all_stats) c.new-names.ensures }

pub loop-stat-preserved : goal.loop-stat-preserved
loop-stat-preserved c =
    let i = c.loop-stat.stat-index in
    let whole = c.loop-stat.invariant.whole in
    let nine : length c.all-stats.result ≡ 9 = ap (λ (xs : List Stat). length xs) whole in
    let lt : i < 9 = omega (arith, nine) in
    record {
      whole = whole;
      so_far = names-next (seen c.args.table.now) c.loop-stat.names c.push_name.new.names all_stats i (get_or c.all-stats.result i Min) Min lt (ap (λ (xs : List Stat). get_or xs i Min) whole)
          c.loop-stat.invariant.so_far c.in_ok-push_name.ensures.ok;
    }

pub returns-clause-ok : goal.returns-clause-ok
returns-clause-ok c =
    let nine : length c.all-stats.result ≡ 9 = ap (λ (xs : List Stat). length xs) c.loop-stat.invariant.whole in
    let all : 9 ≤ c.loop-stat.stat-index = omega (arith, nine) in
    names-end (seen c.args.table.now) c.loop-stat.names all_stats c.loop-stat.stat-index all c.loop-stat.invariant.so_far
