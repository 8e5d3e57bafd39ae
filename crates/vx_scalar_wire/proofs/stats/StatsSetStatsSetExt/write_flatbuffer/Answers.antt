use Rattle.std.proofs.lemmas.Result.{err_from_is_err_and}
use Rattle.vx_flat.specs.Building.{Keeps}
use Rattle.vx_scalar_wire.specs.StatsTable.{stats_pieces}
use Rattle.vx_trees.proofs.LawsOfResults.{on_error}
use Rattle.vx_scalar_wire.proofs.Chains.{nothing_kept}
use Rattle.vx_scalar_wire.proofs.stats.StatsSetStatsSetExt.write_flatbuffer.Goals as goal

pub returns-in_err-value_bytes-clause-kept : goal.returns-in_err-value_bytes-clause-kept
returns-in_err-value_bytes-clause-kept c =
    let r = c.from_residual.result in
    let q = err_from_is_err_and r c.from_residual.ensures.1 in
    let old = c.args.builder.now in
    let ps = stats_pieces c.args.self.now in
    on_error r q.0 (Keeps old ps old) q.1 (nothing_kept old ps)

pub returns-in_err-value_bytes-2-clause-kept : goal.returns-in_err-value_bytes-2-clause-kept
returns-in_err-value_bytes-2-clause-kept c =
    let r = c.from_residual-in_err-value_bytes-2.result in
    let q = err_from_is_err_and r c.from_residual-in_err-value_bytes-2.ensures.1 in
    let old = c.args.builder.now in
    let ps = stats_pieces c.args.self.now in
    on_error r q.0 (Keeps old ps old) q.1 (nothing_kept old ps)

pub returns-in_err-sum_bytes-clause-kept : goal.returns-in_err-sum_bytes-clause-kept
returns-in_err-sum_bytes-clause-kept c =
    let r = c.from_residual-in_err-sum_bytes.result in
    let q = err_from_is_err_and r c.from_residual-in_err-sum_bytes.ensures.1 in
    let old = c.args.builder.now in
    let ps = stats_pieces c.args.self.now in
    on_error r q.0 (Keeps old ps old) q.1 (nothing_kept old ps)
