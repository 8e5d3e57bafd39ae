use Rattle.std.proofs.Common.{[], ◌++◌}
use Rattle.std.proofs.lemmas.Result.{err_from_is_err_and}
use Rattle.vx_flat.specs.Building.{RefusesPieces}
use Rattle.vx_scalar_wire.specs.StatsBlocks.{vector_pieces}
use Rattle.vx_scalar_wire.specs.StatsTable.{stats_pieces}
use Rattle.vx_trees.proofs.LawsOfResults.{at_error}
use Rattle.vx_scalar_wire.proofs.StatsWays.{head, last_links, later_links, taken, refused_first, at_first, stopped_early, stopped_late, all_written}
use Rattle.vx_scalar_wire.proofs.stats.writing.write_table.Goals as goal

pub table-requires-clause-entries : goal.table-requires-clause-entries
table-requires-clause-entries c = taken c.args.stats.now c.args.stored.now c.entries_of.result c.requires.stored c.entries_of.ensures.entries

pub returns-in_err-table-clause-stopped : goal.returns-in_err-table-clause-stopped
returns-in_err-table-clause-stopped c =
    let r = c.from_residual.result in
    let q = err_from_is_err_and r c.from_residual.ensures.1 in
    let e = c.in_err-table.field-0.0 in
    let old = c.args.builder.now in
    at_error r q.0 e (λ z. RefusesPieces old (stats_pieces c.args.stats.now) z c.table.new.self) q.1 q.2
    (refused_first c.args.stats.now c.args.stored.now c.entries_of.result old c.table.new.self e c.requires.stored c.entries_of.ensures.entries c.in_err-table.ensures.refused)

pub write_bytes-requires : goal.write_bytes-requires
write_bytes-requires c =
    let t = c.args.stats.now in
    let x = c.args.stored.now in
    let old = c.args.builder.now in
    record {
      begun = old;
      first = head t x;
      later = later_links c.in_ok-table.table x;
      before = [];
      way = at_first t x c.entries_of.result c.in_ok-table.table old c.table.new.self c.entries_of.ensures.entries c.in_ok-table.ensures.number c.in_ok-table.ensures.written;
    }

pub returns-in_err-write_bytes-clause-stopped : goal.returns-in_err-write_bytes-clause-stopped
returns-in_err-write_bytes-clause-stopped c =
    let r = c.from_residual-in_err-write_bytes.result in
    let q = err_from_is_err_and r c.from_residual-in_err-write_bytes.ensures.1 in
    let e = c.in_err-write_bytes.field-0.0 in
    let t = c.args.stats.now in
    let x = c.args.stored.now in
    let n = c.in_ok-table.table in
    let old = c.args.builder.now in
    let first = at_first t x c.entries_of.result n old c.table.new.self c.entries_of.ensures.entries c.in_ok-table.ensures.number c.in_ok-table.ensures.written in
    at_error r q.0 e (λ z. RefusesPieces old (stats_pieces t) z c.write_bytes.new.builder) q.1 q.2
    (stopped_early t x old c.write_bytes.new.builder e c.requires.stored
    (c.in_err-write_bytes.ensures.stopped old (head t x) (later_links n x) [] (vector_pieces x.greatest ++ (vector_pieces x.sum ++ [])) first))

pub write_bytes-requires-2 : goal.write_bytes-requires-2
write_bytes-requires-2 c =
    let t = c.args.stats.now in
    let x = c.args.stored.now in
    let n = c.in_ok-table.table in
    let old = c.args.builder.now in
    let first = at_first t x c.entries_of.result n old c.table.new.self c.entries_of.ensures.entries c.in_ok-table.ensures.number c.in_ok-table.ensures.written in
    record {
      begun = old;
      first = head t x;
      later = last_links n x;
      before = vector_pieces x.least;
      way = c.in_ok-write_bytes.ensures.written old (head t x) (later_links n x) [] first;
    }

pub returns-in_err-write_bytes-2-clause-stopped : goal.returns-in_err-write_bytes-2-clause-stopped
returns-in_err-write_bytes-2-clause-stopped c =
    let r = c.from_residual-in_err-write_bytes-2.result in
    let q = err_from_is_err_and r c.from_residual-in_err-write_bytes-2.ensures.1 in
    let e = c.in_err-write_bytes-2.field-0.0 in
    let t = c.args.stats.now in
    let x = c.args.stored.now in
    let n = c.in_ok-table.table in
    let old = c.args.builder.now in
    let first = at_first t x c.entries_of.result n old c.table.new.self c.entries_of.ensures.entries c.in_ok-table.ensures.number c.in_ok-table.ensures.written in
    let second = c.in_ok-write_bytes.ensures.written old (head t x) (later_links n x) [] first in
    at_error r q.0 e (λ z. RefusesPieces old (stats_pieces t) z c.write_bytes-2.new.builder) q.1 q.2
    (stopped_early t x old c.write_bytes-2.new.builder e c.requires.stored
    (c.in_err-write_bytes-2.ensures.stopped old (head t x) (last_links n x) (vector_pieces x.least) (vector_pieces x.sum ++ []) second))

pub write_bytes-requires-3 : goal.write_bytes-requires-3
write_bytes-requires-3 c =
    let t = c.args.stats.now in
    let x = c.args.stored.now in
    let n = c.in_ok-table.table in
    let old = c.args.builder.now in
    let first = at_first t x c.entries_of.result n old c.table.new.self c.entries_of.ensures.entries c.in_ok-table.ensures.number c.in_ok-table.ensures.written in
    let second = c.in_ok-write_bytes.ensures.written old (head t x) (later_links n x) [] first in
    record {
      begun = old;
      first = head t x;
      later = [];
      before = vector_pieces x.least ++ vector_pieces x.greatest;
      way = c.in_ok-write_bytes-2.ensures.written old (head t x) (last_links n x) (vector_pieces x.least) second;
    }

pub returns-in_err-write_bytes-3-clause-stopped : goal.returns-in_err-write_bytes-3-clause-stopped
returns-in_err-write_bytes-3-clause-stopped c =
    let r = c.from_residual-in_err-write_bytes-3.result in
    let q = err_from_is_err_and r c.from_residual-in_err-write_bytes-3.ensures.1 in
    let e = c.in_err-write_bytes-3.field-0.0 in
    let t = c.args.stats.now in
    let x = c.args.stored.now in
    let n = c.in_ok-table.table in
    let old = c.args.builder.now in
    let first = at_first t x c.entries_of.result n old c.table.new.self c.entries_of.ensures.entries c.in_ok-table.ensures.number c.in_ok-table.ensures.written in
    let second = c.in_ok-write_bytes.ensures.written old (head t x) (later_links n x) [] first in
    let third = c.in_ok-write_bytes-2.ensures.written old (head t x) (last_links n x) (vector_pieces x.least) second in
    at_error r q.0 e (λ z. RefusesPieces old (stats_pieces t) z c.write_bytes-3.new.builder) q.1 q.2
    (stopped_late t x old c.write_bytes-3.new.builder e c.requires.stored
    (c.in_err-write_bytes-3.ensures.stopped old (head t x) [] (vector_pieces x.least ++ vector_pieces x.greatest) [] third))

pub returns-clause-written : goal.returns-clause-written
returns-clause-written c =
    let t = c.args.stats.now in
    let x = c.args.stored.now in
    let n = c.in_ok-table.table in
    let old = c.args.builder.now in
    let first = at_first t x c.entries_of.result n old c.table.new.self c.entries_of.ensures.entries c.in_ok-table.ensures.number c.in_ok-table.ensures.written in
    let second = c.in_ok-write_bytes.ensures.written old (head t x) (later_links n x) [] first in
    let third = c.in_ok-write_bytes-2.ensures.written old (head t x) (last_links n x) (vector_pieces x.least) second in
    let fourth = c.in_ok-write_bytes-3.ensures.written old (head t x) [] (vector_pieces x.least ++ vector_pieces x.greatest) third in
    all_written t x old c.write_bytes-3.new.builder c.requires.stored fourth
