-- Rows are built of other rows one by one, and cells are spent for them.
use Rattle.std.proofs.Common.{◌≡◌, ◌+◌, List, ap, sym, subst, arith}
use Rattle.std.proofs.lemmas.Result.{err_from_is_err_and}
use Rattle.vx_trees.specs.Rose.{roses_of}
use Rattle.vx_types.specs.Seen.{typ}
use Rattle.vx_types.specs.Value.{Value, value_cells}
use Rattle.vx_array_tree.specs.Rows.{values_from, cells_from, values_at, cells_at}
use Rattle.vx_array_tree.specs.Encodings.Variants.{row_over}
use Rattle.vx_array_tree.specs.Tree.{cells, rows_of, rows_below}
use Rattle.std.proofs.Common.{take}
use Rattle.std.specs.Prelude.{max}
use Rattle.vx_rows.specs.Plain.{plain_value}
use Rattle.vx_arrays.specs.Variants.{merged_row}
use Rattle.vx_rows.proofs.LawsOfCells.{refused_after, same_refused, same_row, same_spent}
use Rattle.vx_arrays.proofs.Counted.{values_more, cells_more, cells_within, across_more, across_cells, across_within, row_inside, smaller_at}
use Rattle.vx_arrays.proofs.MergedRows.{core_refused, least_left, merged_is, own_refused, row_fits, typed_refused, variant_row_is}
use Rattle.vx_arrays.proofs.+rows.Goals as goal

-- ---- of an array

pub parts::run_values-returns-in_err-value-clause-err : goal.parts::run_values-returns-in_err-value-clause-err
parts::run_values-returns-in_err-value-clause-err t c =
    let q = err_from_is_err_and c.from_residual.result c.from_residual.ensures.1 in
    let r = rows_of c.args.array.now in
    rw (q.1, q.2)
    (refused_after c.in_err-value.field-0.0 (cells_from r c.args.start c.loop-i.i) (r.cells (c.args.start + c.loop-i.i)) c.loop-i.budget c.args.budget.now (cells_from r c.args.start c.args.count)
    c.loop-i.invariant.spent (cells_within r c.args.start c.loop-i.i c.args.count c.loop-i-test.true) c.in_err-value.ensures.err)

pub parts::run_values-loop-i-preserved : goal.parts::run_values-loop-i-preserved
parts::run_values-loop-i-preserved t c =
    let r = rows_of c.args.array.now in
    record {
      built = subst (λ (vs : List Value). roses_of vs ≡ values_from r c.args.start (c.loop-i.i + 1)) (sym c.in_ok-push.ensures.ok)
          (values_more r c.args.start c.loop-i.i c.loop-i.values (plain_value c.in_ok-value.value) c.loop-i.invariant.built c.in_ok-value.ensures.row);
      spent = omega (arith, c.loop-i.invariant.spent, c.in_ok-value.ensures.spent, cells_more r c.args.start c.loop-i.i);
    }

-- ---- of several arrays

pub parts::across_values-row_within-requires : goal.parts::across_values-row_within-requires
parts::across_values-row_within-requires t c =
    let ts = c.args.arrays.now in
    let u = c.index-arrays-i.result in (
      omega (arith, smaller_at ts c.loop-i.i u c.loop-i-test.true c.index-arrays-i.is),
      row_inside ts c.args.index c.loop-i.i u c.loop-i-test.true c.index-arrays-i.is c.requires.inside,
    )

pub parts::across_values-returns-in_err-value-clause-err : goal.parts::across_values-returns-in_err-value-clause-err
parts::across_values-returns-in_err-value-clause-err t c =
    let q = err_from_is_err_and c.from_residual.result c.from_residual.ensures.1 in
    let ts = c.args.arrays.now in
    let u = c.index-arrays-i.result in
    rw (q.1, q.2)
    (refused_after c.in_err-value.field-0.0 (cells_at (rows_below (roses_of (take c.loop-i.i ts))) c.args.index) (cells u c.args.index) c.loop-i.budget c.args.budget.now (cells_at (rows_below (roses_of ts)) c.args.index)
    c.loop-i.invariant.spent (across_within ts c.args.index c.loop-i.i u c.loop-i-test.true c.index-arrays-i.is) c.in_err-value.ensures.err)

pub parts::across_values-loop-i-preserved : goal.parts::across_values-loop-i-preserved
parts::across_values-loop-i-preserved t c =
    let ts = c.args.arrays.now in
    let u = c.index-arrays-i.result in
    record {
      built = subst (λ (vs : List Value). roses_of vs ≡ values_at (rows_below (roses_of (take (c.loop-i.i + 1) ts))) c.args.index) (sym c.in_ok-push.ensures.ok)
          (across_more ts c.args.index c.loop-i.i c.loop-i.values u (plain_value c.in_ok-value.value) c.loop-i-test.true c.index-arrays-i.is c.loop-i.invariant.built c.in_ok-value.ensures.row);
      spent = omega (arith, c.loop-i.invariant.spent, c.in_ok-value.ensures.spent, across_cells ts c.args.index c.loop-i.i u c.loop-i-test.true c.index-arrays-i.is);
    }

-- ---- of a typed child over a core

pub parts::merged_value-spent_over-row-requires : goal.parts::merged_value-spent_over-row-requires
parts::merged_value-spent_over-row-requires t c = record {
  fits = row_fits c.args.shredded.now c.args.index (plain_value c.in_ok-over.over) (typ c.dtype-dtype.result.now) c.dtype-dtype.ensures.sound c.requires.shredded c.in_ok-over.ensures.row c.dtype-dtype.ensures.dtype;
  core = variant_row_is c.args.core.now c.args.index (plain_value c.in-Ok.under) c.len-rows.ensures.sound c.requires.variants c.requires.core c.in-Ok.ensures.row;
}

pub parts::merged_value-returns-in_err-over-clause-err : goal.parts::merged_value-returns-in_err-over-clause-err
parts::merged_value-returns-in_err-over-clause-err t c =
    let q = err_from_is_err_and c.from_residual.result c.from_residual.ensures.1 in
    let i = c.args.index in
    rw (q.1, q.2)
    (typed_refused c.in_err-over.field-0.0 c.args.budget.now (value_cells (merged_row c.args.core.now c.args.shredded.now i)) (cells c.args.core.now i) (cells c.args.shredded.now i) c.in_err-over.ensures.err)

pub parts::merged_value-returns-in-Err-clause-err : goal.parts::merged_value-returns-in-Err-clause-err
parts::merged_value-returns-in-Err-clause-err t c =
    let i = c.args.index in
    core_refused c.in-Err.error c.args.budget.now (value_cells (merged_row c.args.core.now c.args.shredded.now i)) (cells c.args.core.now i) (cells c.args.shredded.now i) c.in-Err.ensures.err

pub parts::merged_value-returns-in-Ok-clause-row : goal.parts::merged_value-returns-in-Ok-clause-row
parts::merged_value-returns-in-Ok-clause-row t c =
    same_row c.spent_over-row.result (row_over (typ c.dtype-dtype.result.now) (plain_value c.in_ok-over.over) (plain_value c.in-Ok.under)) (merged_row c.args.core.now c.args.shredded.now c.args.index)
    (merged_is c.args.core.now c.args.shredded.now c.args.index (typ c.dtype-dtype.result.now) (plain_value c.in_ok-over.over) (plain_value c.in-Ok.under) c.dtype-dtype.ensures.dtype c.in_ok-over.ensures.row c.in-Ok.ensures.row)
    c.spent_over-row.ensures.row

pub parts::merged_value-returns-in-Ok-clause-spent : goal.parts::merged_value-returns-in-Ok-clause-spent
parts::merged_value-returns-in-Ok-clause-spent t c =
    let i = c.args.index in
    let d = typ c.dtype-dtype.result.now in
    let own = value_cells (merged_row c.args.core.now c.args.shredded.now i) in
    let e = merged_is c.args.core.now c.args.shredded.now i d (plain_value c.in_ok-over.over) (plain_value c.in-Ok.under) c.dtype-dtype.ensures.dtype c.in_ok-over.ensures.row c.in-Ok.ensures.row in
    least_left c.spent_over-row.result c.args.budget.now own (cells c.args.core.now i) (cells c.args.shredded.now i) c.spent_over-row.new.budget c.row_within-2.new.budget c.row_within.new.budget c.min.result c.min-in-Ok.result
    (same_spent c.spent_over-row.result (value_cells (row_over d (plain_value c.in_ok-over.over) (plain_value c.in-Ok.under))) own c.args.budget.now c.spent_over-row.new.budget (ap (λ (v : Value). value_cells v) e) c.spent_over-row.ensures.spent)
    c.in-Ok.ensures.spent c.in_ok-over.ensures.spent c.min.ensures c.min-in-Ok.ensures

pub parts::merged_value-returns-in-Ok-clause-err : goal.parts::merged_value-returns-in-Ok-clause-err
parts::merged_value-returns-in-Ok-clause-err t c =
    let i = c.args.index in
    let d = typ c.dtype-dtype.result.now in
    let own = value_cells (merged_row c.args.core.now c.args.shredded.now i) in
    let e = merged_is c.args.core.now c.args.shredded.now i d (plain_value c.in_ok-over.over) (plain_value c.in-Ok.under) c.dtype-dtype.ensures.dtype c.in_ok-over.ensures.row c.in-Ok.ensures.row in
    own_refused c.spent_over-row.result c.args.budget.now own (max (cells c.args.core.now i) (cells c.args.shredded.now i))
    (same_refused c.spent_over-row.result (value_cells (row_over d (plain_value c.in_ok-over.over) (plain_value c.in-Ok.under))) own c.args.budget.now (ap (λ (v : Value). value_cells v) e) c.spent_over-row.ensures.err)
