-- By the steps of a loop that selects columns.
use Rattle.std.proofs.Common.{◌≤◌, length, take, arith}
use Rattle.std.specs.Prelude.{get_or}
use Rattle.std.proofs.lemmas.Result.{err_from_is_err_and}
use Rattle.vx_file.specs.Selecting.{taken_by}
use Rattle.vx_file.proofs.SelectingSteps.{nothing_selected, selected_step, selected_done, still_within, told_since, selecting_refused, memory_or_fault, asked_within}
use Rattle.vx_file.proofs.Taking.{same_taken, same_twice}
use Rattle.vx_file.proofs.column_file.ColumnFile.select_within.Goals as goal

pub loop-column-init : goal.loop-column-init
loop-column-init g c = nothing_selected _ c.args.self.now c.args.start c.new-arrays.result.items (g.R.Ranges.state c.args.ranges.now) c.new-arrays.ensures.items

pub load_column-requires : goal.load_column-requires
load_column-requires g c =
    still_within (taken_by c.args.self.now.ranges (take c.loop-column.column-index c.as_slice-column-items.result.now)) (g.R.Ranges.state c.args.ranges.now) (g.R.Ranges.state c.loop-column.ranges)
    c.args.start c.args.self.now.ranges c.loop-column.invariant.taken c.requires

pub loop-column-preserved : goal.loop-column-preserved
loop-column-preserved g c =
    selected_step _ c.args.self.now c.args.start c.as_slice-column-items.result.now c.loop-column.column-index 0 c.loop-column.arrays.items c.push.new.self.items
    (g.R.Ranges.state c.args.ranges.now) (g.R.Ranges.state c.loop-column.ranges) (g.R.Ranges.state c.load_column.new.ranges) c.in_ok-array.array c.loop-column-test.true
    c.loop-column.invariant c.in_ok-array.ensures.picked c.in_ok-array.ensures.taken c.in_ok-push.ensures.items

-- ---- a column is refused

pub returns-in_err-array-clause-cause : goal.returns-in_err-array-clause-cause
returns-in_err-array-clause-cause g c =
    let p = err_from_is_err_and c.from_residual.result c.from_residual.ensures.1 in
    rw (p.1, p.2) (selecting_refused _ c.args.self.now c.args.start c.as_slice-column-items.result.now c.args.selection.now c.loop-column.column-index 0
    (taken_by c.args.self.now.ranges (take c.loop-column.column-index c.as_slice-column-items.result.now)) (g.R.Ranges.state c.args.ranges.now)
    (g.R.Ranges.state c.loop-column.ranges) (g.R.Ranges.state c.load_column.new.ranges) c.in_err-array.field-0.0 c.loop-column-test.true
    c.as_slice-column-items.ensures c.loop-column.invariant.taken c.in_err-array.ensures.cause)

pub returns-in_err-array-clause-complete : goal.returns-in_err-array-clause-complete
returns-in_err-array-clause-complete g c = λ ok bytes own t tells stand shows spells each.
    let p = err_from_is_err_and c.from_residual.result c.from_residual.ensures.1 in
    let before = g.R.Ranges.state c.args.ranges.now in
    let so_far = g.R.Ranges.state c.loop-column.ranges in
    let n = taken_by c.args.self.now.ranges (take c.loop-column.column-index c.as_slice-column-items.result.now) in
    rw (p.1, p.2) (memory_or_fault n before so_far (g.R.Ranges.state c.load_column.new.ranges) c.in_err-array.field-0.0 c.loop-column.invariant.taken
    (c.in_err-array.ensures.complete ok bytes own t (told_since n before so_far bytes c.loop-column.invariant.taken tells) stand shows spells
    (asked_within c.as_slice-column-items.result.now c.args.selection.now c.loop-column.column-index 0 (length c.args.self.now.ranges) c.loop-column-test.true c.as_slice-column-items.ensures each)))

pub returns-in_err-array-clause-same : goal.returns-in_err-array-clause-same
returns-in_err-array-clause-same g c =
    let before = g.R.Ranges.state c.args.ranges.now in
    let so_far = g.R.Ranges.state c.loop-column.ranges in
    same_twice before so_far (g.R.Ranges.state c.load_column.new.ranges) (same_taken _ before so_far c.loop-column.invariant.taken) c.in_err-array.ensures.same

pub returns-in_err-push-clause-same : goal.returns-in_err-push-clause-same
returns-in_err-push-clause-same g c =
    let before = g.R.Ranges.state c.args.ranges.now in
    let so_far = g.R.Ranges.state c.loop-column.ranges in
    same_twice before so_far (g.R.Ranges.state c.load_column.new.ranges) (same_taken _ before so_far c.loop-column.invariant.taken) c.in_ok-array.ensures.same

-- ---- all are loaded

pub returns-clause-picked : goal.returns-clause-picked
returns-clause-picked g c =
    (selected_done _ c.args.self.now c.args.start c.as_slice-column-items.result.now c.args.selection.now c.loop-column.column-index c.loop-column.arrays.items
    (g.R.Ranges.state c.args.ranges.now) (g.R.Ranges.state c.loop-column.ranges) c.loop-column-test.false c.as_slice-column-items.ensures c.loop-column.invariant).picked

pub returns-clause-taken : goal.returns-clause-taken
returns-clause-taken g c =
    (selected_done _ c.args.self.now c.args.start c.as_slice-column-items.result.now c.args.selection.now c.loop-column.column-index c.loop-column.arrays.items
    (g.R.Ranges.state c.args.ranges.now) (g.R.Ranges.state c.loop-column.ranges) c.loop-column-test.false c.as_slice-column-items.ensures c.loop-column.invariant).taken

pub returns-clause-same : goal.returns-clause-same
returns-clause-same g c =
    same_taken _ (g.R.Ranges.state c.args.ranges.now) (g.R.Ranges.state c.loop-column.ranges) c.loop-column.invariant.taken
