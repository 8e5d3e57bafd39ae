-- A row is made of its elements, where it is valid.
use Rattle.vx_trees.specs.Rose.{roses_of}
use Rattle.vx_types.specs.Seen.{typ}
use Rattle.vx_arrays.specs.Parts.{parts_cells, parts_value}
use Rattle.vx_arrays.proofs.ListViewed.{view_cells, view_value}
use Rattle.vx_arrays.proofs.encodings.list_view.ListViewData.parts_at.Goals as goal

pub returns-clause-value : goal.returns-clause-value
returns-clause-value c =
    view_value (typ c.args.dtype.now) c.args.len c.args.self.now (roses_of c.args.children.now) (roses_of c.split_first.result.1.now) (roses_of c.split_first-2.result.1.now) c.split_first.result.0.now c.split_first-2.result.0.now c.split_first-3.result.0.now (roses_of c.split_first-3.result.1.now)
    c.split_first.ensures c.split_first-2.ensures c.split_first-3.ensures c.view_at-start.result.0 c.view_at-start.result.1 c.args.index c.valid_at-valid.result (parts_value c.where_there.result) c.view_at-start.ensures.start c.view_at-start.ensures.count c.valid_at-valid.ensures
    c.where_there.ensures.value

pub returns-clause-cells : goal.returns-clause-cells
returns-clause-cells c =
    view_cells (typ c.args.dtype.now) c.args.len c.args.self.now (roses_of c.args.children.now) (roses_of c.split_first.result.1.now) (roses_of c.split_first-2.result.1.now) c.split_first.result.0.now c.split_first-2.result.0.now c.split_first-3.result.0.now (roses_of c.split_first-3.result.1.now)
    c.split_first.ensures c.split_first-2.ensures c.split_first-3.ensures c.view_at-start.result.0 c.view_at-start.result.1 c.args.index c.valid_at-valid.result (parts_cells c.where_there.result) c.view_at-start.ensures.start c.view_at-start.ensures.count c.valid_at-valid.ensures
    c.where_there.ensures.cells
