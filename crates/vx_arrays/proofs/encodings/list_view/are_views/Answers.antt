-- One row more is right.
use Rattle.vx_trees.specs.Rose.{roses_of}
use Rattle.vx_array_tree.specs.Rows.{validity}
use Rattle.vx_array_tree.specs.Tree.{rows_below, rows_of}
use Rattle.vx_arrays.proofs.ListViewed.{up_to_more}
use Rattle.vx_arrays.proofs.encodings.list_view.are_views.Goals as goal

pub loop-i-preserved : goal.loop-i-preserved
loop-i-preserved c =
    up_to_more c.args.elements.now (rows_of c.args.offsets.now) (rows_of c.args.sizes.now) (validity (rows_below (roses_of c.args.after.now))) c.loop-i.i c.validity_at-valid.result c.validity_at-valid.ensures c.loop-i.invariant (c.is_right.ensures.0 c.if-not-is_right.false)
