use Rattle.vx_trees.specs.Rose.{roses_of}
use Rattle.vx_array_tree.specs.Rows.{validity}
use Rattle.vx_array_tree.specs.Tree.{rows_below, rows_of}
use Rattle.vx_arrays.proofs.ListViewed.{AreUpTo}
use Rattle.vx_arrays.proofs.encodings.list_view.are_views.Given as goal

-- the rows so far that are there have their elements
abbrev pub invariant-loop-i : goal.invariant-loop-i
invariant-loop-i l = AreUpTo l.elements (rows_of l.offsets) (rows_of l.sizes) (validity (rows_below (roses_of l.after))) l.i
