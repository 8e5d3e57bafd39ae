use Rattle.std.proofs.Common.{◌≡◌, ◌+◌, ◌*◌, take}
use Rattle.vx_trees.specs.Rose.{roses_of}
use Rattle.vx_trees.specs.Walks.{nodes, nodes_of}
use Rattle.vx_array_tree.specs.Rows.{values_from, cells_from, values_at, cells_at}
use Rattle.vx_array_tree.specs.Tree.{rows_of, rows_below}
use Rattle.vx_arrays.specs.Parts.{parts_nodes}
use Rattle.vx_arrays.proofs.+rows.Given as goal

-- A row is built of its parts, and those of the rows of arrays below.
abbrev pub decreases-array::Array::row_within : goal.decreases-array::Array::row_within
decreases-array::Array::row_within l = 3 * nodes l.self.now

abbrev pub decreases-parts::built : goal.decreases-parts::built
decreases-parts::built l = 3 * parts_nodes l.parts + 2

abbrev pub decreases-parts::merged_value : goal.decreases-parts::merged_value
decreases-parts::merged_value l = 3 * (nodes l.core.now + nodes l.shredded.now) + 1

abbrev pub decreases-parts::run_values : goal.decreases-parts::run_values
decreases-parts::run_values l = 3 * nodes l.array.now + 1

abbrev pub decreases-parts::across_values : goal.decreases-parts::across_values
decreases-parts::across_values l = 3 * nodes_of (roses_of l.arrays.now) + 1

-- the values so far are those of the first rows, and their cells are spent
abbrev pub invariant-parts::run_values-loop-i : goal.invariant-parts::run_values-loop-i
invariant-parts::run_values-loop-i l = record {
  built : roses_of l.values ≡ values_from (rows_of l.array) l.start l.i;
  spent : l.fn.budget ≡ cells_from (rows_of l.array) l.start l.i + l.budget;
}

-- the values so far are those of the first arrays' rows, and their cells are spent
abbrev pub invariant-parts::across_values-loop-i : goal.invariant-parts::across_values-loop-i
invariant-parts::across_values-loop-i l = record {
  built : roses_of l.values ≡ values_at (rows_below (roses_of (take l.i l.arrays))) l.index;
  spent : l.fn.budget ≡ cells_at (rows_below (roses_of (take l.i l.arrays))) l.index + l.budget;
}
