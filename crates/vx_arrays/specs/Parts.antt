-- Of what a row is made, before it is built.
use Rattle.std.specs.Prelude.{ℕ, suc, ◌+◌, ◌^◌, ◌<◌, ◌≤◌}
use Rattle.vx_trees.specs.Rose.{node, end, more, label, roses_of}
use Rattle.vx_trees.specs.Walks.{nodes, nodes_of}
use Rattle.vx_types.specs.Fits.{IsVariant}
use Rattle.vx_types.specs.Value.{Value, lone, tuple, union, value_cells}
use Rattle.vx_array_tree.specs.Rows.{values_from, cells_from, values_at, cells_at}
use Rattle.vx_array_tree.specs.Tree.{Trees, cells, row_at, rows_of, rows_below}
use Rattle.vx_rows.specs.Lone.{lone_mark}
use Rattle.vx_arrays.specs.Variants.{merged_cells, merged_row}
use Rattle.vx_arrays.specs.declared.parts.RowParts.{RowParts}
use Rattle.vx_arrays.specs.declared.parts.RowParts.TheVariants.{Lone, At, Run, Across, Tagged, Merged}

-- The value of a row of these parts.
abbrev pub parts_value : RowParts → Value
parts_value (Lone row) = lone (lone_mark row)
parts_value (At array index) = row_at array.now index
parts_value (Run array start count) = node tuple (values_from (rows_of array.now) start count)
parts_value (Across arrays index) = node tuple (values_at (rows_below (roses_of arrays.now)) index)
parts_value (Tagged tag array index) = node (union tag) (more (row_at array.now index) end)
parts_value (Merged core shredded index) = merged_row core.now shredded.now index

-- How many cells it takes.
abbrev pub parts_cells : RowParts → ℕ
parts_cells (Lone row) = value_cells (lone (lone_mark row))
parts_cells (At array index) = cells array.now index
parts_cells (Run array start count) = suc (cells_from (rows_of array.now) start count)
parts_cells (Across arrays index) = suc (cells_at (rows_below (roses_of arrays.now)) index)
parts_cells (Tagged tag array index) = suc (cells array.now index)
parts_cells (Merged core shredded index) = merged_cells core.now shredded.now index

-- Each of these arrays has a row at this index.
abbrev pub HaveRow : ℕ → Trees → Type 0
HaveRow i end = Unit {0}
HaveRow i (more t ts) = (i < (label t).len) × HaveRow i ts

-- The rows of which a row is made are there, and can be counted; a core is of variants.
abbrev pub AreThere : RowParts → Type 0
AreThere (Lone row) = Unit {0}
AreThere (At array index) = index < (label array.now).len
AreThere (Run array start count) = (start + count ≤ (label array.now).len) × (start + count < 2 ^ 64)
AreThere (Across arrays index) = HaveRow index (roses_of arrays.now)
AreThere (Tagged tag array index) = index < (label array.now).len
AreThere (Merged core shredded index) = (index < (label core.now).len) × (index < (label shredded.now).len) × IsVariant (label core.now).dtype

-- How many nodes the arrays have of whose rows a row is made.
abbrev pub parts_nodes : RowParts → ℕ
parts_nodes (Lone row) = 0
parts_nodes (At array index) = nodes array.now
parts_nodes (Run array start count) = nodes array.now
parts_nodes (Across arrays index) = nodes_of (roses_of arrays.now)
parts_nodes (Tagged tag array index) = nodes array.now
parts_nodes (Merged core shredded index) = nodes core.now + nodes shredded.now
