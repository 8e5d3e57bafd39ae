-- A valid row is its columns' rows.
use Rattle.vx_trees.specs.Rose.{roses_of}
use Rattle.vx_types.specs.Seen.{typ}
use Rattle.vx_arrays.specs.Parts.{parts_cells, parts_value}
use Rattle.vx_arrays.proofs.Fielded.{structure_value, structure_cells}
use Rattle.vx_arrays.proofs.encodings.structs.StructArray.parts_at.Goals as goal

pub returns-clause-value : goal.returns-clause-value
returns-clause-value c =
    structure_value (typ c.args.dtype.now) c.args.len (roses_of c.args.children.now) (roses_of c.columns_of-arrays.result.now) c.columns_of-arrays.ensures c.args.index c.valid_at-valid.result
    (parts_value c.where_there.result) c.valid_at-valid.ensures c.where_there.ensures.value

pub returns-clause-cells : goal.returns-clause-cells
returns-clause-cells c =
    structure_cells (typ c.args.dtype.now) c.args.len (roses_of c.args.children.now) (roses_of c.columns_of-arrays.result.now) c.columns_of-arrays.ensures c.args.index c.valid_at-valid.result
    (parts_cells c.where_there.result) c.valid_at-valid.ensures c.where_there.ensures.cells
