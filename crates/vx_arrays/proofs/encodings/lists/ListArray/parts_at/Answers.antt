-- A row's elements begin where they end, or before.
use Rattle.vx_trees.specs.Rose.{roses_of}
use Rattle.vx_types.specs.Seen.{typ}
use Rattle.vx_arrays.specs.Parts.{parts_cells, parts_value}
use Rattle.vx_arrays.proofs.Listed.{in_order, list_value, list_cells, sound_offsets}
use Rattle.vx_arrays.proofs.encodings.lists.ListArray.parts_at.Goals as goal

pub overflow_sub-count : goal.overflow_sub-count
overflow_sub-count c =
    in_order c.split_first-2.result.0.now c.args.len c.len-total.result c.offset_at-start.result c.offset_at.result c.args.index
    (sound_offsets (typ c.args.dtype.now) c.args.len (roses_of c.args.children.now) (roses_of c.split_first.result.1.now) c.split_first.result.0.now c.split_first-2.result.0.now (roses_of c.split_first-2.result.1.now) c.split_first.ensures c.split_first-2.ensures c.requires.sound c.len-total.result c.len-total.ensures.len)
    c.requires.inside c.offset_at-start.ensures.value c.offset_at.ensures.value

pub returns-clause-value : goal.returns-clause-value
returns-clause-value c =
    list_value (typ c.args.dtype.now) c.args.len (roses_of c.args.children.now) (roses_of c.split_first.result.1.now) c.split_first.result.0.now c.split_first-2.result.0.now (roses_of c.split_first-2.result.1.now) c.split_first.ensures c.split_first-2.ensures
    c.offset_at-start.result c.offset_at.result c.args.index c.valid_at-valid.result (parts_value c.where_there.result) c.offset_at-start.ensures.value c.offset_at.ensures.value c.valid_at-valid.ensures c.where_there.ensures.value

pub returns-clause-cells : goal.returns-clause-cells
returns-clause-cells c =
    list_cells (typ c.args.dtype.now) c.args.len (roses_of c.args.children.now) (roses_of c.split_first.result.1.now) c.split_first.result.0.now c.split_first-2.result.0.now (roses_of c.split_first-2.result.1.now) c.split_first.ensures c.split_first-2.ensures
    c.offset_at-start.result c.offset_at.result c.args.index c.valid_at-valid.result (parts_cells c.where_there.result) c.offset_at-start.ensures.value c.offset_at.ensures.value c.valid_at-valid.ensures c.where_there.ensures.cells
