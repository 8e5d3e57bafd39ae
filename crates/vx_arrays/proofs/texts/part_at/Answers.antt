-- A part begins where it ends, or before, and ends within the bytes.
use Rattle.std.proofs.Common.{length}
use Rattle.vx_array_tree.specs.Tree.{rows_of}
use Rattle.vx_arrays.proofs.Rising.{part_in_order, part_within}
use Rattle.vx_arrays.proofs.texts.part_at.Goals as goal

pub slice_bounds-result-count : goal.slice_bounds-result-count
slice_bounds-result-count c =
    part_in_order (rows_of c.args.offsets.now) c.args.parts (length c.args.bytes.now) c.args.index c.in-Some.start c.in-Some-index_at.end c.requires.offsets c.requires.inside c.in-Some.ensures.value
    c.in-Some-index_at.ensures.value

pub slice_bounds-result-start : goal.slice_bounds-result-start
slice_bounds-result-start c =
    part_in_order (rows_of c.args.offsets.now) c.args.parts (length c.args.bytes.now) c.args.index c.in-Some.start c.in-Some-index_at.end c.requires.offsets c.requires.inside c.in-Some.ensures.value
    c.in-Some-index_at.ensures.value

pub slice_bounds-result-end : goal.slice_bounds-result-end
slice_bounds-result-end c =
    part_within (rows_of c.args.offsets.now) c.args.parts (length c.args.bytes.now) c.args.index c.in-Some-index_at.end c.requires.offsets c.requires.inside c.in-Some-index_at.ensures.value
