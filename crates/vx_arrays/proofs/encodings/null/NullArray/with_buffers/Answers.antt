-- Nulls without buffers are the nulls that they were.
use Rattle.vx_trees.specs.Rose.{node, roses_of}
use Rattle.vx_types.specs.Seen.{typ}
use Rattle.vx_array_tree.specs.Body as B
use Rattle.vx_array_tree.specs.Tree.{untold}
use Rattle.vx_arrays.specs.Nulls.{null_tree}
use Rattle.vx_arrays.proofs.Bodies.Nulls.{nulls_made}
use Rattle.vx_arrays.proofs.Rebuffered.{answer_ok}
use Rattle.vx_arrays.proofs.encodings.null.NullArray.with_buffers.Goals as goal

pub returns-clause-ok : goal.returns-clause-ok
returns-clause-ok c =
    let h = c.if-not-is_empty.false in
    let k = c.is_empty.ensures in
    answer_ok (node (untold (typ c.args.dtype.now) c.args.len B.null) (roses_of c.args.children.now)) (null_tree c.args.len) c.args.buffers
    (nulls_made (typ c.args.dtype.now) c.args.len (roses_of c.args.children.now) c.args.buffers c.requires (k.0 h)) c.new.result c.new.ensures.ok
