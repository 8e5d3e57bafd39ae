-- A foreign node takes any buffers, and is refused for allocation failure alone.
use Rattle.vx_trees.specs.Rose.{node, roses_of}
use Rattle.vx_types.specs.Seen.{typ}
use Rattle.vx_array_tree.specs.Body as B
use Rattle.vx_array_tree.specs.Tree.{untold}
use Rattle.vx_arrays.proofs.Controlled.{foreign_sound}
use Rattle.vx_arrays.proofs.Bodies.Foreigns.{foreigns_made}
use Rattle.vx_arrays.proofs.Rebuffered.{answer_ok, memory_alone, memory_refused}
use Rattle.vx_arrays.proofs.encodings.foreign.ForeignData.with_buffers.Goals as goal

pub once_more-requires-clause-sound : goal.once_more-requires-clause-sound
once_more-requires-clause-sound c = foreign_sound (typ c.args.dtype.now) c.args.len c.in_ok-foreign.foreign (roses_of c.args.children.now)

pub returns-clause-ok : goal.returns-clause-ok
returns-clause-ok c =
    answer_ok (node (untold (typ c.args.dtype.now) c.args.len (B.foreign c.args.self.now)) (roses_of c.args.children.now))
    (node (untold (typ c.args.dtype.now) c.args.len (B.foreign c.in_ok-foreign.foreign)) (roses_of c.args.children.now)) c.args.buffers
    (foreigns_made (typ c.args.dtype.now) c.args.len c.args.self.now c.in_ok-foreign.foreign (roses_of c.args.children.now) c.args.buffers c.in_ok-foreign.ensures.ok) c.once_more.result c.once_more.ensures.ok

pub returns-clause-err : goal.returns-clause-err
returns-clause-err c = memory_refused c.once_more.result (node (untold (typ c.args.dtype.now) c.args.len (B.foreign c.args.self.now)) (roses_of c.args.children.now)) c.args.buffers c.once_more.ensures.err

pub returns-clause-complete : goal.returns-clause-complete
returns-clause-complete c = λ u e s. memory_alone c.once_more.result c.once_more.ensures.err
