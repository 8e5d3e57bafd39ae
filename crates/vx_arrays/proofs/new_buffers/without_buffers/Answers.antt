-- A node without buffers is what it was where none are given, and nothing else is made of it.
use Rattle.std.proofs.lemmas.Bool.{iff_false}
use Rattle.vx_trees.specs.Rose.{node, roses_of}
use Rattle.vx_types.specs.Seen.{typ}
use Rattle.vx_array_tree.specs.Tree.{Tree, untold}
use Rattle.vx_arrays.specs.Plain.{plain_body}
use Rattle.vx_arrays.proofs.Rebuffered.{answer_ok, bare_made, bare_refused, bare_unmade, memory_alone, memory_refused}
use Rattle.vx_arrays.proofs.new_buffers.without_buffers.Goals as goal

pub returns-then-not-is_empty-clause-err : goal.returns-then-not-is_empty-clause-err
returns-then-not-is_empty-clause-err c =
    bare_refused (untold (typ c.args.dtype.now) c.args.len (plain_body c.args.body)) (roses_of c.args.children.now) c.args.buffers (c.requires.bufferless c.args.buffers)
    (iff_false c.is_empty.ensures c.if-not-is_empty.true)

pub returns-then-not-is_empty-clause-complete : goal.returns-then-not-is_empty-clause-complete
returns-then-not-is_empty-clause-complete c = λ u e s.
    absurd (bare_unmade (untold (typ c.args.dtype.now) c.args.len (plain_body c.args.body)) (roses_of c.args.children.now) c.args.buffers (c.requires.bufferless c.args.buffers)
    (iff_false c.is_empty.ensures c.if-not-is_empty.true) u e)

pub returns-clause-ok : goal.returns-clause-ok
returns-clause-ok c =
    let t : Tree = node (untold (typ c.args.dtype.now) c.args.len (plain_body c.args.body)) (roses_of c.args.children.now) in
    answer_ok t t c.args.buffers
    (bare_made (untold (typ c.args.dtype.now) c.args.len (plain_body c.args.body)) (roses_of c.args.children.now) c.args.buffers (c.requires.bufferless c.args.buffers) (c.is_empty.ensures.0 c.if-not-is_empty.false))
    c.once_more.result c.once_more.ensures.ok

pub returns-clause-err : goal.returns-clause-err
returns-clause-err c = memory_refused c.once_more.result (node (untold (typ c.args.dtype.now) c.args.len (plain_body c.args.body)) (roses_of c.args.children.now)) c.args.buffers c.once_more.ensures.err

pub returns-clause-complete : goal.returns-clause-complete
returns-clause-complete c = λ u e s. memory_alone c.once_more.result c.once_more.ensures.err
