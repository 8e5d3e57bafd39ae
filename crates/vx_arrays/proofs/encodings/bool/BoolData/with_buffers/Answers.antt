-- Flags with other bits are of the same type, offset and validity.
use Rattle.std.proofs.Common.{◌≡◌, Some, ap}
use Rattle.vx_trees.specs.Rose.{node, roses_of}
use Rattle.vx_types.specs.Seen.{typ}
use Rattle.vx_array_tree.specs.Body as B
use Rattle.vx_array_tree.specs.Encodings.Bools.{Data}
use Rattle.vx_array_tree.specs.Tree.{Tree, untold}
use Rattle.vx_arrays.specs.Bools.{bool_tree}
use Rattle.vx_arrays.specs.NewBuffers.{with_buffers}
use Rattle.vx_arrays.proofs.Bodies.Bools.{bools_made}
use Rattle.vx_arrays.proofs.Rebuffered.{answer_ok, answer_err, answer_complete}
use Rattle.vx_arrays.proofs.encodings.bool.BoolData.with_buffers.Goals as goal

pub returns-clause-ok : goal.returns-clause-ok
returns-clause-ok c =
    let t : Tree = node (untold (typ c.args.dtype.now) c.args.len (B.bool c.args.self.now)) (roses_of c.args.children.now) in
    let u : Tree = bool_tree c.in-Some.bits c.self.inside.offset c.args.len c.in-Bool.nullability c.in_ok-validity-in-Bool.validity in
    let made : with_buffers t c.args.buffers ≡ Some u =
    bools_made (typ c.args.dtype.now) c.args.len c.args.self.now (roses_of c.args.children.now) c.args.buffers c.in-Some.bits c.self.inside.offset c.in-Bool.nullability c.in_ok-validity-in-Bool.validity (ap typ c.in-Bool.is) (ap (λ (x : Data). x.offset) c.self.view_is) c.in_ok-validity-in-Bool.ensures.ok c.in-Some.ensures.one in
    answer_ok t u c.args.buffers made c.try_new.result c.try_new.ensures.ok

pub returns-clause-err : goal.returns-clause-err
returns-clause-err c =
    let t : Tree = node (untold (typ c.args.dtype.now) c.args.len (B.bool c.args.self.now)) (roses_of c.args.children.now) in
    let u : Tree = bool_tree c.in-Some.bits c.self.inside.offset c.args.len c.in-Bool.nullability c.in_ok-validity-in-Bool.validity in
    let made : with_buffers t c.args.buffers ≡ Some u =
    bools_made (typ c.args.dtype.now) c.args.len c.args.self.now (roses_of c.args.children.now) c.args.buffers c.in-Some.bits c.self.inside.offset c.in-Bool.nullability c.in_ok-validity-in-Bool.validity (ap typ c.in-Bool.is) (ap (λ (x : Data). x.offset) c.self.view_is) c.in_ok-validity-in-Bool.ensures.ok c.in-Some.ensures.one in
    answer_err t u c.args.buffers made c.try_new.result c.try_new.ensures.err

pub returns-clause-complete : goal.returns-clause-complete
returns-clause-complete c =
    let t : Tree = node (untold (typ c.args.dtype.now) c.args.len (B.bool c.args.self.now)) (roses_of c.args.children.now) in
    let u : Tree = bool_tree c.in-Some.bits c.self.inside.offset c.args.len c.in-Bool.nullability c.in_ok-validity-in-Bool.validity in
    let made : with_buffers t c.args.buffers ≡ Some u =
    bools_made (typ c.args.dtype.now) c.args.len c.args.self.now (roses_of c.args.children.now) c.args.buffers c.in-Some.bits c.self.inside.offset c.in-Bool.nullability c.in_ok-validity-in-Bool.validity (ap typ c.in-Bool.is) (ap (λ (x : Data). x.offset) c.self.view_is) c.in_ok-validity-in-Bool.ensures.ok c.in-Some.ensures.one in
    answer_complete t u c.args.buffers made c.try_new.result c.try_new.ensures.complete
