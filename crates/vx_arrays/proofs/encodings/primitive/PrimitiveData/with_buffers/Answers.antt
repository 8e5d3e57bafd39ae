-- Numbers with other values are of the same type and validity.
use Rattle.std.proofs.Common.{◌≡◌, Some, ap}
use Rattle.vx_trees.specs.Rose.{node, roses_of}
use Rattle.vx_types.specs.Seen.{typ}
use Rattle.vx_array_tree.specs.Body as B
use Rattle.vx_array_tree.specs.Tree.{Tree, untold}
use Rattle.vx_arrays.specs.Primitives.{primitive_tree}
use Rattle.vx_arrays.specs.NewBuffers.{with_buffers}
use Rattle.vx_arrays.proofs.Bodies.Primitives.{primitives_made}
use Rattle.vx_arrays.proofs.Rebuffered.{answer_ok, answer_err, answer_complete}
use Rattle.vx_arrays.proofs.encodings.primitive.PrimitiveData.with_buffers.Goals as goal

pub returns-clause-ok : goal.returns-clause-ok
returns-clause-ok c =
    let t : Tree = node (untold (typ c.args.dtype.now) c.args.len (B.primitive c.args.self.now)) (roses_of c.args.children.now) in
    let u : Tree = primitive_tree c.in-Primitive.kind c.in-Primitive.nullability c.args.len c.in-Some.values c.in_ok-validity-in-Primitive.validity in
    let made : with_buffers t c.args.buffers ≡ Some u =
    primitives_made (typ c.args.dtype.now) c.args.len c.args.self.now (roses_of c.args.children.now) c.args.buffers c.in-Some.values c.in-Primitive.kind c.in-Primitive.nullability c.in_ok-validity-in-Primitive.validity (ap typ c.in-Primitive.is) c.in_ok-validity-in-Primitive.ensures.ok c.in-Some.ensures.one in
    answer_ok t u c.args.buffers made c.try_new.result c.try_new.ensures.ok

pub returns-clause-err : goal.returns-clause-err
returns-clause-err c =
    let t : Tree = node (untold (typ c.args.dtype.now) c.args.len (B.primitive c.args.self.now)) (roses_of c.args.children.now) in
    let u : Tree = primitive_tree c.in-Primitive.kind c.in-Primitive.nullability c.args.len c.in-Some.values c.in_ok-validity-in-Primitive.validity in
    let made : with_buffers t c.args.buffers ≡ Some u =
    primitives_made (typ c.args.dtype.now) c.args.len c.args.self.now (roses_of c.args.children.now) c.args.buffers c.in-Some.values c.in-Primitive.kind c.in-Primitive.nullability c.in_ok-validity-in-Primitive.validity (ap typ c.in-Primitive.is) c.in_ok-validity-in-Primitive.ensures.ok c.in-Some.ensures.one in
    answer_err t u c.args.buffers made c.try_new.result c.try_new.ensures.err

pub returns-clause-complete : goal.returns-clause-complete
returns-clause-complete c =
    let t : Tree = node (untold (typ c.args.dtype.now) c.args.len (B.primitive c.args.self.now)) (roses_of c.args.children.now) in
    let u : Tree = primitive_tree c.in-Primitive.kind c.in-Primitive.nullability c.args.len c.in-Some.values c.in_ok-validity-in-Primitive.validity in
    let made : with_buffers t c.args.buffers ≡ Some u =
    primitives_made (typ c.args.dtype.now) c.args.len c.args.self.now (roses_of c.args.children.now) c.args.buffers c.in-Some.values c.in-Primitive.kind c.in-Primitive.nullability c.in_ok-validity-in-Primitive.validity (ap typ c.in-Primitive.is) c.in_ok-validity-in-Primitive.ensures.ok c.in-Some.ensures.one in
    answer_complete t u c.args.buffers made c.try_new.result c.try_new.ensures.complete
