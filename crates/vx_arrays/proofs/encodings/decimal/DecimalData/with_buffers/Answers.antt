-- Decimals with other values are of the same type, width and validity.
use Rattle.std.proofs.Common.{◌≡◌, Some, ap}
use Rattle.vx_trees.specs.Rose.{node, roses_of}
use Rattle.vx_types.specs.Seen.{typ}
use Rattle.vx_array_tree.specs.Body as B
use Rattle.vx_array_tree.specs.Encodings.Decimals.{Data}
use Rattle.vx_array_tree.specs.Tree.{Tree, untold}
use Rattle.vx_arrays.specs.Decimals.{decimal_tree}
use Rattle.vx_arrays.specs.NewBuffers.{with_buffers}
use Rattle.vx_arrays.proofs.Bodies.Decimals.{decimals_made}
use Rattle.vx_arrays.proofs.Rebuffered.{answer_ok, answer_err, answer_complete}
use Rattle.vx_arrays.proofs.encodings.decimal.DecimalData.with_buffers.Goals as goal

pub returns-clause-ok : goal.returns-clause-ok
returns-clause-ok c =
    let t : Tree = node (untold (typ c.args.dtype.now) c.args.len (B.decimal c.args.self.now)) (roses_of c.args.children.now) in
    let u : Tree = decimal_tree c.in-Some.values c.self.inside.values_type c.in-Decimal.digits c.in-Decimal.nullability c.args.len c.in_ok-validity-in-Decimal.validity in
    let made : with_buffers t c.args.buffers ≡ Some u =
    decimals_made (typ c.args.dtype.now) c.args.len c.args.self.now (roses_of c.args.children.now) c.args.buffers c.in-Some.values c.self.inside.values_type c.in-Decimal.digits c.in-Decimal.nullability c.in_ok-validity-in-Decimal.validity (ap typ c.in-Decimal.is) (ap (λ (x : Data). x.values_type) c.self.view_is) c.in_ok-validity-in-Decimal.ensures.ok c.in-Some.ensures.one in
    answer_ok t u c.args.buffers made c.try_new.result c.try_new.ensures.ok

pub returns-clause-err : goal.returns-clause-err
returns-clause-err c =
    let t : Tree = node (untold (typ c.args.dtype.now) c.args.len (B.decimal c.args.self.now)) (roses_of c.args.children.now) in
    let u : Tree = decimal_tree c.in-Some.values c.self.inside.values_type c.in-Decimal.digits c.in-Decimal.nullability c.args.len c.in_ok-validity-in-Decimal.validity in
    let made : with_buffers t c.args.buffers ≡ Some u =
    decimals_made (typ c.args.dtype.now) c.args.len c.args.self.now (roses_of c.args.children.now) c.args.buffers c.in-Some.values c.self.inside.values_type c.in-Decimal.digits c.in-Decimal.nullability c.in_ok-validity-in-Decimal.validity (ap typ c.in-Decimal.is) (ap (λ (x : Data). x.values_type) c.self.view_is) c.in_ok-validity-in-Decimal.ensures.ok c.in-Some.ensures.one in
    answer_err t u c.args.buffers made c.try_new.result c.try_new.ensures.err

pub returns-clause-complete : goal.returns-clause-complete
returns-clause-complete c =
    let t : Tree = node (untold (typ c.args.dtype.now) c.args.len (B.decimal c.args.self.now)) (roses_of c.args.children.now) in
    let u : Tree = decimal_tree c.in-Some.values c.self.inside.values_type c.in-Decimal.digits c.in-Decimal.nullability c.args.len c.in_ok-validity-in-Decimal.validity in
    let made : with_buffers t c.args.buffers ≡ Some u =
    decimals_made (typ c.args.dtype.now) c.args.len c.args.self.now (roses_of c.args.children.now) c.args.buffers c.in-Some.values c.self.inside.values_type c.in-Decimal.digits c.in-Decimal.nullability c.in_ok-validity-in-Decimal.validity (ap typ c.in-Decimal.is) (ap (λ (x : Data). x.values_type) c.self.view_is) c.in_ok-validity-in-Decimal.ensures.ok c.in-Some.ensures.one in
    answer_complete t u c.args.buffers made c.try_new.result c.try_new.ensures.complete
