-- The last of the buffers are the views, and the others those that views name.
use Rattle.std.proofs.Common.{◌≡◌, ◌∙◌, Some, sym, ap}
use Rattle.vx_trees.specs.Rose.{node, roses_of}
use Rattle.vx_types.specs.Seen.{typ}
use Rattle.vx_array_tree.specs.Body as B
use Rattle.vx_array_tree.specs.Tree.{Tree, untold}
use Rattle.vx_arrays.specs.NewBuffers.{with_buffers}
use Rattle.vx_arrays.specs.VarBinViews.{varbinview_tree}
use Rattle.vx_arrays.proofs.Bodies.VarBinViews.{views_made}
use Rattle.vx_arrays.proofs.Rebuffered.{answer_ok, answer_err, answer_complete}
use Rattle.vx_arrays.proofs.encodings.varbinview.VarBinViewData.with_buffers.Goals as goal

pub returns-clause-ok : goal.returns-clause-ok
returns-clause-ok c =
    let t : Tree = node (untold (typ c.args.dtype.now) c.args.len (B.varbinview c.args.self.now)) (roses_of c.args.children.now) in
    let u : Tree = varbinview_tree (typ c.in_ok-dtype.dtype) c.args.len c.pop.new.self.items c.in-Some.views c.in_ok-validity.validity in
    let made : with_buffers t c.args.buffers ≡ Some u =
    views_made (typ c.args.dtype.now) (typ c.in_ok-dtype.dtype) c.args.len c.args.self.now (roses_of c.args.children.now) c.args.buffers c.pop.new.self.items c.in-Some.views c.in_ok-validity.validity
    (ap typ c.in_ok-dtype.ensures.ok) c.in_ok-validity.ensures.ok (sym c.into_vec-front.ensures ∙ c.in-Some.ensures.items) in
    answer_ok t u c.args.buffers made c.try_new.result c.try_new.ensures.ok

pub returns-clause-err : goal.returns-clause-err
returns-clause-err c =
    let t : Tree = node (untold (typ c.args.dtype.now) c.args.len (B.varbinview c.args.self.now)) (roses_of c.args.children.now) in
    let u : Tree = varbinview_tree (typ c.in_ok-dtype.dtype) c.args.len c.pop.new.self.items c.in-Some.views c.in_ok-validity.validity in
    let made : with_buffers t c.args.buffers ≡ Some u =
    views_made (typ c.args.dtype.now) (typ c.in_ok-dtype.dtype) c.args.len c.args.self.now (roses_of c.args.children.now) c.args.buffers c.pop.new.self.items c.in-Some.views c.in_ok-validity.validity
    (ap typ c.in_ok-dtype.ensures.ok) c.in_ok-validity.ensures.ok (sym c.into_vec-front.ensures ∙ c.in-Some.ensures.items) in
    answer_err t u c.args.buffers made c.try_new.result c.try_new.ensures.err

pub returns-clause-complete : goal.returns-clause-complete
returns-clause-complete c =
    let t : Tree = node (untold (typ c.args.dtype.now) c.args.len (B.varbinview c.args.self.now)) (roses_of c.args.children.now) in
    let u : Tree = varbinview_tree (typ c.in_ok-dtype.dtype) c.args.len c.pop.new.self.items c.in-Some.views c.in_ok-validity.validity in
    let made : with_buffers t c.args.buffers ≡ Some u =
    views_made (typ c.args.dtype.now) (typ c.in_ok-dtype.dtype) c.args.len c.args.self.now (roses_of c.args.children.now) c.args.buffers c.pop.new.self.items c.in-Some.views c.in_ok-validity.validity
    (ap typ c.in_ok-dtype.ensures.ok) c.in_ok-validity.ensures.ok (sym c.into_vec-front.ensures ∙ c.in-Some.ensures.items) in
    answer_complete t u c.args.buffers made c.try_new.result c.try_new.ensures.complete
