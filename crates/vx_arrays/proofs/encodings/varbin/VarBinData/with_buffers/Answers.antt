-- The children are the offsets, and a validity if any.
use Rattle.std.proofs.Common.{◌≡◌, Some, ap}
use Rattle.vx_trees.specs.Rose.{node, roses_of}
use Rattle.vx_types.specs.Seen.{typ}
use Rattle.vx_array_tree.specs.Body as B
use Rattle.vx_array_tree.specs.Tree.{Tree, untold}
use Rattle.vx_arrays.specs.NewBuffers.{with_buffers}
use Rattle.vx_arrays.specs.VarBins.{varbin_tree}
use Rattle.vx_arrays.proofs.Bodies.VarBins.{parts_made}
use Rattle.vx_arrays.proofs.Rebuffered.{answer_ok, answer_err, answer_complete}
use Rattle.vx_arrays.proofs.encodings.varbin.VarBinData.with_buffers.Goals as goal

pub returns-clause-ok : goal.returns-clause-ok
returns-clause-ok c =
    let t : Tree = node (untold (typ c.args.dtype.now) c.args.len (B.varbin c.args.self.now)) (roses_of c.args.children.now) in
    let u : Tree = varbin_tree (typ c.in_ok-dtype-in-len1-up.dtype) c.in_ok-offsets-in-len1-up.offsets c.in-Some.bytes c.in_ok-validity-in-len1-up.validity in
    let made : with_buffers t c.args.buffers ≡ Some u =
    parts_made (typ c.args.dtype.now) (typ c.in_ok-dtype-in-len1-up.dtype) c.args.len c.args.self.now c.args.children.now c.offsets-item.result c.in_ok-offsets-in-len1-up.offsets c.args.buffers c.in-Some.bytes
    c.in_ok-validity-in-len1-up.validity c.requires c.in-len1-up.len_at_least c.offsets-item.is c.in_ok-offsets-in-len1-up.ensures.ok (ap typ c.in_ok-dtype-in-len1-up.ensures.ok) c.in_ok-validity-in-len1-up.ensures.ok
    c.in-Some.ensures.one in
    answer_ok t u c.args.buffers made c.try_new.result c.try_new.ensures.ok

pub returns-clause-err : goal.returns-clause-err
returns-clause-err c =
    let t : Tree = node (untold (typ c.args.dtype.now) c.args.len (B.varbin c.args.self.now)) (roses_of c.args.children.now) in
    let u : Tree = varbin_tree (typ c.in_ok-dtype-in-len1-up.dtype) c.in_ok-offsets-in-len1-up.offsets c.in-Some.bytes c.in_ok-validity-in-len1-up.validity in
    let made : with_buffers t c.args.buffers ≡ Some u =
    parts_made (typ c.args.dtype.now) (typ c.in_ok-dtype-in-len1-up.dtype) c.args.len c.args.self.now c.args.children.now c.offsets-item.result c.in_ok-offsets-in-len1-up.offsets c.args.buffers c.in-Some.bytes
    c.in_ok-validity-in-len1-up.validity c.requires c.in-len1-up.len_at_least c.offsets-item.is c.in_ok-offsets-in-len1-up.ensures.ok (ap typ c.in_ok-dtype-in-len1-up.ensures.ok) c.in_ok-validity-in-len1-up.ensures.ok
    c.in-Some.ensures.one in
    answer_err t u c.args.buffers made c.try_new.result c.try_new.ensures.err

pub returns-clause-complete : goal.returns-clause-complete
returns-clause-complete c =
    let t : Tree = node (untold (typ c.args.dtype.now) c.args.len (B.varbin c.args.self.now)) (roses_of c.args.children.now) in
    let u : Tree = varbin_tree (typ c.in_ok-dtype-in-len1-up.dtype) c.in_ok-offsets-in-len1-up.offsets c.in-Some.bytes c.in_ok-validity-in-len1-up.validity in
    let made : with_buffers t c.args.buffers ≡ Some u =
    parts_made (typ c.args.dtype.now) (typ c.in_ok-dtype-in-len1-up.dtype) c.args.len c.args.self.now c.args.children.now c.offsets-item.result c.in_ok-offsets-in-len1-up.offsets c.args.buffers c.in-Some.bytes
    c.in_ok-validity-in-len1-up.validity c.requires c.in-len1-up.len_at_least c.offsets-item.is c.in_ok-offsets-in-len1-up.ensures.ok (ap typ c.in_ok-dtype-in-len1-up.ensures.ok) c.in_ok-validity-in-len1-up.ensures.ok
    c.in-Some.ensures.one in
    answer_complete t u c.args.buffers made c.try_new.result c.try_new.ensures.complete
