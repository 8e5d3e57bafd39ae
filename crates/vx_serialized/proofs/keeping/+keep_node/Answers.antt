use Rattle.std.proofs.Common.{◌≤◌, length, arith, ap, sym, refl, ◌∙◌}
use Rattle.std.specs.Prelude.{slice_get}
use Rattle.std.proofs.lemmas.Option.{slice_get_within, get_or_from_slice_get}
use Rattle.std.proofs.lemmas.Result.{err_from_is_err_and}
use Rattle.vx_trees.specs.Rose.{below, roses_list}
use Rattle.vx_trees.proofs.Lists.{roses_of-roses_list}
use Rattle.vx_types.specs.Seen.{typ}
use Rattle.vx_wire_tree.proofs.Laws.{kept-snoc, all_kept}
use Rattle.vx_serialized.specs.Serialized.{wire_in}
use Rattle.vx_serialized.proofs.DecodedNodes.{wire-id, wire-named, wire-child, wire-length, child-smaller}
use Rattle.vx_serialized.proofs.KeptNodes.{kept_above, unkept_by_id, unkept_by_buffers, unkept_by_memory, kept_of}
use Rattle.vx_serialized.proofs.keeping.+keep_node.Goals as goal

pub loop-i-init : goal.loop-i-init
loop-i-init t c = rw c.new-children.ensures (record { raw = refl; places = tt; sound = tt; normal = tt })

pub keep_node-requires : goal.keep_node-requires
keep_node-requires t c = omega (arith, child-smaller c.args.node.now c.loop-i.i c.child-below.result c.child-below.ensures)

pub returns-in_default-clause-cause : goal.returns-in_default-clause-cause
returns-in_default-clause-cause t c =
    unkept_by_id (wire_in c.args.ids.now c.args.node.now)
    (wire-id c.args.ids.now c.args.node.now ∙ ap (λ k. slice_get c.args.ids.now k) (sym c.encoding_id.ensures) ∙ sym c.in_default.ensures)

pub returns-in_err-child-clause-cause : goal.returns-in_err-child-clause-cause
returns-in_err-child-clause-cause t c =
    let p = err_from_is_err_and c.from_residual.result c.from_residual.ensures.1 in
    let child = wire_in c.args.ids.now c.child-below.result in
    rw (p.1, p.2)
    (kept_above c.in_err-child.field-0.0 (wire_in c.args.ids.now c.args.node.now) c.loop-i.i child
    (wire-child c.args.ids.now c.args.node.now c.loop-i.i c.child-below.result c.child-below.ensures) c.in_err-child.ensures.cause)

pub loop-i-preserved : goal.loop-i-preserved
loop-i-preserved t c =
    let nodes = roses_list (below (wire_in c.args.ids.now c.args.node.now)) in
    let child = wire_in c.args.ids.now c.child-below.result in
    let at = wire-child c.args.ids.now c.args.node.now c.loop-i.i c.child-below.result c.child-below.ensures in
    kept-snoc nodes (typ c.args.dtype.now) c.args.len c.loop-i.i child c.loop-i.children c.push.new.self c.in_ok-child.child (slice_get_within nodes c.loop-i.i child at) c.loop-i.invariant
    (sym (get_or_from_slice_get nodes c.loop-i.i child child at)) c.in_ok-child.ensures.kept c.in-Ok.ensures.ok

pub returns-in_err-buffers-clause-cause : goal.returns-in_err-buffers-clause-cause
returns-in_err-buffers-clause-cause t c =
    let p = err_from_is_err_and c.from_residual-in_err-buffers.result c.from_residual-in_err-buffers.ensures.1 in
    rw (p.1, p.2) (unkept_by_buffers c.in_err-buffers.field-0.0 (wire_in c.args.ids.now c.args.node.now) (c.in_err-buffers.ensures.cause c.args.ids.now))

pub returns-in_err-head-clause-cause : goal.returns-in_err-head-clause-cause
returns-in_err-head-clause-cause t c =
    let p = err_from_is_err_and c.from_residual-in_err-head.result c.from_residual-in_err-head.ensures.1 in
    rw (p.1, p.2) (unkept_by_memory c.in_err-head.field-0.0 (wire_in c.args.ids.now c.args.node.now) c.in_err-head.ensures.err)

pub returns-in-Ok-new_foreign_array-clause-kept : goal.returns-in-Ok-new_foreign_array-clause-kept
returns-in-Ok-new_foreign_array-clause-kept t c =
    let w = wire_in c.args.ids.now c.args.node.now in
    let nodes = roses_list (below w) in
    let past : length nodes ≤ c.loop-i.i = omega (arith, wire-length c.args.ids.now c.args.node.now, c.nchildren-i-end.ensures, c.loop-i-test.false) in
    kept_of c.in-Some.id.now w (typ c.args.dtype.now) c.args.len c.in_ok-head.head c.in_ok-buffers.buffers nodes c.loop-i.children c.in-Ok-new_foreign_array.array
    (wire-named c.args.ids.now c.args.node.now _ _ c.encoding_id.ensures c.in-Some.ensures) c.in_ok-head.ensures.id (c.in_ok-head.ensures.head c.args.ids.now)
    (c.in_ok-buffers.ensures.ok c.args.ids.now) (roses_of-roses_list (below w)) (all_kept nodes (typ c.args.dtype.now) c.args.len c.loop-i.i c.loop-i.children past c.loop-i.invariant)
    c.in-Ok-new_foreign_array.ensures.ok c.in-Ok-new_foreign_array.ensures.sound
