use Rattle.std.proofs.Common.{◌≤◌, List, length, arith, sym, refl, subst}
use Rattle.std.proofs.lemmas.Option.{slice_get_within, get_or_from_slice_get}
use Rattle.std.proofs.lemmas.Result.{err_from_is_err_and, IfOk-weaker, IfErr-weaker}
use Rattle.vx_trees.specs.Rose.{below, roses_list}
use Rattle.vx_trees.proofs.Lists.{roses_of-roses_list}
use Rattle.vx_types.specs.Seen.{typ}
use Rattle.vx_type_wire.specs.Session.{ext_meaning}
use Rattle.vx_array_tree.specs.Place.{Place}
use Rattle.vx_registry.specs.Meaning.{reader_in, session_meaning}
use Rattle.vx_registry.proofs.LawsSessions.{session_lawful}
use Rattle.vx_serialized.specs.Decoding.{PlansBy}
use Rattle.vx_serialized.specs.Serialized.{wire_in}
use Rattle.vx_serialized.specs.contracts.decoding.decode_node.{dyn-1-ghosts, dyn-2-ghosts}
use Rattle.vx_serialized.proofs.DecodedNodes.{wire-named, wire-child, wire-length, child-smaller, shown_at, refused_at}
use Rattle.vx_serialized.proofs.NodeTold.{told-snoc, all_told, enough, get_past, planned, caused_by_child, caused_by_buffers, caused_by_build, caused_by_stats, built_dtype, told_node}
use Rattle.vx_serialized.proofs.LawsOfAnswers.{ok_of}
use Rattle.vx_serialized.proofs.decoding.+decode_node.Goals as goal

pub returns-in_err-planned-clause-cause : goal.returns-in_err-planned-clause-cause
returns-in_err-planned-clause-cause g t c =
    let p = err_from_is_err_and c.from_residual.result c.from_residual.ensures.1 in
    let s = session_meaning (λ b. ((dyn-2-ghosts g.dyn-2 g.dyn-1).0.entry b.vtable).1.means b.value) (λ b. ((dyn-1-ghosts g.dyn-2 g.dyn-1).0.entry b.vtable).1.accepted b.value) c.args.session.now in
    let named = wire-named c.args.ids.now c.args.node.now _ _ c.encoding_id.ensures c.in-Some.ensures in
    rw (p.1, p.2) (c.in_err-planned.ensures.cause c.args.ids.now named (c.in-Some-reader.ensures.found s.ext))

pub unread_node-requires-clause-unread : goal.unread_node-requires-clause-unread
unread_node-requires-clause-unread g t c = c.in_default-reader.ensures.found (ext_meaning (λ b. ((dyn-1-ghosts g.dyn-2 g.dyn-1).0.entry b.vtable).1.accepted b.value) c.args.session.now.ext)

pub returns-in_default-reader-clause-paired : goal.returns-in_default-reader-clause-paired
returns-in_default-reader-clause-paired g t c = ok_of c.unread_node.result _ (c.in_default-reader.ensures.paired (ext_meaning (λ b. ((dyn-1-ghosts g.dyn-2 g.dyn-1).0.entry b.vtable).1.accepted b.value) c.args.session.now.ext))

pub loop-i-init : goal.loop-i-init
loop-i-init g t c = rw c.new-children.ensures (record { matched = refl; sound = tt; placed = refl })

pub unreachable-requires : goal.unreachable-requires
unreachable-requires g t c =
    let s = session_meaning (λ b. ((dyn-2-ghosts g.dyn-2 g.dyn-1).0.entry b.vtable).1.means b.value) (λ b. ((dyn-1-ghosts g.dyn-2 g.dyn-1).0.entry b.vtable).1.accepted b.value) c.args.session.now in
    let w = wire_in c.args.ids.now c.args.node.now in
    let r = reader_in (λ b. ((dyn-2-ghosts g.dyn-2 g.dyn-1).0.entry b.vtable).1.means b.value) c.args.session.now.arrays c.in-Some-reader.entry in
    let node = c.in_ok-planned.planned in
    let named = wire-named c.args.ids.now c.args.node.now _ _ c.encoding_id.ensures c.in-Some.ensures in
    let read = c.in_ok-planned.ensures.read c.args.ids.now named (c.in-Some-reader.ensures.found s.ext) in
    let nodes = roses_list (below w) in
    let kids = roses_of-roses_list (below w) in
    let same = enough (λ b. ((dyn-2-ghosts g.dyn-2 g.dyn-1).0.entry b.vtable).1.means b.value) c.args.session.now.arrays c.in-Some-reader.entry s.ext node.head node.children nodes w (typ c.args.dtype.now) c.args.len c.in_ok-planned.ensures.planned read.head kids in
    get_past node.children c.loop-i.i (omega (arith, same, wire-length c.args.ids.now c.args.node.now, c.nchildren-i-end.ensures, c.loop-i-test.true)) (sym c.in_default-get.ensures)

pub decode_node-requires : goal.decode_node-requires
decode_node-requires g t c = (omega (arith, child-smaller c.args.node.now c.loop-i.i c.child-below.result c.child-below.ensures, c.decreases), c.requires.borrowed)

pub returns-in_err-child-clause-cause : goal.returns-in_err-child-clause-cause
returns-in_err-child-clause-cause g t c =
    let p = err_from_is_err_and c.from_residual-in_err-child.result c.from_residual-in_err-child.ensures.1 in
    let s = session_meaning (λ b. ((dyn-2-ghosts g.dyn-2 g.dyn-1).0.entry b.vtable).1.means b.value) (λ b. ((dyn-1-ghosts g.dyn-2 g.dyn-1).0.entry b.vtable).1.accepted b.value) c.args.session.now in
    let w = wire_in c.args.ids.now c.args.node.now in
    let r = reader_in (λ b. ((dyn-2-ghosts g.dyn-2 g.dyn-1).0.entry b.vtable).1.means b.value) c.args.session.now.arrays c.in-Some-reader.entry in
    let node = c.in_ok-planned.planned in
    let named = wire-named c.args.ids.now c.args.node.now _ _ c.encoding_id.ensures c.in-Some.ensures in
    let read = c.in_ok-planned.ensures.read c.args.ids.now named (c.in-Some-reader.ensures.found s.ext) in
    let child = wire_in c.args.ids.now c.child-below.result in
    let plan = planned s w (typ c.args.dtype.now) c.args.len r node.head node.children read c.in_ok-planned.ensures.planned in
    rw (p.1, p.2)
    (caused_by_child s c.in_err-child.field-0.0 w (typ c.args.dtype.now) c.args.len (roses_list (below w)) node.children c.loop-i.i child _ plan (roses_of-roses_list (below w))
    (wire-child c.args.ids.now c.args.node.now c.loop-i.i c.child-below.result c.child-below.ensures) (sym c.in-Some-get.ensures) c.in_err-child.ensures.cause)

pub loop-i-preserved : goal.loop-i-preserved
loop-i-preserved g t c =
    let s = session_meaning (λ b. ((dyn-2-ghosts g.dyn-2 g.dyn-1).0.entry b.vtable).1.means b.value) (λ b. ((dyn-1-ghosts g.dyn-2 g.dyn-1).0.entry b.vtable).1.accepted b.value) c.args.session.now in
    let nodes = roses_list (below (wire_in c.args.ids.now c.args.node.now)) in
    let child = wire_in c.args.ids.now c.child-below.result in
    let at = wire-child c.args.ids.now c.args.node.now c.loop-i.i c.child-below.result c.child-below.ensures in
    told-snoc s nodes c.in_ok-planned.planned.children c.loop-i.i child _ c.loop-i.children c.push.new.self c.in_ok-child.child (slice_get_within nodes c.loop-i.i child at) c.loop-i.invariant
    (sym (get_or_from_slice_get nodes c.loop-i.i child child at)) (sym c.in-Some-get.ensures) c.in_ok-child.ensures.told c.in-Ok.ensures.ok

pub returns-in_err-buffers-clause-cause : goal.returns-in_err-buffers-clause-cause
returns-in_err-buffers-clause-cause g t c =
    let p = err_from_is_err_and c.from_residual-in_err-buffers.result c.from_residual-in_err-buffers.ensures.1 in
    let s = session_meaning (λ b. ((dyn-2-ghosts g.dyn-2 g.dyn-1).0.entry b.vtable).1.means b.value) (λ b. ((dyn-1-ghosts g.dyn-2 g.dyn-1).0.entry b.vtable).1.accepted b.value) c.args.session.now in
    rw (p.1, p.2) (caused_by_buffers s c.in_err-buffers.field-0.0 (wire_in c.args.ids.now c.args.node.now) (typ c.args.dtype.now) c.args.len (c.in_err-buffers.ensures.cause c.args.ids.now))

pub build_entry-requires-clause-planned : goal.build_entry-requires-clause-planned
build_entry-requires-clause-planned g t c =
    let s = session_meaning (λ b. ((dyn-2-ghosts g.dyn-2 g.dyn-1).0.entry b.vtable).1.means b.value) (λ b. ((dyn-1-ghosts g.dyn-2 g.dyn-1).0.entry b.vtable).1.accepted b.value) c.args.session.now in
    let w = wire_in c.args.ids.now c.args.node.now in
    let r = reader_in (λ b. ((dyn-2-ghosts g.dyn-2 g.dyn-1).0.entry b.vtable).1.means b.value) c.args.session.now.arrays c.in-Some-reader.entry in
    let node = c.in_ok-planned.planned in
    let named = wire-named c.args.ids.now c.args.node.now _ _ c.encoding_id.ensures c.in-Some.ensures in
    let read = c.in_ok-planned.ensures.read c.args.ids.now named (c.in-Some-reader.ensures.found s.ext) in
    let nodes = roses_list (below w) in
    let kids = roses_of-roses_list (below w) in
    let same = enough (λ b. ((dyn-2-ghosts g.dyn-2 g.dyn-1).0.entry b.vtable).1.means b.value) c.args.session.now.arrays c.in-Some-reader.entry s.ext node.head node.children nodes w (typ c.args.dtype.now) c.args.len c.in_ok-planned.ensures.planned read.head kids in
    let past : length nodes ≤ c.loop-i.i = omega (arith, wire-length c.args.ids.now c.args.node.now, c.nchildren-i-end.ensures, c.loop-i-test.false) in
    let told = all_told s nodes node.children c.loop-i.children c.loop-i.i past same c.loop-i.invariant in
    subst (λ (ps : List Place). PlansBy s.ext r node.head ps) (sym told.placed) c.in_ok-planned.ensures.planned

-- What was built is of the type that was asked for, and decodes with its statistics.
pub tell-requires : goal.tell-requires
tell-requires g t c =
    let s = session_meaning (λ b. ((dyn-2-ghosts g.dyn-2 g.dyn-1).0.entry b.vtable).1.means b.value) (λ b. ((dyn-1-ghosts g.dyn-2 g.dyn-1).0.entry b.vtable).1.accepted b.value) c.args.session.now in
    let w = wire_in c.args.ids.now c.args.node.now in
    let r = reader_in (λ b. ((dyn-2-ghosts g.dyn-2 g.dyn-1).0.entry b.vtable).1.means b.value) c.args.session.now.arrays c.in-Some-reader.entry in
    let node = c.in_ok-planned.planned in
    let named = wire-named c.args.ids.now c.args.node.now _ _ c.encoding_id.ensures c.in-Some.ensures in
    let read = c.in_ok-planned.ensures.read c.args.ids.now named (c.in-Some-reader.ensures.found s.ext) in
    let nodes = roses_list (below w) in
    let kids = roses_of-roses_list (below w) in
    let same = enough (λ b. ((dyn-2-ghosts g.dyn-2 g.dyn-1).0.entry b.vtable).1.means b.value) c.args.session.now.arrays c.in-Some-reader.entry s.ext node.head node.children nodes w (typ c.args.dtype.now) c.args.len c.in_ok-planned.ensures.planned read.head kids in
    let past : length nodes ≤ c.loop-i.i = omega (arith, wire-length c.args.ids.now c.args.node.now, c.nchildren-i-end.ensures, c.loop-i-test.false) in
    let told = all_told s nodes node.children c.loop-i.children c.loop-i.i past same c.loop-i.invariant in
    built_dtype s w (typ c.args.dtype.now) c.args.len r node.head c.in_ok-buffers.buffers nodes node.children c.loop-i.children c.in_ok-array.array read c.in_ok-planned.ensures.planned (c.in_ok-buffers.ensures.ok c.args.ids.now) kids told
    c.in_ok-array.ensures.built

pub returns-clause-told : goal.returns-clause-told
returns-clause-told g t c =
    let s = session_meaning (λ b. ((dyn-2-ghosts g.dyn-2 g.dyn-1).0.entry b.vtable).1.means b.value) (λ b. ((dyn-1-ghosts g.dyn-2 g.dyn-1).0.entry b.vtable).1.accepted b.value) c.args.session.now in
    let w = wire_in c.args.ids.now c.args.node.now in
    let r = reader_in (λ b. ((dyn-2-ghosts g.dyn-2 g.dyn-1).0.entry b.vtable).1.means b.value) c.args.session.now.arrays c.in-Some-reader.entry in
    let node = c.in_ok-planned.planned in
    let named = wire-named c.args.ids.now c.args.node.now _ _ c.encoding_id.ensures c.in-Some.ensures in
    let read = c.in_ok-planned.ensures.read c.args.ids.now named (c.in-Some-reader.ensures.found s.ext) in
    let nodes = roses_list (below w) in
    let kids = roses_of-roses_list (below w) in
    let same = enough (λ b. ((dyn-2-ghosts g.dyn-2 g.dyn-1).0.entry b.vtable).1.means b.value) c.args.session.now.arrays c.in-Some-reader.entry s.ext node.head node.children nodes w (typ c.args.dtype.now) c.args.len c.in_ok-planned.ensures.planned read.head kids in
    let past : length nodes ≤ c.loop-i.i = omega (arith, wire-length c.args.ids.now c.args.node.now, c.nchildren-i-end.ensures, c.loop-i-test.false) in
    let told = all_told s nodes node.children c.loop-i.children c.loop-i.i past same c.loop-i.invariant in
    IfOk-weaker c.tell.result _ _
    (λ u y. told_node s (session_lawful (λ b. ((dyn-2-ghosts g.dyn-2 g.dyn-1).0.entry b.vtable).1.means b.value) c.args.session.now.arrays s.ext) w (typ c.args.dtype.now) c.args.len r node.head node.children c.in_ok-buffers.buffers nodes c.loop-i.children c.in_ok-array.array u read c.in_ok-planned.ensures.planned
    (c.in_ok-buffers.ensures.ok c.args.ids.now) kids told c.in_ok-array.ensures.built c.in_ok-array.ensures.sound (shown_at c.args.ids.now c.args.node.now (typ c.args.dtype.now) c.in_ok-array.array u y)) c.tell.ensures.told

pub returns-clause-paired : goal.returns-clause-paired
returns-clause-paired g t c = ok_of c.tell.result _ (c.in-Some-reader.ensures.paired (ext_meaning (λ b. ((dyn-1-ghosts g.dyn-2 g.dyn-1).0.entry b.vtable).1.accepted b.value) c.args.session.now.ext))

pub returns-clause-cause : goal.returns-clause-cause
returns-clause-cause g t c =
    let s = session_meaning (λ b. ((dyn-2-ghosts g.dyn-2 g.dyn-1).0.entry b.vtable).1.means b.value) (λ b. ((dyn-1-ghosts g.dyn-2 g.dyn-1).0.entry b.vtable).1.accepted b.value) c.args.session.now in
    let w = wire_in c.args.ids.now c.args.node.now in
    let r = reader_in (λ b. ((dyn-2-ghosts g.dyn-2 g.dyn-1).0.entry b.vtable).1.means b.value) c.args.session.now.arrays c.in-Some-reader.entry in
    let node = c.in_ok-planned.planned in
    let named = wire-named c.args.ids.now c.args.node.now _ _ c.encoding_id.ensures c.in-Some.ensures in
    let read = c.in_ok-planned.ensures.read c.args.ids.now named (c.in-Some-reader.ensures.found s.ext) in
    IfErr-weaker c.tell.result _ _
    (λ e y. caused_by_stats s e w (typ c.args.dtype.now) c.args.len r node.head c.in-Some-reader.ensures.within read (refused_at c.args.ids.now c.args.node.now (typ c.args.dtype.now) e y)) c.tell.ensures.cause

pub returns-in_err-array-clause-cause : goal.returns-in_err-array-clause-cause
returns-in_err-array-clause-cause g t c =
    let p = err_from_is_err_and c.from_residual-in_err-array.result c.from_residual-in_err-array.ensures.1 in
    let s = session_meaning (λ b. ((dyn-2-ghosts g.dyn-2 g.dyn-1).0.entry b.vtable).1.means b.value) (λ b. ((dyn-1-ghosts g.dyn-2 g.dyn-1).0.entry b.vtable).1.accepted b.value) c.args.session.now in
    let w = wire_in c.args.ids.now c.args.node.now in
    let r = reader_in (λ b. ((dyn-2-ghosts g.dyn-2 g.dyn-1).0.entry b.vtable).1.means b.value) c.args.session.now.arrays c.in-Some-reader.entry in
    let node = c.in_ok-planned.planned in
    let named = wire-named c.args.ids.now c.args.node.now _ _ c.encoding_id.ensures c.in-Some.ensures in
    let read = c.in_ok-planned.ensures.read c.args.ids.now named (c.in-Some-reader.ensures.found s.ext) in
    let nodes = roses_list (below w) in
    let kids = roses_of-roses_list (below w) in
    let same = enough (λ b. ((dyn-2-ghosts g.dyn-2 g.dyn-1).0.entry b.vtable).1.means b.value) c.args.session.now.arrays c.in-Some-reader.entry s.ext node.head node.children nodes w (typ c.args.dtype.now) c.args.len c.in_ok-planned.ensures.planned read.head kids in
    let past : length nodes ≤ c.loop-i.i = omega (arith, wire-length c.args.ids.now c.args.node.now, c.nchildren-i-end.ensures, c.loop-i-test.false) in
    let told = all_told s nodes node.children c.loop-i.children c.loop-i.i past same c.loop-i.invariant in
    rw (p.1, p.2)
    (caused_by_build s c.in_err-array.field-0.0 w (typ c.args.dtype.now) c.args.len r node.head c.in_ok-buffers.buffers nodes node.children c.loop-i.children read c.in_ok-planned.ensures.planned (c.in_ok-buffers.ensures.ok c.args.ids.now) kids told
    c.in_err-array.ensures.cause)
