use Rattle.std.proofs.Common.{arith, ◌∙◌, ◌<◌, ◌^◌, List, ap, sym, subst, refl}
use Rattle.std.proofs.lemmas.Result.{err_from_is_err_and}
use Rattle.vx_buffer.specs.Buffer.{Buffer}
use Rattle.vx_wire_tree.specs.Limits.{AreDescribable}
use Rattle.vx_wire_tree.specs.Wire.{buffers_in}
use Rattle.vx_wire_tree.specs.Written.{wire}
use Rattle.vx_encodings.specs.Messages.{codec}
use Rattle.vx_serde.specs.Blocks.{layout_by}
use Rattle.vx_serde.specs.Placing.{descriptors_from, data_end}
use Rattle.vx_serde.specs.Spells.{ids_after}
use Rattle.vx_serde.specs.WritingSteps.{layout_of}
use Rattle.vx_serde.proofs.NumberedBy.{as-many, layout-numbered, message-of_kind}
use Rattle.vx_serde.proofs.Serializations.{serialized}
use Rattle.vx_serde.proofs.WholeBlob.{message-is, unplaced, unwritten, late, writable-is, buffers-are}
use Rattle.vx_flat.specs.IsOf.{IsOf}
use Rattle.vx_serialized.specs.ArraySchema.{array_schema}
use Rattle.vx_serde.proofs.WiredAlike.{message_alike}
use Rattle.vx_serde.proofs.WiredNodes.{no_session, some_session, writes_so, wired-nodes}
use Rattle.vx_serde.proofs.WiredStats.{wire-tabled}
use Rattle.vx_serde.proofs.WrittenAgain.{grown-ids, wire-whole}
use Rattle.vx_serde.proofs.writing.write_taken.Goals as goal

pub returns-in_err-found-clause-cause : goal.returns-in_err-found-clause-cause
returns-in_err-found-clause-cause c = λ s q.
    let p = err_from_is_err_and c.from_residual.result c.from_residual.ensures.1 in
    rw (p.1, p.2) (unplaced s c.args.array.now c.args.ctx.now c.args.options.now c.in_err-found.field-0.0 (c.in_err-found.ensures.refused s q))

pub write_message-requires-clause-known : goal.write_message-requires-clause-known
write_message-requires-clause-known c =
    let r = some_session c.args.two in
    let w = wire codec r c.args.array.now in
    as-many c.place.new.ctx.ids w c.deref.result.now (c.deref.ensures.value ∙ c.in_ok-found.ensures.encodings r (writes_so c.args.two)) ∙ wired-nodes r c.args.array.now

pub write_message-requires-clause-few : goal.write_message-requires-clause-few
write_message-requires-clause-few c = λ s. (c.in_ok-found.ensures.placed s).placeable.tree.few

pub write_message-requires-clause-whole : goal.write_message-requires-clause-whole
write_message-requires-clause-whole c =
    (descriptors_from c.args.options.now c.args.options.now.offset (buffers_in (wire codec no_session c.args.array.now)), c.deref-2.ensures.value ∙ (c.in_ok-found.ensures.placed no_session).descriptors_are)

pub write_message-requires-clause-of_kind : goal.write_message-requires-clause-of_kind
write_message-requires-clause-of_kind c = λ s.
    let r = some_session c.args.two in
    let q = writes_so c.args.two in
    let w = wire codec r c.args.array.now in
    let placed = c.in_ok-found.ensures.placed r in
    let of =
    message-of_kind c.place.new.ctx.ids w c.deref.result.now c.deref-2.result.now (c.deref.ensures.value ∙ c.in_ok-found.ensures.encodings r q)
    c.args.ctx.now c.place.new.ctx (descriptors_from c.args.options.now c.args.options.now.offset (buffers_in w)) refl (c.in_ok-found.ensures.grown r q) (wire-whole codec r c.args.array.now)
    (wire-tabled r c.args.array.now)
    placed.placeable.tree.few (c.deref-2.ensures.value ∙ placed.descriptors_are)
    in
    subst (λ v. IsOf array_schema v) (message_alike r s c.deref.result.now c.args.array.now c.deref-2.result.now) of

pub returns-in_err-message-clause-cause : goal.returns-in_err-message-clause-cause
returns-in_err-message-clause-cause c = λ s q.
    let p = err_from_is_err_and c.from_residual-in_err-message.result c.from_residual-in_err-message.ensures.1 in
    let a = c.args.array.now in
    let w = wire codec s a in
    let o = c.args.options.now in
    let es = c.deref.result.now in
    let ds = c.deref-2.result.now in
    let placed = c.in_ok-found.ensures.placed s in
    let described = c.deref-2.ensures.value ∙ placed.descriptors_are in
    let ids = grown-ids s a c.args.ctx.now c.place.new.ctx (c.in_ok-found.ensures.grown s q) in
    let numbered = layout-numbered c.place.new.ctx.ids w es ds (c.deref.ensures.value ∙ c.in_ok-found.ensures.encodings s q) in
    rw (p.1, p.2)
    (unwritten s a c.args.ctx.now o ds (layout_by es w ds) c.in_err-message.field-0.0 described (numbered ∙ ap (λ z. layout_of z w ds) ids) (c.in_err-message.ensures.refused s))

pub returns-then-not-has_end-clause-cause : goal.returns-then-not-has_end-clause-cause
returns-then-not-has_end-clause-cause c = λ s q.
    let a = c.args.array.now in
    let w = wire codec s a in
    let o = c.args.options.now in
    let es = c.deref.result.now in
    let ds = c.deref-2.result.now in
    let placed = c.in_ok-found.ensures.placed s in
    let described = c.deref-2.ensures.value ∙ placed.descriptors_are in
    let ids = grown-ids s a c.args.ctx.now c.place.new.ctx (c.in_ok-found.ensures.grown s q) in
    let numbered = layout-numbered c.place.new.ctx.ids w es ds (c.deref.ensures.value ∙ c.in_ok-found.ensures.encodings s q) in
    let e = c.pad_at-padding.ensures.value in
    let m = c.in_ok-message.ensures.written s ∙ numbered ∙ ap (λ z. layout_of z w ds) ids ∙ ap (λ z. layout_of (ids_after s a c.args.ctx.now) w z) c.deref-2.ensures.value in
    late s a c.args.ctx.now o c.in_ok-found.placed.end c.in_ok-found.placed.descriptors.items c.in_ok-message.message.items placed m
    (omega (arith, c.has_end.ensures.late c.if-not-has_end.true, e, c.len.ensures))

pub returns-clause-made : goal.returns-clause-made
returns-clause-made c = λ s q.
    let a = c.args.array.now in
    let w = wire codec s a in
    let o = c.args.options.now in
    let es = c.deref.result.now in
    let ds = c.deref-2.result.now in
    let placed = c.in_ok-found.ensures.placed s in
    let described = c.deref-2.ensures.value ∙ placed.descriptors_are in
    let ids = grown-ids s a c.args.ctx.now c.place.new.ctx (c.in_ok-found.ensures.grown s q) in
    let numbered = layout-numbered c.place.new.ctx.ids w es ds (c.deref.ensures.value ∙ c.in_ok-found.ensures.encodings s q) in
    let now = c.place.new.ctx.ids in
    let m = c.in_ok-message.ensures.written s ∙ numbered ∙ message-is now o w ds described in
    serialized s a o c.args.ctx.now c.place.new.ctx _ (c.in_ok-found.ensures.grown s q) c.in_ok-message.ensures.storable c.requires.messages
    (writable-is now o w c.in_ok-found.placed.end c.in_ok-found.placed.descriptors.items c.in_ok-message.message.items placed m c.in_ok-message.ensures.short c.in_ok-message.ensures.within_limits
    (omega (arith, c.has_end.ensures.within c.if-not-has_end.false, c.pad_at-padding.ensures.value, c.len.ensures)))
    (c.in_ok-blob_buffers.ensures
    ∙ buffers-are now o w c.in_ok-found.placed.end c.in_ok-found.placed.descriptors.items c.in_ok-message.message.items c.in_ok-found.found.buffers c.pad_at-padding.result
    placed m (c.in_ok-found.ensures.buffers s) c.pad_at-padding.ensures.value)

pub blob_buffers-requires-clause-describable : goal.blob_buffers-requires-clause-describable
blob_buffers-requires-clause-describable c =
    let same = c.in_ok-found.ensures.buffers no_session in
    let P : List Buffer → Type 0 = λ z. AreDescribable z in
    subst P (sym same) (c.in_ok-found.ensures.placed no_session).placeable.tree.describable

pub blob_buffers-requires-clause-fits : goal.blob_buffers-requires-clause-fits
blob_buffers-requires-clause-fits c =
    let same = c.in_ok-found.ensures.buffers no_session in
    let P : List Buffer → Type 0 = λ z. data_end c.args.options.now c.args.options.now.offset z < 2 ^ 64 in
    subst P (sym same) (c.in_ok-found.ensures.placed no_session).placeable.ends
