use Rattle.std.proofs.Common.{◌≡◌, ◌∙◌, ◌<◌, ◌^◌, length, sym, subst, arith}
use Rattle.std.proofs.lemmas.Result.{err_from_is_err_and, IfOk-weaker, IfErr-weaker}
use Rattle.vx_flat.specs.declared.builder.piece.LinkKind.TheVariants as link
use Rattle.vx_flat.specs.Building.{Takes, RefusesPieces, nothing_built}
use Rattle.vx_flat.specs.Pieces.{pieces}
use Rattle.vx_flat.specs.Limits.{limits_to, KeepsLimits}
use Rattle.vx_flat.specs.Weight as weigh
use Rattle.vx_wire_tree.specs.ReadBack.{HasStorableStats}
use Rattle.vx_wire_tree.specs.Written.{wire}
use Rattle.vx_encodings.specs.Messages.{codec}
use Rattle.vx_serialized.specs.ArraySchema.{array_schema}
use Rattle.vx_flat.specs.Building.{AreWritten}
use Rattle.vx_serde.specs.Blocks.{message_by, layout_by}
use Rattle.vx_serde.proofs.MessageBlocks.{layout-written, message-shown, blocks-refused, too-many, over_limits, some-written, works-written, idle-written, if_ok-same}
use Rattle.vx_serialized.proofs.LawsOfAnswers.{ok_of}
use Rattle.vx_serde.proofs.WiredNodes.{no_session, wired-nodes}
use Rattle.vx_serde.proofs.WiredStats.{wire-told}
use Rattle.vx_serde.proofs.writing.write_message.Goals as goal

pub returns-then-encodings-gt-MAX_NODES-clause-refused : goal.returns-then-encodings-gt-MAX_NODES-clause-refused
returns-then-encodings-gt-MAX_NODES-clause-refused c = λ s.
    let a = c.args.array.now in
    let es = c.args.encodings.now in
    let ds = c.args.descriptors.now in
    let w = wire codec s a in
    too-many es w ds (c.requires.of_kind s) c.args.deep (wire-told s a) (omega (arith, c.if-encodings-gt-MAX_NODES.true, c.requires.known, wired-nodes s a))

pub write_blocks-requires-clause-takes : goal.write_blocks-requires-clause-takes
write_blocks-requires-clause-takes c =
    subst (λ z. Takes link.Table z) (sym c.with_room-builder.ensures) (λ _. tt)

pub write_blocks-requires-clause-counted : goal.write_blocks-requires-clause-counted
write_blocks-requires-clause-counted c =
    omega (arith, c.requires.known, c.if-encodings-gt-MAX_NODES.false)

pub returns-in_err-write_blocks-clause-refused : goal.returns-in_err-write_blocks-clause-refused
returns-in_err-write_blocks-clause-refused c = λ s.
    let p = err_from_is_err_and c.from_residual.result c.from_residual.ensures.1 in
    let a = c.args.array.now in
    let es = c.args.encodings.now in
    let ds = c.args.descriptors.now in
    let w = wire codec s a in
    let e = c.in_err-write_blocks.field-0.0 in
    rw (p.1, p.2)
    (blocks-refused es w ds (c.requires.of_kind s) (limits_to c.args.deep) e c.write_blocks.new.builder
    (subst (λ z. RefusesPieces z (pieces array_schema (message_by es w ds)) e c.write_blocks.new.builder) c.with_room-builder.ensures (c.in_err-write_blocks.ensures.stopped s)))

pub finish-requires-clause-written : goal.finish-requires-clause-written
finish-requires-clause-written c =
    let a = c.args.array.now in
    let es = c.args.encodings.now in
    let ds = c.args.descriptors.now in
    let w = wire codec no_session a in
    let of = c.requires.of_kind no_session in
    let b = c.write_blocks.new.builder in
    let wrote : AreWritten nothing_built (pieces array_schema (message_by es w ds)) b = subst (λ z. AreWritten z (pieces array_schema (message_by es w ds)) b) c.with_room-builder.ensures (c.in_ok-write_blocks.ensures.written no_session) in
    λ _. some-written es w ds of b wrote

pub finish-requires-clause-linked : goal.finish-requires-clause-linked
finish-requires-clause-linked c =
    let a = c.args.array.now in
    let es = c.args.encodings.now in
    let ds = c.args.descriptors.now in
    let w = wire codec no_session a in
    let of = c.requires.of_kind no_session in
    let b = c.write_blocks.new.builder in
    let wrote : AreWritten nothing_built (pieces array_schema (message_by es w ds)) b = subst (λ z. AreWritten z (pieces array_schema (message_by es w ds)) b) c.with_room-builder.ensures (c.in_ok-write_blocks.ensures.written no_session) in
    λ _. wrote.linked

pub finish-requires-clause-idle : goal.finish-requires-clause-idle
finish-requires-clause-idle c =
    let a = c.args.array.now in
    let es = c.args.encodings.now in
    let ds = c.args.descriptors.now in
    let w = wire codec no_session a in
    let of = c.requires.of_kind no_session in
    let b = c.write_blocks.new.builder in
    let wrote : AreWritten nothing_built (pieces array_schema (message_by es w ds)) b = subst (λ z. AreWritten z (pieces array_schema (message_by es w ds)) b) c.with_room-builder.ensures (c.in_ok-write_blocks.ensures.written no_session) in
    λ _. idle-written es w ds of b wrote

pub unreachable-requires : goal.unreachable-requires
unreachable-requires c =
    let a = c.args.array.now in
    let es = c.args.encodings.now in
    let ds = c.args.descriptors.now in
    let w = wire codec no_session a in
    let of = c.requires.of_kind no_session in
    let b = c.write_blocks.new.builder in
    let wrote : AreWritten nothing_built (pieces array_schema (message_by es w ds)) b = subst (λ z. AreWritten z (pieces array_schema (message_by es w ds)) b) c.with_room-builder.ensures (c.in_ok-write_blocks.ensures.written no_session) in
    let ok = c.in-Err.ensures.complete (works-written es w ds of b wrote) in
    absurd cc

pub limited_message-requires : goal.limited_message-requires
limited_message-requires c =
    let a = c.args.array.now in
    let es = c.args.encodings.now in
    let ds = c.args.descriptors.now in
    let w = wire codec no_session a in
    let of = c.requires.of_kind no_session in
    let b = c.write_blocks.new.builder in
    let wrote : AreWritten nothing_built (pieces array_schema (message_by es w ds)) b = subst (λ z. AreWritten z (pieces array_schema (message_by es w ds)) b) c.with_room-builder.ensures (c.in_ok-write_blocks.ensures.written no_session) in
    let m = c.in-Ok.ensures.built ∙ layout-written es w ds of b wrote in
    message-shown es w ds of c.in-Ok.message m c.in-Ok.ensures.fits

pub returns-clause-written : goal.returns-clause-written
returns-clause-written c = λ s.
    let a = c.args.array.now in
    let es = c.args.encodings.now in
    let ds = c.args.descriptors.now in
    let w = wire codec s a in
    let of = c.requires.of_kind s in
    let b = c.write_blocks.new.builder in
    let wrote : AreWritten nothing_built (pieces array_schema (message_by es w ds)) b = subst (λ z. AreWritten z (pieces array_schema (message_by es w ds)) b) c.with_room-builder.ensures (c.in_ok-write_blocks.ensures.written s) in
    let m = c.in-Ok.ensures.built ∙ layout-written es w ds of b wrote in
    IfOk-weaker c.limited_message.result (λ x. x.items ≡ c.in-Ok.message) (λ x. x.items ≡ layout_by es w ds) (λ x h. h ∙ m) c.limited_message.ensures.same

pub returns-clause-storable : goal.returns-clause-storable
returns-clause-storable c = ok_of c.limited_message.result (HasStorableStats codec c.args.array.now) c.in_ok-write_blocks.ensures.storable

pub returns-clause-short : goal.returns-clause-short
returns-clause-short c =
    IfOk-weaker c.limited_message.result (λ x. x.items ≡ c.in-Ok.message) (λ x. length x.items < 2 ^ 31) (λ x h. subst (λ z. length z < 2 ^ 31) (sym h) c.in-Ok.ensures.fits) c.limited_message.ensures.same

pub returns-clause-within_limits : goal.returns-clause-within_limits
returns-clause-within_limits c =
    if_ok-same c.limited_message.result (λ x. x.items) c.in-Ok.message (λ z. KeepsLimits (limits_to c.args.deep) (weigh.weight array_schema z)) c.limited_message.ensures.same c.limited_message.ensures.within_limits

pub returns-clause-refused : goal.returns-clause-refused
returns-clause-refused c = λ s.
    let a = c.args.array.now in
    let es = c.args.encodings.now in
    let ds = c.args.descriptors.now in
    let w = wire codec s a in
    let of = c.requires.of_kind s in
    let b = c.write_blocks.new.builder in
    let wrote : AreWritten nothing_built (pieces array_schema (message_by es w ds)) b = subst (λ z. AreWritten z (pieces array_schema (message_by es w ds)) b) c.with_room-builder.ensures (c.in_ok-write_blocks.ensures.written s) in
    let m = c.in-Ok.ensures.built ∙ layout-written es w ds of b wrote in
    IfErr-weaker c.limited_message.result _ _ (λ e h. over_limits es w ds of (limits_to c.args.deep) c.in-Ok.message e m h) c.limited_message.ensures.refused
