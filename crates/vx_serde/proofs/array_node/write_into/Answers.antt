use Rattle.std.proofs.Common.{◌≡◌, ◌∙◌, ◌<◌, ◌++◌, [], length, arith, subst, inl, inr}
use Rattle.std.specs.Prelude.{◌⊎◌}
use Rattle.std.proofs.lemmas.Result.{err_from_is_err_and}
use Rattle.vx_flat.specs.Building.{RefusesPieces}
use Rattle.vx_flat.proofs.LawsOfBuilding.{keeps-stopped}
use Rattle.vx_wire_tree.specs.Wire.{buffers_in}
use Rattle.vx_wire_tree.specs.Written.{wire}
use Rattle.vx_encodings.specs.Messages.{codec}
use Rattle.vx_serde.specs.ArrayNode.{array_pieces}
use Rattle.vx_serde.proofs.ArrayNodes.{pieces-are, ungathered, too-much, blocks-refused, value-written}
use Rattle.vx_serde.proofs.NumberedBy.{as-many, first-encodings}
use Rattle.vx_serde.proofs.WiredNodes.{no_session, some_session, writes_so, wired-nodes}
use Rattle.vx_serde.proofs.array_node.write_into.Goals.{then-len-gt-MAX_BUFFERS-via-then-len-gt-MAX_BUFFERS, then-len-gt-MAX_BUFFERS-via-else-len-gt-MAX_BUFFERS+then-len-gt-MAX_NODES}
use Rattle.vx_serde.proofs.array_node.write_into.Goals as goal

pub returns-in_err-gather-clause-cause : goal.returns-in_err-gather-clause-cause
returns-in_err-gather-clause-cause c = λ s q.
    let p = err_from_is_err_and c.from_residual.result c.from_residual.ensures.1 in
    rw (p.1, p.2)
    (ungathered s c.args.array.now c.args.ctx.now c.args.builder.now c.in_err-gather.field-0.0 (c.in_err-gather.ensures.cause s q))

pub returns-then-len-gt-MAX_BUFFERS-clause-cause : goal.returns-then-len-gt-MAX_BUFFERS-clause-cause
returns-then-len-gt-MAX_BUFFERS-clause-cause c = λ s q.
    let w = wire codec s c.args.array.now in
    let found = c.gather.new.found in
    let es = found.encodings.items in
    let named = first-encodings w c.gather.new.ctx.ids c.new-found.result.encodings.items es c.new-found.ensures.encodings (c.in_ok-gather.ensures.encodings s [] q) in
    let same : found.buffers ≡ buffers_in w = subst (λ z. found.buffers ≡ z ++ buffers_in w) c.new-found.ensures.buffers (c.in_ok-gather.ensures.buffers s) in
    let many : (65535 < length found.buffers) ⊎ (499999 < length es) = elim c.then-len-gt-MAX_BUFFERS.branch [
      | then-len-gt-MAX_BUFFERS-via-then-len-gt-MAX_BUFFERS b ↦ inl (omega (arith, b.if-len-gt-MAX_BUFFERS.true, c.len.ensures))
      | then-len-gt-MAX_BUFFERS-via-else-len-gt-MAX_BUFFERS+then-len-gt-MAX_NODES b ↦ inr (omega (arith, b.if-len-gt-MAX_NODES.true, b.len-else-len-gt-MAX_BUFFERS.ensures, found.encodings.ok))
    ] in
    too-much s c.args.array.now c.args.ctx.now c.args.builder.now c.gather.new.ctx es found.buffers (c.in_ok-gather.ensures.grown s q) named same many

pub write_node-requires-clause-known : goal.write_node-requires-clause-known
write_node-requires-clause-known c =
    let a = c.args.array.now in
    let w = wire codec (some_session c.args.two) a in
    let named = first-encodings w c.gather.new.ctx.ids c.new-found.result.encodings.items c.gather.new.found.encodings.items c.new-found.ensures.encodings (c.in_ok-gather.ensures.encodings (some_session c.args.two) [] (writes_so c.args.two)) in
    omega (arith, as-many c.gather.new.ctx.ids w c.deref.result.now (c.deref.ensures.value ∙ named), wired-nodes (some_session c.args.two) a)

pub write_node-requires-clause-counted : goal.write_node-requires-clause-counted
write_node-requires-clause-counted c =
    let a = c.args.array.now in
    let w = wire codec (some_session c.args.two) a in
    let named = first-encodings w c.gather.new.ctx.ids c.new-found.result.encodings.items c.gather.new.found.encodings.items c.new-found.ensures.encodings (c.in_ok-gather.ensures.encodings (some_session c.args.two) [] (writes_so c.args.two)) in
    omega (arith, as-many c.gather.new.ctx.ids w c.deref.result.now (c.deref.ensures.value ∙ named), wired-nodes (some_session c.args.two) a, c.deref.ensures.len, c.if-len-gt-MAX_NODES.false, c.len-else-len-gt-MAX_BUFFERS.ensures)

pub returns-in_err-write_node-clause-kept : goal.returns-in_err-write_node-clause-kept
returns-in_err-write_node-clause-kept c = λ s q.
    let p = err_from_is_err_and c.from_residual-in_err-write_node.result c.from_residual-in_err-write_node.ensures.1 in
    let named = first-encodings (wire codec s c.args.array.now) c.gather.new.ctx.ids c.new-found.result.encodings.items c.gather.new.found.encodings.items c.new-found.ensures.encodings (c.in_ok-gather.ensures.encodings s [] q) in
    let same = pieces-are s c.args.array.now c.args.ctx.now c.gather.new.ctx c.deref.result.now (c.in_ok-gather.ensures.grown s q) (c.deref.ensures.value ∙ named) in
    let e = c.in_err-write_node.field-0.0 in
    rw p.1
    (keeps-stopped c.args.builder.now c.write_node.new.builder (array_pieces s c.args.array.now c.args.ctx.now) e
    (subst (λ z. RefusesPieces c.args.builder.now z e c.write_node.new.builder) same (c.in_err-write_node.ensures.stopped s)))

pub returns-in_err-write_node-clause-cause : goal.returns-in_err-write_node-clause-cause
returns-in_err-write_node-clause-cause c = λ s q.
    let p = err_from_is_err_and c.from_residual-in_err-write_node.result c.from_residual-in_err-write_node.ensures.1 in
    let named = first-encodings (wire codec s c.args.array.now) c.gather.new.ctx.ids c.new-found.result.encodings.items c.gather.new.found.encodings.items c.new-found.ensures.encodings (c.in_ok-gather.ensures.encodings s [] q) in
    let same = pieces-are s c.args.array.now c.args.ctx.now c.gather.new.ctx c.deref.result.now (c.in_ok-gather.ensures.grown s q) (c.deref.ensures.value ∙ named) in
    let e = c.in_err-write_node.field-0.0 in
    rw (p.1, p.2)
    (blocks-refused s c.args.array.now c.args.ctx.now c.args.builder.now c.write_node.new.builder e
    (subst (λ z. RefusesPieces c.args.builder.now z e c.write_node.new.builder) same (c.in_err-write_node.ensures.stopped s)))

pub returns-clause-written : goal.returns-clause-written
returns-clause-written c = λ s q.
    let named = first-encodings (wire codec s c.args.array.now) c.gather.new.ctx.ids c.new-found.result.encodings.items c.gather.new.found.encodings.items c.new-found.ensures.encodings (c.in_ok-gather.ensures.encodings s [] q) in
    let same = pieces-are s c.args.array.now c.args.ctx.now c.gather.new.ctx c.deref.result.now (c.in_ok-gather.ensures.grown s q) (c.deref.ensures.value ∙ named) in
    value-written s c.args.array.now c.args.ctx.now c.args.builder.now c.write_node.new.builder _ same (c.in_ok-write_node.ensures.written s)

pub returns-clause-fits : goal.returns-clause-fits
returns-clause-fits c = λ _. (c.in_ok-write_node.ensures.written no_session).fits
