use Rattle.std.proofs.Common.{◌++◌, ◌∷◌, [], ◌<◌, length, arith, ap, sym, ◌∙◌}
use Rattle.std.proofs.lemmas.Result.{err_from_is_err_and}
use Rattle.vx_wire_tree.specs.Context.{index_of}
use Rattle.vx_wire_tree.specs.Wire.{buffers_at_node}
use Rattle.vx_wire_tree.specs.Written.{wire}
use Rattle.vx_encodings.specs.Messages.{codec}
use Rattle.vx_registry.specs.Serialization.{array_id}
use Rattle.vx_serde.specs.Numbered.{encoding_index}
use Rattle.vx_serde.proofs.Gathered.{root-refused, child-ungathered, longer-ids}
use Rattle.vx_serde.proofs.Growing.{kept-grown}
use Rattle.vx_serde.proofs.GrownNodes.{kept-own, kept-child, kept-front, grown-child, grown-whole}
use Rattle.vx_serde.proofs.WiredNodes.{wired, wired-below, wired-at, wired-within, wired-past, gathered_first, gathered-next, gathered-all, own-buffers, own-grown, own-kept, own-index}
use Rattle.vx_serde.proofs.gathering.+gather.Goals as goal

pub returns-in_err-push_root-clause-kept : goal.returns-in_err-push_root-clause-kept
returns-in_err-push_root-clause-kept t c = λ s q.
    let a = c.args.array.now in
    kept-own (wire codec s a) c.args.ctx.now c.push_root.new.ctx (own-kept s c.args.two q a c.args.ctx.now c.push_root.new.ctx c.in_err-push_root.ensures.kept)

pub returns-in_err-push_root-clause-cause : goal.returns-in_err-push_root-clause-cause
returns-in_err-push_root-clause-cause t c = λ s q.
    let p = err_from_is_err_and c.from_residual.result c.from_residual.ensures.1 in
    rw (p.1, p.2) (root-refused s c.args.two q c.args.array.now c.args.ctx.now c.in_err-push_root.field-0.0 c.in_err-push_root.ensures.cause)

pub returns-in_err-gather-clause-kept : goal.returns-in_err-gather-clause-kept
returns-in_err-gather-clause-kept t c = λ s q.
    let a = c.args.array.now in
    let ts = c.children-children.result in
    let i = c.loop-i.i in
    let u = c.get-child.result in
    let lt : i < length ts = omega (arith, c.loop-i-test.true, c.len-i-end.ensures) in
    kept-child (wire codec s a) (wired s ts) i (wire codec s u) c.args.ctx.now c.push_root.new.ctx c.loop-i.ctx c.gather.new.ctx
    (wired-below s a ts c.children-children.ensures.children) (wired-within s ts i lt) (wired-at s ts i u lt c.get-child.ensures)
    (own-grown s c.args.two q a c.args.ctx.now c.push_root.new.ctx c.in_ok-push_root.ensures.grown) (c.loop-i.invariant.grown s q) (c.in_err-gather.ensures.kept s q)

pub returns-in_err-gather-clause-cause : goal.returns-in_err-gather-clause-cause
returns-in_err-gather-clause-cause t c = λ s q.
    let p = err_from_is_err_and c.from_residual-in_err-gather.result c.from_residual-in_err-gather.ensures.1 in
    rw (p.1, p.2)
    (child-ungathered s c.args.two q c.args.array.now c.children-children.result c.loop-i.i c.get-child.result c.args.ctx.now c.push_root.new.ctx c.loop-i.ctx c.in_err-gather.field-0.0
    (omega (arith, c.loop-i-test.true, c.len-i-end.ensures)) c.get-child.ensures c.children-children.ensures.children c.in_ok-push_root.ensures.grown (c.loop-i.invariant.grown s q) (c.in_err-gather.ensures.cause s q))

pub loop-i-preserved : goal.loop-i-preserved
loop-i-preserved t c =
    let ts = c.children-children.result in
    let i = c.loop-i.i in
    let u = c.get-child.result in
    let lt : i < length ts = omega (arith, c.loop-i-test.true, c.len-i-end.ensures) in
    let is = c.get-child.ensures in
    let start = c.push_root.new.found.encodings.items in
    record {
      buffers = λ s. gathered-next s (λ h. buffers_at_node h) c.push_root.new.found.buffers c.loop-i.found.buffers c.gather.new.found.buffers ts i u lt is (c.loop-i.invariant.buffers s) (c.in_ok-gather.ensures.buffers s);
      encodings = λ s more q.
          let kept = c.in_ok-gather.ensures.kept s q in
          gathered-next s (λ h. encoding_index h.id (c.gather.new.ctx.ids ++ more) ∷ []) start c.loop-i.found.encodings.items c.gather.new.found.encodings.items ts i u lt is
          (c.loop-i.invariant.encodings s (kept.added ++ more) q
          ∙ ap (λ ids. start ++ gathered_first s (λ h. encoding_index h.id ids ∷ []) ts i) (sym (longer-ids c.loop-i.ctx.ids kept.added more c.gather.new.ctx.ids kept.front)))
          (c.in_ok-gather.ensures.encodings s more q);
      grown = λ s q. grown-child (wired s ts) i (wire codec s u) c.push_root.new.ctx c.loop-i.ctx c.gather.new.ctx (wired-within s ts i lt) (wired-at s ts i u lt is) (c.loop-i.invariant.grown s q) (c.in_ok-gather.ensures.grown s q);
    }

pub returns-clause-buffers : goal.returns-clause-buffers
returns-clause-buffers t c = λ s.
    let a = c.args.array.now in
    gathered-all s (λ h. buffers_at_node h) c.args.found.now.buffers c.push_root.new.found.buffers c.loop-i.found.buffers a c.children-children.result c.loop-i.i (omega (arith, c.loop-i-test.false, c.len-i-end.ensures))
    c.children-children.ensures.children (c.in_ok-push_root.ensures.buffers ∙ ap (λ z. c.args.found.now.buffers ++ z) (sym (own-buffers s a))) (c.loop-i.invariant.buffers s)

pub returns-clause-encodings : goal.returns-clause-encodings
returns-clause-encodings t c = λ s more q.
    let a = c.args.array.now in
    let old = c.args.found.now.encodings.items in
    let ids = c.loop-i.ctx.ids in
    let kept = kept-grown _ c.push_root.new.ctx c.loop-i.ctx (c.loop-i.invariant.grown s q) in
    gathered-all s (λ h. encoding_index h.id (ids ++ more) ∷ []) old c.push_root.new.found.encodings.items c.loop-i.found.encodings.items a c.children-children.result c.loop-i.i (omega (arith, c.loop-i-test.false, c.len-i-end.ensures))
    c.children-children.ensures.children
    (c.in_ok-push_root.ensures.encodings (kept.added ++ more)
    ∙ ap (λ z. old ++ index_of (array_id c.args.two a) z ∷ []) (sym (longer-ids c.push_root.new.ctx.ids kept.added more ids kept.front))
    ∙ ap (λ n. old ++ n ∷ []) (sym (own-index s c.args.two q a (ids ++ more))))
    (c.loop-i.invariant.encodings s more q)

pub returns-clause-grown : goal.returns-clause-grown
returns-clause-grown t c = λ s q.
    let a = c.args.array.now in
    let ts = c.children-children.result in
    let i = c.loop-i.i in
    grown-whole (wire codec s a) (wired s ts) i c.args.ctx.now c.push_root.new.ctx c.loop-i.ctx (wired-below s a ts c.children-children.ensures.children) (wired-past s ts i (omega (arith, c.loop-i-test.false, c.len-i-end.ensures)))
    (own-grown s c.args.two q a c.args.ctx.now c.push_root.new.ctx c.in_ok-push_root.ensures.grown) (c.loop-i.invariant.grown s q)

pub returns-clause-kept : goal.returns-clause-kept
returns-clause-kept t c = λ s q.
    let a = c.args.array.now in
    let ts = c.children-children.result in
    kept-front (wire codec s a) (wired s ts) c.loop-i.i c.args.ctx.now c.push_root.new.ctx c.loop-i.ctx (wired-below s a ts c.children-children.ensures.children)
    (own-grown s c.args.two q a c.args.ctx.now c.push_root.new.ctx c.in_ok-push_root.ensures.grown) (c.loop-i.invariant.grown s q)
