use Rattle.std.proofs.Common.{[], ◌∷◌, ◌++◌, refl, sym, subst, arith}
use Rattle.std.proofs.lemmas.Result.{err_from_is_err_and}
use Rattle.vx_flat.specs.Building.{IsNext, RefusesPieces}
use Rattle.vx_flat.specs.Pieces.{elements_piece, pieces}
use Rattle.vx_wire_tree.specs.Written.{wire}
use Rattle.vx_encodings.specs.Messages.{codec}
use Rattle.vx_serialized.specs.ArraySchema.{array_schema}
use Rattle.vx_flat.specs.Building.{AreWritten}
use Rattle.vx_serde.specs.Blocks.{node_pieces, message_by}
use Rattle.vx_flat.proofs.LawsOfLinks.{begun, gone_on, cut_short, refused, next_is, idle, awaited, ended}
use Rattle.vx_serde.proofs.MessageBlocks.{message_piece, root_link, descriptors_link, message-blocks, whole-descriptors}
use Rattle.vx_serde.proofs.WiredNodes.{no_session}
use Rattle.vx_serde.proofs.writing.write_blocks.Goals as goal

pub link-requires-clause-idle : goal.link-requires-clause-idle
link-requires-clause-idle c =
    let a = c.args.array.now in
    let es = c.args.encodings.now in
    let ds = c.args.descriptors.now in
    let old = c.args.builder.now in
    let w0 = begun old c.table.new.self message_piece message_piece (root_link old.count ∷ descriptors_link old.count ∷ []) c.in_ok-root.ensures.written refl refl in
    λ _. idle old message_piece _ _ c.table.new.self w0

pub link-requires-clause-next : goal.link-requires-clause-next
link-requires-clause-next c =
    let a = c.args.array.now in
    let es = c.args.encodings.now in
    let ds = c.args.descriptors.now in
    let old = c.args.builder.now in
    let w0 = begun old c.table.new.self message_piece message_piece (root_link old.count ∷ descriptors_link old.count ∷ []) c.in_ok-root.ensures.written refl refl in
    λ _. subst (λ n. IsNext c.table.new.self.left n 0) (sym c.in_ok-root.ensures.number) (next_is old message_piece _ _ _ c.table.new.self w0)

pub write_node-requires-clause-takes : goal.write_node-requires-clause-takes
write_node-requires-clause-takes c =
    let a = c.args.array.now in
    let es = c.args.encodings.now in
    let ds = c.args.descriptors.now in
    let old = c.args.builder.now in
    let w0 = begun old c.table.new.self message_piece message_piece (root_link old.count ∷ descriptors_link old.count ∷ []) c.in_ok-root.ensures.written refl refl in
    awaited old message_piece _ _ _ c.table.new.self c.link.new.self w0 c.link.ensures.waits

pub link-requires-2-clause-idle : goal.link-requires-2-clause-idle
link-requires-2-clause-idle c =
    let a = c.args.array.now in
    let es = c.args.encodings.now in
    let ds = c.args.descriptors.now in
    let old = c.args.builder.now in
    let w0 = begun old c.table.new.self message_piece message_piece (root_link old.count ∷ descriptors_link old.count ∷ []) c.in_ok-root.ensures.written refl refl in
    let kids = node_pieces es 0 0 (wire codec no_session a) in
    let w1 = gone_on old message_piece _ _ [] c.table.new.self c.link.new.self c.write_node.new.builder kids w0 c.link.ensures.waits (c.in_ok-write_node.ensures.written no_session) in
    λ _. idle old message_piece _ _ c.write_node.new.builder w1

pub link-requires-2-clause-next : goal.link-requires-2-clause-next
link-requires-2-clause-next c =
    let a = c.args.array.now in
    let es = c.args.encodings.now in
    let ds = c.args.descriptors.now in
    let old = c.args.builder.now in
    let w0 = begun old c.table.new.self message_piece message_piece (root_link old.count ∷ descriptors_link old.count ∷ []) c.in_ok-root.ensures.written refl refl in
    let kids = node_pieces es 0 0 (wire codec no_session a) in
    let w1 = gone_on old message_piece _ _ [] c.table.new.self c.link.new.self c.write_node.new.builder kids w0 c.link.ensures.waits (c.in_ok-write_node.ensures.written no_session) in
    λ _. subst (λ n. IsNext c.write_node.new.builder.left n 1) (sym c.in_ok-root.ensures.number) (next_is old message_piece _ _ _ c.write_node.new.builder w1)

pub write_elements-requires-clause-takes : goal.write_elements-requires-clause-takes
write_elements-requires-clause-takes c =
    let a = c.args.array.now in
    let es = c.args.encodings.now in
    let ds = c.args.descriptors.now in
    let old = c.args.builder.now in
    let w0 = begun old c.table.new.self message_piece message_piece (root_link old.count ∷ descriptors_link old.count ∷ []) c.in_ok-root.ensures.written refl refl in
    let kids = node_pieces es 0 0 (wire codec no_session a) in
    let w1 = gone_on old message_piece _ _ [] c.table.new.self c.link.new.self c.write_node.new.builder kids w0 c.link.ensures.waits (c.in_ok-write_node.ensures.written no_session) in
    awaited old message_piece _ _ _ c.write_node.new.builder c.link-2.new.self w1 c.link-2.ensures.waits

pub write_elements-requires-clause-whole : goal.write_elements-requires-clause-whole
write_elements-requires-clause-whole c =
    let n = whole-descriptors c.args.descriptors.now c.requires.whole in
    omega (arith, n.1)

pub returns-in_err-root-clause-stopped : goal.returns-in_err-root-clause-stopped
returns-in_err-root-clause-stopped c = λ s.
    let p = err_from_is_err_and c.from_residual.result c.from_residual.ensures.1 in
    let a = c.args.array.now in
    let es = c.args.encodings.now in
    let ds = c.args.descriptors.now in
    let old = c.args.builder.now in
    rw (p.1, p.2)
    (subst (λ z. RefusesPieces old z c.in_err-root.field-0.0 c.table.new.self) (message-blocks es (wire codec s a) ds)
    (refused old c.table.new.self message_piece message_piece (node_pieces es 0 0 (wire codec s a) ++ (elements_piece 8 ds ∷ [])) c.in_err-root.field-0.0 refl c.in_err-root.ensures.refused))

pub returns-in_err-write_node-clause-stopped : goal.returns-in_err-write_node-clause-stopped
returns-in_err-write_node-clause-stopped c = λ s.
    let p = err_from_is_err_and c.from_residual-in_err-write_node.result c.from_residual-in_err-write_node.ensures.1 in
    let a = c.args.array.now in
    let es = c.args.encodings.now in
    let ds = c.args.descriptors.now in
    let old = c.args.builder.now in
    let w0 = begun old c.table.new.self message_piece message_piece (root_link old.count ∷ descriptors_link old.count ∷ []) c.in_ok-root.ensures.written refl refl in
    rw (p.1, p.2)
    (cut_short old message_piece _ [] c.table.new.self c.link.new.self c.write_node.new.builder (node_pieces es 0 0 (wire codec s a)) (elements_piece 8 ds ∷ []) (pieces array_schema (message_by es (wire codec s a) ds)) c.in_err-write_node.field-0.0
    w0 c.link.ensures.waits (c.in_err-write_node.ensures.stopped s) (message-blocks es (wire codec s a) ds))

pub returns-in_err-write_elements-clause-stopped : goal.returns-in_err-write_elements-clause-stopped
returns-in_err-write_elements-clause-stopped c = λ s.
    let p = err_from_is_err_and c.from_residual-in_err-write_elements.result c.from_residual-in_err-write_elements.ensures.1 in
    let a = c.args.array.now in
    let es = c.args.encodings.now in
    let ds = c.args.descriptors.now in
    let old = c.args.builder.now in
    let w0 = begun old c.table.new.self message_piece message_piece (root_link old.count ∷ descriptors_link old.count ∷ []) c.in_ok-root.ensures.written refl refl in
    let kids = node_pieces es 0 0 (wire codec s a) in
    let w1 = gone_on old message_piece _ _ [] c.table.new.self c.link.new.self c.write_node.new.builder kids w0 c.link.ensures.waits (c.in_ok-write_node.ensures.written s) in
    rw (p.1, p.2)
    (cut_short old message_piece _ kids c.write_node.new.builder c.link-2.new.self c.write_elements.new.builder (elements_piece 8 ds ∷ []) [] (pieces array_schema (message_by es (wire codec s a) ds)) c.in_err-write_elements.field-0.0
    w1 c.link-2.ensures.waits c.in_err-write_elements.ensures.stopped (message-blocks es (wire codec s a) ds))

pub returns-clause-written : goal.returns-clause-written
returns-clause-written c = λ s.
    let a = c.args.array.now in
    let es = c.args.encodings.now in
    let ds = c.args.descriptors.now in
    let old = c.args.builder.now in
    let w0 = begun old c.table.new.self message_piece message_piece (root_link old.count ∷ descriptors_link old.count ∷ []) c.in_ok-root.ensures.written refl refl in
    let kids = node_pieces es 0 0 (wire codec s a) in
    let w1 = gone_on old message_piece _ _ [] c.table.new.self c.link.new.self c.write_node.new.builder kids w0 c.link.ensures.waits (c.in_ok-write_node.ensures.written s) in
    let last = gone_on old message_piece _ [] kids c.write_node.new.builder c.link-2.new.self c.write_elements.new.builder (elements_piece 8 ds ∷ []) w1 c.link-2.ensures.waits c.in_ok-write_elements.ensures.written in
    subst (λ z. AreWritten old z c.write_elements.new.builder) (message-blocks es (wire codec s a) ds)
    (ended old message_piece (kids ++ (elements_piece 8 ds ∷ [])) c.write_elements.new.builder last c.in_ok-write_elements.ensures.written.fits)
