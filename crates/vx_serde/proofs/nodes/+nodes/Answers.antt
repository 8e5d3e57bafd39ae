use Rattle.std.proofs.Common.{◌≡◌, ◌∙◌, ◌+◌, ◌-◌, ◌≤◌, ◌<◌, [], ◌∷◌, ◌++◌, length, take, drop, suc, refl, ap, sym, subst, arith, append_assoc, append-nil}
use Rattle.std.proofs.lemmas.List.{take_all}
use Rattle.std.proofs.lemmas.Result.{err_from_is_err_and}
use Rattle.vx_flat.specs.declared.builder.piece.LinkKind.TheVariants as link
use Rattle.vx_flat.specs.Building.{IsNext, RefusesPieces, RefusesPiece, with_piece, element_links}
use Rattle.vx_flat.specs.Pieces.{elements_piece, links_piece}
use Rattle.vx_trees.specs.Rose.{label, below, roses_of, roses_list}
use Rattle.vx_trees.specs.Walks as walk
use Rattle.vx_trees.proofs.Counting.{nodes-is}
use Rattle.vx_trees.proofs.Lists.{roses_of-roses_list}
use Rattle.vx_wire_tree.specs.Wire.{buffers_in}
use Rattle.vx_wire_tree.specs.Written.{wire, wires}
use Rattle.vx_encodings.specs.Messages.{codec}
use Rattle.vx_flat.specs.Building.{AreWritten}
use Rattle.vx_serde.specs.Blocks.{node_pieces, children_pieces}
use Rattle.vx_wire_tree.specs.ReadBack.{IsStorableNode}
use Rattle.vx_scalar_wire.specs.StatsTable.{stats_pieces}
use Rattle.vx_flat.specs.Building.{IsPartWay}
use Rattle.vx_flat.proofs.LawsOfLinks.{begun, gone_on, cut_short, refused, next_is, idle, awaited, ended, next_left}
use Rattle.vx_serde.proofs.Gathered.{everywhere-next}
use Rattle.vx_serde.proofs.NodePieces.{node_piece, rows_of, rows-next, rows-split, whole-bytes}
use Rattle.vx_serde.proofs.NodeSteps.{nothing-written, buffers-split, node-is, counted-below, counted-list, nodes-split, nodes-up_to, nodes-all_of, wired-first, buffers-parts, buffers-up_to, buffers-all_of, children-whole, stored-node, stored-all}
use Rattle.vx_serde.proofs.NodeWays.{entry_is, way0, way1, way2, way3, way4}
use Rattle.vx_serde.proofs.WiredNodes.{no_session, wired, wired-length, wired-at, wired-within, own-room}
use Rattle.vx_serde.proofs.nodes.+nodes.Goals as goal

-- ---- a node

pub write_node-link-requires-clause-idle : goal.write_node-link-requires-clause-idle
write_node-link-requires-clause-idle t c =
    let a = c.args.array.now in
    let old = c.args.builder.now in
    let v = c.in_ok-parts.parts.encoding in
    let w0 = way0 old v c.table.new.self c.encoding_entry.result c.encoding_entry.ensures c.in_ok-node.ensures.written in
    λ _. idle old (node_piece v) _ _ c.table.new.self w0

pub write_node-link-requires-clause-next : goal.write_node-link-requires-clause-next
write_node-link-requires-clause-next t c =
    let a = c.args.array.now in
    let old = c.args.builder.now in
    let v = c.in_ok-parts.parts.encoding in
    let w0 = way0 old v c.table.new.self c.encoding_entry.result c.encoding_entry.ensures c.in_ok-node.ensures.written in
    λ _. subst (λ n. IsNext c.table.new.self.left n 1) (sym c.in_ok-node.ensures.number) (next_is old (node_piece v) _ _ _ c.table.new.self w0)

pub write_node-write_elements-requires-clause-takes : goal.write_node-write_elements-requires-clause-takes
write_node-write_elements-requires-clause-takes t c =
    let a = c.args.array.now in
    let old = c.args.builder.now in
    let v = c.in_ok-parts.parts.encoding in
    let w0 = way0 old v c.table.new.self c.encoding_entry.result c.encoding_entry.ensures c.in_ok-node.ensures.written in
    awaited old (node_piece v) _ _ _ c.table.new.self c.link.new.self w0 c.link.ensures.waits

pub write_node-link-requires-2-clause-idle : goal.write_node-link-requires-2-clause-idle
write_node-link-requires-2-clause-idle t c =
    let a = c.args.array.now in
    let old = c.args.builder.now in
    let v = c.in_ok-parts.parts.encoding in
    let m = c.as_slice.result.now in
    let w0 = way0 old v c.table.new.self c.encoding_entry.result c.encoding_entry.ensures c.in_ok-node.ensures.written in
    let w1 = way1 old v c.table.new.self c.link.new.self c.write_elements.new.builder m w0 c.link.ensures.waits c.in_ok-write_elements.ensures.written in
    λ _. idle old (node_piece v) _ _ c.write_elements.new.builder w1

pub write_node-link-requires-2-clause-next : goal.write_node-link-requires-2-clause-next
write_node-link-requires-2-clause-next t c =
    let a = c.args.array.now in
    let old = c.args.builder.now in
    let v = c.in_ok-parts.parts.encoding in
    let m = c.as_slice.result.now in
    let w0 = way0 old v c.table.new.self c.encoding_entry.result c.encoding_entry.ensures c.in_ok-node.ensures.written in
    let w1 = way1 old v c.table.new.self c.link.new.self c.write_elements.new.builder m w0 c.link.ensures.waits c.in_ok-write_elements.ensures.written in
    λ _. subst (λ n. IsNext c.write_elements.new.builder.left n 2) (sym c.in_ok-node.ensures.number) (next_is old (node_piece v) _ _ _ c.write_elements.new.builder w1)

pub write_node-write_nodes-requires : goal.write_node-write_nodes-requires
write_node-write_nodes-requires t c =
    let a = c.args.array.now in
    let old = c.args.builder.now in
    let v = c.in_ok-parts.parts.encoding in
    let m = c.as_slice.result.now in
    let w0 = way0 old v c.table.new.self c.encoding_entry.result c.encoding_entry.ensures c.in_ok-node.ensures.written in
    let w1 = way1 old v c.table.new.self c.link.new.self c.write_elements.new.builder m w0 c.link.ensures.waits c.in_ok-write_elements.ensures.written in
    let ts = c.children.result in
    let at = c.children.ensures.children in
    (omega (arith, counted-below a ts at), (awaited old (node_piece v) _ _ _ c.write_elements.new.builder c.link-2.new.self w1 c.link-2.ensures.waits, (omega (arith, c.requires.known, counted-below a ts at, c.in_ok-parts.ensures.nodes), (λ s. omega (arith, c.requires.few s, buffers-split s a ts at, c.in_ok-parts.ensures.buffers), omega (arith, c.requires.counted, counted-below a ts at)))))

pub write_node-link-requires-3-clause-idle : goal.write_node-link-requires-3-clause-idle
write_node-link-requires-3-clause-idle t c =
    let a = c.args.array.now in
    let old = c.args.builder.now in
    let v = c.in_ok-parts.parts.encoding in
    let m = c.as_slice.result.now in
    let w0 = way0 old v c.table.new.self c.encoding_entry.result c.encoding_entry.ensures c.in_ok-node.ensures.written in
    let w1 = way1 old v c.table.new.self c.link.new.self c.write_elements.new.builder m w0 c.link.ensures.waits c.in_ok-write_elements.ensures.written in
    let kids = children_pieces c.args.encodings.now c.node_parts.new.passed.nodes c.node_parts.new.passed.buffers (wires codec no_session (roses_of c.children.result)) in
    let w2 = way2 old v c.write_elements.new.builder c.link-2.new.self c.write_nodes.new.builder m kids w1 c.link-2.ensures.waits (c.in_ok-write_nodes.ensures.written no_session) in
    λ _. idle old (node_piece v) _ _ c.write_nodes.new.builder w2

pub write_node-link-requires-3-clause-next : goal.write_node-link-requires-3-clause-next
write_node-link-requires-3-clause-next t c =
    let a = c.args.array.now in
    let old = c.args.builder.now in
    let v = c.in_ok-parts.parts.encoding in
    let m = c.as_slice.result.now in
    let w0 = way0 old v c.table.new.self c.encoding_entry.result c.encoding_entry.ensures c.in_ok-node.ensures.written in
    let w1 = way1 old v c.table.new.self c.link.new.self c.write_elements.new.builder m w0 c.link.ensures.waits c.in_ok-write_elements.ensures.written in
    let kids = children_pieces c.args.encodings.now c.node_parts.new.passed.nodes c.node_parts.new.passed.buffers (wires codec no_session (roses_of c.children.result)) in
    let w2 = way2 old v c.write_elements.new.builder c.link-2.new.self c.write_nodes.new.builder m kids w1 c.link-2.ensures.waits (c.in_ok-write_nodes.ensures.written no_session) in
    λ _. subst (λ n. IsNext c.write_nodes.new.builder.left n 3) (sym c.in_ok-node.ensures.number) (next_is old (node_piece v) _ _ _ c.write_nodes.new.builder w2)

pub write_node-write_elements-requires-2-clause-takes : goal.write_node-write_elements-requires-2-clause-takes
write_node-write_elements-requires-2-clause-takes t c =
    let a = c.args.array.now in
    let old = c.args.builder.now in
    let v = c.in_ok-parts.parts.encoding in
    let m = c.as_slice.result.now in
    let w0 = way0 old v c.table.new.self c.encoding_entry.result c.encoding_entry.ensures c.in_ok-node.ensures.written in
    let w1 = way1 old v c.table.new.self c.link.new.self c.write_elements.new.builder m w0 c.link.ensures.waits c.in_ok-write_elements.ensures.written in
    let kids = children_pieces c.args.encodings.now c.node_parts.new.passed.nodes c.node_parts.new.passed.buffers (wires codec no_session (roses_of c.children.result)) in
    let w2 = way2 old v c.write_elements.new.builder c.link-2.new.self c.write_nodes.new.builder m kids w1 c.link-2.ensures.waits (c.in_ok-write_nodes.ensures.written no_session) in
    awaited old (node_piece v) _ _ _ c.write_nodes.new.builder c.link-3.new.self w2 c.link-3.ensures.waits

pub write_node-link-requires-4-clause-idle : goal.write_node-link-requires-4-clause-idle
write_node-link-requires-4-clause-idle t c =
    let a = c.args.array.now in
    let old = c.args.builder.now in
    let v = c.in_ok-parts.parts.encoding in
    let m = c.as_slice.result.now in
    let w0 = way0 old v c.table.new.self c.encoding_entry.result c.encoding_entry.ensures c.in_ok-node.ensures.written in
    let w1 = way1 old v c.table.new.self c.link.new.self c.write_elements.new.builder m w0 c.link.ensures.waits c.in_ok-write_elements.ensures.written in
    let kids = children_pieces c.args.encodings.now c.node_parts.new.passed.nodes c.node_parts.new.passed.buffers (wires codec no_session (roses_of c.children.result)) in
    let w2 = way2 old v c.write_elements.new.builder c.link-2.new.self c.write_nodes.new.builder m kids w1 c.link-2.ensures.waits (c.in_ok-write_nodes.ensures.written no_session) in
    let bytes = c.deref.result.now in
    let w3 = way3 old v c.write_nodes.new.builder c.link-3.new.self c.write_elements-2.new.builder m bytes kids w2 c.link-3.ensures.waits c.in_ok-write_elements-2.ensures.written in
    λ _. idle old (node_piece v) _ _ c.write_elements-2.new.builder w3

pub write_node-link-requires-4-clause-next : goal.write_node-link-requires-4-clause-next
write_node-link-requires-4-clause-next t c =
    let a = c.args.array.now in
    let old = c.args.builder.now in
    let v = c.in_ok-parts.parts.encoding in
    let m = c.as_slice.result.now in
    let w0 = way0 old v c.table.new.self c.encoding_entry.result c.encoding_entry.ensures c.in_ok-node.ensures.written in
    let w1 = way1 old v c.table.new.self c.link.new.self c.write_elements.new.builder m w0 c.link.ensures.waits c.in_ok-write_elements.ensures.written in
    let kids = children_pieces c.args.encodings.now c.node_parts.new.passed.nodes c.node_parts.new.passed.buffers (wires codec no_session (roses_of c.children.result)) in
    let w2 = way2 old v c.write_elements.new.builder c.link-2.new.self c.write_nodes.new.builder m kids w1 c.link-2.ensures.waits (c.in_ok-write_nodes.ensures.written no_session) in
    let bytes = c.deref.result.now in
    let w3 = way3 old v c.write_nodes.new.builder c.link-3.new.self c.write_elements-2.new.builder m bytes kids w2 c.link-3.ensures.waits c.in_ok-write_elements-2.ensures.written in
    λ _. subst (λ n. IsNext c.write_elements-2.new.builder.left n 4) (sym c.in_ok-node.ensures.number) (next_is old (node_piece v) _ _ _ c.write_elements-2.new.builder w3)

pub write_node-write_statistics-requires : goal.write_node-write_statistics-requires
write_node-write_statistics-requires t c =
    let a = c.args.array.now in
    let old = c.args.builder.now in
    let v = c.in_ok-parts.parts.encoding in
    let m = c.as_slice.result.now in
    let w0 = way0 old v c.table.new.self c.encoding_entry.result c.encoding_entry.ensures c.in_ok-node.ensures.written in
    let w1 = way1 old v c.table.new.self c.link.new.self c.write_elements.new.builder m w0 c.link.ensures.waits c.in_ok-write_elements.ensures.written in
    let kids = children_pieces c.args.encodings.now c.node_parts.new.passed.nodes c.node_parts.new.passed.buffers (wires codec no_session (roses_of c.children.result)) in
    let w2 = way2 old v c.write_elements.new.builder c.link-2.new.self c.write_nodes.new.builder m kids w1 c.link-2.ensures.waits (c.in_ok-write_nodes.ensures.written no_session) in
    let bytes = c.deref.result.now in
    let w3 = way3 old v c.write_nodes.new.builder c.link-3.new.self c.write_elements-2.new.builder m bytes kids w2 c.link-3.ensures.waits c.in_ok-write_elements-2.ensures.written in
    record { takes = awaited old (node_piece v) _ _ _ c.write_elements-2.new.builder c.link-4.new.self w3 c.link-4.ensures.waits }

pub write_node-node_parts-requires-clause-known : goal.write_node-node_parts-requires-clause-known
write_node-node_parts-requires-clause-known t c =
    omega (arith, c.requires.known, nodes-is c.args.array.now)

pub write_node-node_parts-requires-clause-few : goal.write_node-node_parts-requires-clause-few
write_node-node_parts-requires-clause-few t c =
    omega (arith, c.requires.few no_session, own-room no_session c.args.array.now)

pub write_node-write_elements-requires-2-clause-whole : goal.write_node-write_elements-requires-2-clause-whole
write_node-write_elements-requires-2-clause-whole t c =
    whole-bytes _ _ c.deref.result.now (c.deref.ensures.value ∙ c.in_ok-parts.ensures.numbers)

pub write_node-returns-in_err-parts-clause-stopped : goal.write_node-returns-in_err-parts-clause-stopped
write_node-returns-in_err-parts-clause-stopped t c = λ s.
    let p = err_from_is_err_and c.from_residual.result c.from_residual.ensures.1 in
    rw (p.1, p.2)
    (nothing-written (node_pieces c.args.encodings.now c.args.passed.now.nodes c.args.passed.now.buffers (wire codec s c.args.array.now)) c.args.builder.now c.in_err-parts.field-0.0 c.in_err-parts.ensures.err)

pub write_node-returns-in_err-node-clause-stopped : goal.write_node-returns-in_err-node-clause-stopped
write_node-returns-in_err-node-clause-stopped t c = λ s.
    let p = err_from_is_err_and c.from_residual-in_err-node.result c.from_residual-in_err-node.ensures.1 in
    let a = c.args.array.now in
    let old = c.args.builder.now in
    let v = c.in_ok-parts.parts.encoding in
    let whole = node-is s a (roses_list (below a)) (roses_of-roses_list (below a)) c.args.encodings.now c.args.passed.now.nodes c.args.passed.now.buffers c.node_parts.new.passed.nodes c.node_parts.new.passed.buffers v c.in_ok-parts.parts.metadata c.in_ok-parts.parts.buffers.items
    c.in_ok-parts.ensures.encoding c.in_ok-parts.ensures.metadata c.in_ok-parts.ensures.numbers c.in_ok-parts.ensures.nodes c.in_ok-parts.ensures.buffers in
    rw (p.1, p.2)
    (subst (λ z. RefusesPieces old z c.in_err-node.field-0.0 c.table.new.self) whole
    (refused old c.table.new.self (node_piece v) _ _ c.in_err-node.field-0.0 (entry_is c.encoding_entry.result v c.encoding_entry.ensures) c.in_err-node.ensures.refused))

pub write_node-returns-in_err-write_elements-clause-stopped : goal.write_node-returns-in_err-write_elements-clause-stopped
write_node-returns-in_err-write_elements-clause-stopped t c = λ s.
    let p = err_from_is_err_and c.from_residual-in_err-write_elements.result c.from_residual-in_err-write_elements.ensures.1 in
    let a = c.args.array.now in
    let old = c.args.builder.now in
    let v = c.in_ok-parts.parts.encoding in
    let m = c.as_slice.result.now in
    let w0 = way0 old v c.table.new.self c.encoding_entry.result c.encoding_entry.ensures c.in_ok-node.ensures.written in
    let kids = children_pieces c.args.encodings.now c.node_parts.new.passed.nodes c.node_parts.new.passed.buffers (wires codec s (roses_of (roses_list (below a)))) in
    let whole = node-is s a (roses_list (below a)) (roses_of-roses_list (below a)) c.args.encodings.now c.args.passed.now.nodes c.args.passed.now.buffers c.node_parts.new.passed.nodes c.node_parts.new.passed.buffers v c.in_ok-parts.parts.metadata c.in_ok-parts.parts.buffers.items
    c.in_ok-parts.ensures.encoding c.in_ok-parts.ensures.metadata c.in_ok-parts.ensures.numbers c.in_ok-parts.ensures.nodes c.in_ok-parts.ensures.buffers in
    rw (p.1, p.2)
    (cut_short old (node_piece v) _ [] c.table.new.self c.link.new.self c.write_elements.new.builder (elements_piece 1 m ∷ []) (kids ++ (elements_piece 2 c.in_ok-parts.parts.buffers.items ∷ stats_pieces (label a).stats)) (node_pieces c.args.encodings.now c.args.passed.now.nodes c.args.passed.now.buffers (wire codec s a)) c.in_err-write_elements.field-0.0
    w0 c.link.ensures.waits c.in_err-write_elements.ensures.stopped
    (ap (λ z. node_piece v ∷ (elements_piece 1 z ∷ (kids ++ (elements_piece 2 c.in_ok-parts.parts.buffers.items ∷ stats_pieces (label a).stats)))) c.as_slice.ensures ∙ whole))

pub write_node-returns-in_err-write_nodes-clause-stopped : goal.write_node-returns-in_err-write_nodes-clause-stopped
write_node-returns-in_err-write_nodes-clause-stopped t c = λ s.
    let p = err_from_is_err_and c.from_residual-in_err-write_nodes.result c.from_residual-in_err-write_nodes.ensures.1 in
    let a = c.args.array.now in
    let old = c.args.builder.now in
    let v = c.in_ok-parts.parts.encoding in
    let m = c.as_slice.result.now in
    let w0 = way0 old v c.table.new.self c.encoding_entry.result c.encoding_entry.ensures c.in_ok-node.ensures.written in
    let w1 = way1 old v c.table.new.self c.link.new.self c.write_elements.new.builder m w0 c.link.ensures.waits c.in_ok-write_elements.ensures.written in
    let kids = children_pieces c.args.encodings.now c.node_parts.new.passed.nodes c.node_parts.new.passed.buffers (wires codec s (roses_of c.children.result)) in
    let whole = node-is s a c.children.result c.children.ensures.children c.args.encodings.now c.args.passed.now.nodes c.args.passed.now.buffers c.node_parts.new.passed.nodes c.node_parts.new.passed.buffers v c.in_ok-parts.parts.metadata c.in_ok-parts.parts.buffers.items
    c.in_ok-parts.ensures.encoding c.in_ok-parts.ensures.metadata c.in_ok-parts.ensures.numbers c.in_ok-parts.ensures.nodes c.in_ok-parts.ensures.buffers in
    rw (p.1, p.2)
    (cut_short old (node_piece v) _ (elements_piece 1 m ∷ []) c.write_elements.new.builder c.link-2.new.self c.write_nodes.new.builder kids (elements_piece 2 c.in_ok-parts.parts.buffers.items ∷ stats_pieces (label a).stats) (node_pieces c.args.encodings.now c.args.passed.now.nodes c.args.passed.now.buffers (wire codec s a)) c.in_err-write_nodes.field-0.0
    w1 c.link-2.ensures.waits (c.in_err-write_nodes.ensures.stopped s)
    (ap (λ z. node_piece v ∷ (elements_piece 1 z ∷ (kids ++ (elements_piece 2 c.in_ok-parts.parts.buffers.items ∷ stats_pieces (label a).stats)))) c.as_slice.ensures ∙ whole))

pub write_node-returns-in_err-write_elements-2-clause-stopped : goal.write_node-returns-in_err-write_elements-2-clause-stopped
write_node-returns-in_err-write_elements-2-clause-stopped t c = λ s.
    let p = err_from_is_err_and c.from_residual-in_err-write_elements-2.result c.from_residual-in_err-write_elements-2.ensures.1 in
    let a = c.args.array.now in
    let old = c.args.builder.now in
    let v = c.in_ok-parts.parts.encoding in
    let m = c.as_slice.result.now in
    let w0 = way0 old v c.table.new.self c.encoding_entry.result c.encoding_entry.ensures c.in_ok-node.ensures.written in
    let w1 = way1 old v c.table.new.self c.link.new.self c.write_elements.new.builder m w0 c.link.ensures.waits c.in_ok-write_elements.ensures.written in
    let kids = children_pieces c.args.encodings.now c.node_parts.new.passed.nodes c.node_parts.new.passed.buffers (wires codec s (roses_of c.children.result)) in
    let w2 = way2 old v c.write_elements.new.builder c.link-2.new.self c.write_nodes.new.builder m kids w1 c.link-2.ensures.waits (c.in_ok-write_nodes.ensures.written s) in
    let bytes = c.deref.result.now in
    let whole = node-is s a c.children.result c.children.ensures.children c.args.encodings.now c.args.passed.now.nodes c.args.passed.now.buffers c.node_parts.new.passed.nodes c.node_parts.new.passed.buffers v c.in_ok-parts.parts.metadata c.in_ok-parts.parts.buffers.items
    c.in_ok-parts.ensures.encoding c.in_ok-parts.ensures.metadata c.in_ok-parts.ensures.numbers c.in_ok-parts.ensures.nodes c.in_ok-parts.ensures.buffers in
    let same : node_piece v ∷ (elements_piece 1 m ∷ (kids ++ (elements_piece 2 bytes ∷ stats_pieces (label a).stats))) ≡ node_pieces c.args.encodings.now c.args.passed.now.nodes c.args.passed.now.buffers (wire codec s a) =
    (λ k. node_piece v ∷ (elements_piece 1 (c.as_slice.ensures k) ∷ (kids ++ (elements_piece 2 (c.deref.ensures.value k) ∷ stats_pieces (label a).stats)))) ∙ whole in
    rw (p.1, p.2)
    (cut_short old (node_piece v) _ (elements_piece 1 m ∷ kids) c.write_nodes.new.builder c.link-3.new.self c.write_elements-2.new.builder (elements_piece 2 bytes ∷ []) (stats_pieces (label a).stats) (node_pieces c.args.encodings.now c.args.passed.now.nodes c.args.passed.now.buffers (wire codec s a)) c.in_err-write_elements-2.field-0.0
    w2 c.link-3.ensures.waits c.in_err-write_elements-2.ensures.stopped same)

pub write_node-returns-in_err-write_statistics-clause-stopped : goal.write_node-returns-in_err-write_statistics-clause-stopped
write_node-returns-in_err-write_statistics-clause-stopped t c = λ s.
    let p = err_from_is_err_and c.from_residual-in_err-write_statistics.result c.from_residual-in_err-write_statistics.ensures.1 in
    let a = c.args.array.now in
    let old = c.args.builder.now in
    let v = c.in_ok-parts.parts.encoding in
    let m = c.as_slice.result.now in
    let w0 = way0 old v c.table.new.self c.encoding_entry.result c.encoding_entry.ensures c.in_ok-node.ensures.written in
    let w1 = way1 old v c.table.new.self c.link.new.self c.write_elements.new.builder m w0 c.link.ensures.waits c.in_ok-write_elements.ensures.written in
    let kids = children_pieces c.args.encodings.now c.node_parts.new.passed.nodes c.node_parts.new.passed.buffers (wires codec s (roses_of c.children.result)) in
    let w2 = way2 old v c.write_elements.new.builder c.link-2.new.self c.write_nodes.new.builder m kids w1 c.link-2.ensures.waits (c.in_ok-write_nodes.ensures.written s) in
    let bytes = c.deref.result.now in
    let w3 = way3 old v c.write_nodes.new.builder c.link-3.new.self c.write_elements-2.new.builder m bytes kids w2 c.link-3.ensures.waits c.in_ok-write_elements-2.ensures.written in
    let whole = node-is s a c.children.result c.children.ensures.children c.args.encodings.now c.args.passed.now.nodes c.args.passed.now.buffers c.node_parts.new.passed.nodes c.node_parts.new.passed.buffers v c.in_ok-parts.parts.metadata c.in_ok-parts.parts.buffers.items
    c.in_ok-parts.ensures.encoding c.in_ok-parts.ensures.metadata c.in_ok-parts.ensures.numbers c.in_ok-parts.ensures.nodes c.in_ok-parts.ensures.buffers in
    let same : node_piece v ∷ (elements_piece 1 m ∷ (kids ++ (elements_piece 2 bytes ∷ stats_pieces (label a).stats))) ≡ node_pieces c.args.encodings.now c.args.passed.now.nodes c.args.passed.now.buffers (wire codec s a) =
    (λ k. node_piece v ∷ (elements_piece 1 (c.as_slice.ensures k) ∷ (kids ++ (elements_piece 2 (c.deref.ensures.value k) ∷ stats_pieces (label a).stats)))) ∙ whole in
    rw (p.1, p.2)
    (cut_short old (node_piece v) _ (elements_piece 1 m ∷ (kids ++ elements_piece 2 bytes ∷ [])) c.write_elements-2.new.builder c.link-4.new.self c.write_statistics.new.builder (stats_pieces (label a).stats) [] (node_pieces c.args.encodings.now c.args.passed.now.nodes c.args.passed.now.buffers (wire codec s a)) c.in_err-write_statistics.field-0.0
    w3 c.link-4.ensures.waits c.in_err-write_statistics.ensures.stopped
    (ap (λ z. node_piece v ∷ (elements_piece 1 m ∷ ((kids ++ elements_piece 2 bytes ∷ []) ++ z))) (append-nil (stats_pieces (label a).stats))
    ∙ ap (λ z. node_piece v ∷ (elements_piece 1 m ∷ z)) (append_assoc kids (elements_piece 2 bytes ∷ []) (stats_pieces (label a).stats)) ∙ same))

pub write_node-returns-clause-written : goal.write_node-returns-clause-written
write_node-returns-clause-written t c = λ s.
    let a = c.args.array.now in
    let old = c.args.builder.now in
    let v = c.in_ok-parts.parts.encoding in
    let m = c.as_slice.result.now in
    let w0 = way0 old v c.table.new.self c.encoding_entry.result c.encoding_entry.ensures c.in_ok-node.ensures.written in
    let w1 = way1 old v c.table.new.self c.link.new.self c.write_elements.new.builder m w0 c.link.ensures.waits c.in_ok-write_elements.ensures.written in
    let kids = children_pieces c.args.encodings.now c.node_parts.new.passed.nodes c.node_parts.new.passed.buffers (wires codec s (roses_of c.children.result)) in
    let w2 = way2 old v c.write_elements.new.builder c.link-2.new.self c.write_nodes.new.builder m kids w1 c.link-2.ensures.waits (c.in_ok-write_nodes.ensures.written s) in
    let bytes = c.deref.result.now in
    let w3 = way3 old v c.write_nodes.new.builder c.link-3.new.self c.write_elements-2.new.builder m bytes kids w2 c.link-3.ensures.waits c.in_ok-write_elements-2.ensures.written in
    let whole = node-is s a c.children.result c.children.ensures.children c.args.encodings.now c.args.passed.now.nodes c.args.passed.now.buffers c.node_parts.new.passed.nodes c.node_parts.new.passed.buffers v c.in_ok-parts.parts.metadata c.in_ok-parts.parts.buffers.items
    c.in_ok-parts.ensures.encoding c.in_ok-parts.ensures.metadata c.in_ok-parts.ensures.numbers c.in_ok-parts.ensures.nodes c.in_ok-parts.ensures.buffers in
    let same : node_piece v ∷ (elements_piece 1 m ∷ (kids ++ (elements_piece 2 bytes ∷ stats_pieces (label a).stats))) ≡ node_pieces c.args.encodings.now c.args.passed.now.nodes c.args.passed.now.buffers (wire codec s a) =
    (λ k. node_piece v ∷ (elements_piece 1 (c.as_slice.ensures k) ∷ (kids ++ (elements_piece 2 (c.deref.ensures.value k) ∷ stats_pieces (label a).stats)))) ∙ whole in
    subst (λ z. AreWritten old z c.write_statistics.new.builder) same
    (way4 old v c.write_elements-2.new.builder c.link-4.new.self c.write_statistics.new.builder m bytes kids (stats_pieces (label a).stats) w3 c.link-4.ensures.waits c.in_ok-write_statistics.ensures.written)

pub write_node-returns-clause-nodes : goal.write_node-returns-clause-nodes
write_node-returns-clause-nodes t c =
    omega (arith, counted-below c.args.array.now c.children.result c.children.ensures.children, c.in_ok-parts.ensures.nodes, c.in_ok-write_nodes.ensures.nodes)

pub write_node-returns-clause-buffers : goal.write_node-returns-clause-buffers
write_node-returns-clause-buffers t c = λ s.
    omega (arith, buffers-split s c.args.array.now c.children.result c.children.ensures.children, c.in_ok-parts.ensures.buffers, c.in_ok-write_nodes.ensures.buffers s)

pub write_node-returns-clause-storable : goal.write_node-returns-clause-storable
write_node-returns-clause-storable t c =
    stored-node c.args.array.now c.children.result c.children.ensures.children c.in_ok-write_statistics.ensures.storable c.in_ok-write_nodes.ensures.storable

-- ---- the nodes below one

pub write_nodes-overflow_cast-len : goal.write_nodes-overflow_cast-len
write_nodes-overflow_cast-len t c =
    omega (arith, counted-list c.args.arrays.now, c.requires.counted, c.len.ensures)

pub write_nodes-loop-i-init : goal.write_nodes-loop-i-init
write_nodes-loop-i-init t c =
    let ts = c.args.arrays.now in
    let es = c.args.encodings.now in
    let old = c.args.builder.now in
    let k = c.args.passed.now.nodes in
    let first = c.args.passed.now.buffers in
    let p = links_piece link.Table (length ts) in
    let all : length ts ≡ length ts - 0 = omega arith in
    record {
      places = omega arith;
      count = λ s. omega arith;
      so_far = λ s. begun old c.vector.new.self p p _ (subst (λ n. c.vector.new.self ≡ with_piece old (links_piece link.Table n)) c.len.ensures c.in_ok-vector.ensures.written) refl (ap (λ m. element_links old.count 0 link.Table m) all);
      stored = tt;
      fits = c.in_ok-vector.ensures.fits refl;
      numbered = c.in_ok-vector.ensures.number;
    }

pub write_nodes-link-requires-clause-idle : goal.write_nodes-link-requires-clause-idle
write_nodes-link-requires-clause-idle t c =
    let ts = c.args.arrays.now in
    let es = c.args.encodings.now in
    let old = c.args.builder.now in
    let k = c.args.passed.now.nodes in
    let first = c.args.passed.now.buffers in
    let p = links_piece link.Table (length ts) in
    let i = c.loop-i.i in
    let now = c.loop-i.builder in
    λ _. idle old _ _ _ now (c.loop-i.invariant.so_far no_session)

pub write_nodes-link-requires-clause-next : goal.write_nodes-link-requires-clause-next
write_nodes-link-requires-clause-next t c =
    let ts = c.args.arrays.now in
    let es = c.args.encodings.now in
    let old = c.args.builder.now in
    let k = c.args.passed.now.nodes in
    let first = c.args.passed.now.buffers in
    let p = links_piece link.Table (length ts) in
    let i = c.loop-i.i in
    let now = c.loop-i.builder in
    let lt : i < length ts = omega (arith, c.loop-i-test.true, c.len-i-end.ensures) in
    let way = next_left old link.Table (length ts) i (rows_of es k first (take i (wired no_session ts))) now lt (c.loop-i.invariant.so_far no_session) in
    λ _. subst (λ n. IsNext now.left n i) (sym c.loop-i.invariant.numbered) (next_is old _ _ _ _ now way)

pub write_nodes-write_node-requires : goal.write_nodes-write_node-requires
write_nodes-write_node-requires t c =
    let ts = c.args.arrays.now in
    let es = c.args.encodings.now in
    let old = c.args.builder.now in
    let k = c.args.passed.now.nodes in
    let first = c.args.passed.now.buffers in
    let p = links_piece link.Table (length ts) in
    let i = c.loop-i.i in
    let now = c.loop-i.builder in
    let lt : i < length ts = omega (arith, c.loop-i-test.true, c.len-i-end.ensures) in
    let u = c.get-node.result in
    let is = c.get-node.ensures in
    let way = next_left old link.Table (length ts) i (rows_of es k first (take i (wired no_session ts))) now lt (c.loop-i.invariant.so_far no_session) in
    let split = nodes-split ts i u lt is in (
      omega (arith, split),
      (
        awaited old _ _ _ _ now c.link.new.self way c.link.ensures.waits,
        (
          omega (arith, split, c.requires.known, c.loop-i.invariant.places),
          (λ s. omega (arith, c.requires.few s, c.loop-i.invariant.count s, buffers-parts s ts i u lt is), omega (arith, split, c.requires.counted)),
        ),
      ),
    )

pub write_nodes-returns-in_err-vector-clause-stopped : goal.write_nodes-returns-in_err-vector-clause-stopped
write_nodes-returns-in_err-vector-clause-stopped t c = λ s.
    let q = err_from_is_err_and c.from_residual.result c.from_residual.ensures.1 in
    let ts = c.args.arrays.now in
    let es = c.args.encodings.now in
    let old = c.args.builder.now in
    let k = c.args.passed.now.nodes in
    let first = c.args.passed.now.buffers in
    let p = links_piece link.Table (length ts) in
    rw (q.1, q.2)
    (subst (λ z. RefusesPieces old z c.in_err-vector.field-0.0 c.vector.new.self) (children-whole s ts es k first)
    (refused old c.vector.new.self p p (rows_of es k first (wired s ts)) c.in_err-vector.field-0.0 refl (subst (λ n. RefusesPiece old (links_piece link.Table n) c.in_err-vector.field-0.0 c.vector.new.self) c.len.ensures c.in_err-vector.ensures.refused)))

pub write_nodes-returns-in_err-write_node-clause-stopped : goal.write_nodes-returns-in_err-write_node-clause-stopped
write_nodes-returns-in_err-write_node-clause-stopped t c = λ s.
    let q = err_from_is_err_and c.from_residual-in_err-write_node.result c.from_residual-in_err-write_node.ensures.1 in
    let ts = c.args.arrays.now in
    let es = c.args.encodings.now in
    let old = c.args.builder.now in
    let k = c.args.passed.now.nodes in
    let first = c.args.passed.now.buffers in
    let p = links_piece link.Table (length ts) in
    let i = c.loop-i.i in
    let now = c.loop-i.builder in
    let lt : i < length ts = omega (arith, c.loop-i-test.true, c.len-i-end.ensures) in
    let u = c.get-node.result in
    let is = c.get-node.ensures in
    let way = next_left old link.Table (length ts) i (rows_of es k first (take i (wired s ts))) now lt (c.loop-i.invariant.so_far s) in
    let places = c.loop-i.invariant.places ∙ ap (λ n. k + n) (sym (wired-first s ts i)) in
    rw (q.1, q.2)
    (cut_short old p _ (rows_of es k first (take i (wired s ts))) now c.link.new.self c.write_node.new.builder (node_pieces es c.loop-i.passed.nodes c.loop-i.passed.buffers (wire codec s u))
    (rows_of es (c.loop-i.passed.nodes + walk.nodes (wire codec s u)) (c.loop-i.passed.buffers + length (buffers_in (wire codec s u))) (drop (suc i) (wired s ts))) (children_pieces es k first (wires codec s (roses_of ts))) c.in_err-write_node.field-0.0
    way c.link.ensures.waits (c.in_err-write_node.ensures.stopped s)
    (ap (λ z. p ∷ z) (rows-split es k first c.loop-i.passed.nodes c.loop-i.passed.buffers (wired s ts) i (wire codec s u) (wired-within s ts i lt) (wired-at s ts i u lt is) places (c.loop-i.invariant.count s))
    ∙ children-whole s ts es k first))

pub write_nodes-loop-i-preserved : goal.write_nodes-loop-i-preserved
write_nodes-loop-i-preserved t c =
    let ts = c.args.arrays.now in
    let es = c.args.encodings.now in
    let old = c.args.builder.now in
    let k = c.args.passed.now.nodes in
    let first = c.args.passed.now.buffers in
    let p = links_piece link.Table (length ts) in
    let i = c.loop-i.i in
    let now = c.loop-i.builder in
    let lt : i < length ts = omega (arith, c.loop-i-test.true, c.len-i-end.ensures) in
    let u = c.get-node.result in
    let is = c.get-node.ensures in
    record {
      places = omega (arith, c.in_ok-write_node.ensures.nodes, c.loop-i.invariant.places, nodes-up_to ts i u lt is);
      count = λ s. omega (arith, c.in_ok-write_node.ensures.buffers s, c.loop-i.invariant.count s, buffers-up_to s ts i u lt is);
      so_far = λ s.
          let way = next_left old link.Table (length ts) i (rows_of es k first (take i (wired s ts))) now lt (c.loop-i.invariant.so_far s) in
          let places = c.loop-i.invariant.places ∙ ap (λ n. k + n) (sym (wired-first s ts i)) in
          let more = gone_on old p _ _ (rows_of es k first (take i (wired s ts))) now c.link.new.self c.write_node.new.builder (node_pieces es c.loop-i.passed.nodes c.loop-i.passed.buffers (wire codec s u)) way c.link.ensures.waits (c.in_ok-write_node.ensures.written s) in
          subst (λ ps. IsPartWay old p (element_links old.count (i + 1) link.Table (length ts - (i + 1))) ps c.write_node.new.builder)
          (sym (rows-next es k first c.loop-i.passed.nodes c.loop-i.passed.buffers (wired s ts) i (wire codec s u) (wired-within s ts i lt) (wired-at s ts i u lt is) places (c.loop-i.invariant.count s))) more;
      stored = everywhere-next (IsStorableNode codec) ts i u lt is c.loop-i.invariant.stored c.in_ok-write_node.ensures.storable;
      fits = (c.in_ok-write_node.ensures.written no_session).fits;
      numbered = c.loop-i.invariant.numbered;
    }

pub write_nodes-returns-clause-nodes : goal.write_nodes-returns-clause-nodes
write_nodes-returns-clause-nodes t c =
    let ts = c.args.arrays.now in
    let es = c.args.encodings.now in
    let old = c.args.builder.now in
    let k = c.args.passed.now.nodes in
    let first = c.args.passed.now.buffers in
    let p = links_piece link.Table (length ts) in
    let i = c.loop-i.i in
    let now = c.loop-i.builder in
    let past : length ts ≤ i = omega (arith, c.loop-i-test.false, c.len-i-end.ensures) in
    omega (arith, c.loop-i.invariant.places, nodes-all_of ts i past)

pub write_nodes-returns-clause-buffers : goal.write_nodes-returns-clause-buffers
write_nodes-returns-clause-buffers t c = λ s.
    let ts = c.args.arrays.now in
    let es = c.args.encodings.now in
    let old = c.args.builder.now in
    let k = c.args.passed.now.nodes in
    let first = c.args.passed.now.buffers in
    let p = links_piece link.Table (length ts) in
    let i = c.loop-i.i in
    let now = c.loop-i.builder in
    let past : length ts ≤ i = omega (arith, c.loop-i-test.false, c.len-i-end.ensures) in
    omega (arith, c.loop-i.invariant.count s, buffers-all_of s ts i past)

pub write_nodes-returns-clause-written : goal.write_nodes-returns-clause-written
write_nodes-returns-clause-written t c = λ s.
    let ts = c.args.arrays.now in
    let es = c.args.encodings.now in
    let old = c.args.builder.now in
    let k = c.args.passed.now.nodes in
    let first = c.args.passed.now.buffers in
    let p = links_piece link.Table (length ts) in
    let i = c.loop-i.i in
    let now = c.loop-i.builder in
    let past : length ts ≤ i = omega (arith, c.loop-i-test.false, c.len-i-end.ensures) in
    let none : length ts - i ≡ 0 = omega (arith, past) in
    let last : IsPartWay old p [] (rows_of es k first (wired s ts)) now =
    subst (λ us. IsPartWay old p [] (rows_of es k first us) now) (take_all i (wired s ts) (omega (arith, past, wired-length s ts)))
    (subst (λ m. IsPartWay old p (element_links old.count i link.Table m) (rows_of es k first (take i (wired s ts))) now) none (c.loop-i.invariant.so_far s)) in
    subst (λ z. AreWritten old z now) (children-whole s ts es k first) (ended old p (rows_of es k first (wired s ts)) now last c.loop-i.invariant.fits)

pub write_nodes-returns-clause-storable : goal.write_nodes-returns-clause-storable
write_nodes-returns-clause-storable t c =
    let ts = c.args.arrays.now in
    stored-all ts c.loop-i.i (omega (arith, c.loop-i-test.false, c.len-i-end.ensures)) c.loop-i.invariant.stored
