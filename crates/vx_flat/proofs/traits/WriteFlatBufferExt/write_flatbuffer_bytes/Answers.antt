use Rattle.std.proofs.Common.{◌≡◌, ◌<◌, ◌∙◌, ap, sym, subst, false, true, refl}
use Rattle.vx_flat.specs.Building.{Built, nothing_by, with_pieces}
use Rattle.vx_flat.specs.Layout.{layout}
use Rattle.vx_flat.specs.Pieces.{pieces, table_piece, entries, fields_pieces}
use Rattle.vx_flat.specs.Schema.{fields_of}
use Rattle.vx_flat.proofs.Continuing.{runs_work, runs_idle, runs_some, runs_share}
use Rattle.vx_flat.proofs.traits.WriteFlatBufferExt.write_flatbuffer_bytes.Goals as goal

pub finish-requires-clause-written : goal.finish-requires-clause-written
finish-requires-clause-written g c = λ _.
    let s = g.Self.Kind.TableKind.schema in
    let ks = fields_of s s.root in
    let v = g.Self.WriteFlatBuffer.table c.args.self.now in
    subst (λ (b : Built). 0 < b.count) (sym c.in_ok-write_flatbuffer.ensures.written.blocks)
    (runs_some c.new-builder.result (table_piece (entries ks v)) (fields_pieces s ks v))

pub finish-requires-clause-idle : goal.finish-requires-clause-idle
finish-requires-clause-idle g c = λ _.
    let s = g.Self.Kind.TableKind.schema in
    let ks = fields_of s s.root in
    let v = g.Self.WriteFlatBuffer.table c.args.self.now in
    ap (λ (b : Built). b.waits) c.in_ok-write_flatbuffer.ensures.written.blocks
    ∙ runs_idle c.new-builder.result (table_piece (entries ks v)) (fields_pieces s ks v)

pub unreachable-requires : goal.unreachable-requires
unreachable-requires g c =
    let s = g.Self.Kind.TableKind.schema in
    let ks = fields_of s s.root in
    let v = g.Self.WriteFlatBuffer.table c.args.self.now in
    let works : c.write_flatbuffer.new.builder.failed ≡ false =
    ap (λ (b : Built). b.failed) c.in_ok-write_flatbuffer.ensures.written.blocks
    ∙ runs_work c.new-builder.result (table_piece (entries ks v)) (fields_pieces s ks v) in
    let ok = c.in-Err.ensures.complete works in
    absurd cc

pub returns-clause-written : goal.returns-clause-written
returns-clause-written g c =
    let s = g.Self.Kind.TableKind.schema in
    let ks = fields_of s s.root in
    let v = g.Self.WriteFlatBuffer.table c.args.self.now in
    let blocks = c.in_ok-write_flatbuffer.ensures.written.blocks in
    let share : c.write_flatbuffer.new.builder.shares ≡ true =
    ap (λ (b : Built). b.shares) blocks
    ∙ (runs_share c.new-builder.result (table_piece (entries ks v)) (fields_pieces s ks v)
    ∙ ap (λ (b : Built). b.shares) c.new-builder.ensures) in
    c.in-Ok.ensures.layout s v (c.in_ok-write_flatbuffer.ensures.of_kind refl)
    (blocks ∙ ap (λ (b : Built). with_pieces b (pieces s v)) (c.new-builder.ensures ∙ ap nothing_by (sym share)))
    ∙ ap (λ sh. layout sh s v) share
