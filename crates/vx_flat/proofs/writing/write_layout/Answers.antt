use Rattle.std.proofs.Common.{◌≡◌, ◌<◌, ap, ◌∙◌, sym, subst}
use Rattle.std.proofs.lemmas.Result.{err_from_is_err_and}
use Rattle.vx_flat.specs.Building.{Built, with_pieces}
use Rattle.vx_flat.specs.Layout.{layout}
use Rattle.vx_flat.specs.Pieces.{table_piece, entries, fields_pieces, table_pieces}
use Rattle.vx_flat.specs.Schema.{fields_of}
use Rattle.vx_flat.specs.View.{views}
use Rattle.vx_flat.specs.View.{value as value_of}
use Rattle.vx_flat.proofs.Continuing.{runs_some}
use Rattle.vx_flat.proofs.Walking.{layout_walked, cut_long}
use Rattle.vx_flat.proofs.writing.write_layout.Goals as goal

pub into_message-requires : goal.into_message-requires
into_message-requires g c =
    let s = g.K.TableKind.schema in
    let ks = fields_of s c.root.result in
    let vs = views c.deref.result.now in
    subst (λ (b : Built). 0 < b.count) (sym c.in_ok-write_table.ensures.written)
    (runs_some c.sharing-builder.result (table_piece (entries ks vs)) (fields_pieces s ks vs))

pub returns-clause-written : goal.returns-clause-written
returns-clause-written g c =
    c.into_message.ensures.built
    ∙ (ap (λ (b : Built). b.bytes) c.in_ok-write_table.ensures.written
    ∙ layout_walked g.K.TableKind.schema c.args.sharing (value_of c.args.value.now) c.sharing-builder.result c.root.result
    (views c.deref.result.now) c.sharing-builder.ensures c.root.ensures (ap views c.deref.ensures.value) c.requires)

pub returns-in_err-write_table-clause-too_long : goal.returns-in_err-write_table-clause-too_long
returns-in_err-write_table-clause-too_long g c =
    let q = err_from_is_err_and c.from_residual.result c.from_residual.ensures.1 in
    let s = g.K.TableKind.schema in
    let vs = views c.deref.result.now in
    let v = value_of c.args.value.now in
    let all = with_pieces c.sharing-builder.result (table_pieces s (fields_of s c.root.result) vs) in
    let same : all.bytes ≡ layout c.args.sharing s v =
    layout_walked s c.args.sharing v c.sharing-builder.result c.root.result vs c.sharing-builder.ensures c.root.ensures
    (ap views c.deref.ensures.value) c.requires in
    rw (q.1, q.2) (λ cut. cut_long all c.in_err-write_table.field-0.0 (layout c.args.sharing s v) same
    c.in_err-write_table.ensures.cut (cc))
