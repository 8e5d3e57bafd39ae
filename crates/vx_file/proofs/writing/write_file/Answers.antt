-- By the parts that are made.
use Rattle.std.proofs.Common.{◌≡◌, ◌∙◌, sym, ap, subst}
use Rattle.std.proofs.lemmas.Result.{err_from_is_err_and}
use Rattle.vx_flat.specs.Layout.{written_layout}
use Rattle.vx_types.specs.Seen.{typ}
use Rattle.vx_type_wire.specs.Schema.{type_schema}
use Rattle.vx_type_wire.specs.TypeTable.{type_table}
use Rattle.vx_registry.specs.Meaning.{session_meaning}
use Rattle.vx_file.proofs.FileMade.{columns_refused, type_refused, read_as, file_made, made_spells, footer_refused}
use Rattle.vx_file.proofs.writing.write_file.Goals as goal

pub returns-in_err-columns-clause-cause : goal.returns-in_err-columns-clause-cause
returns-in_err-columns-clause-cause g c =
    let p = err_from_is_err_and c.from_residual.result c.from_residual.ensures.1 in
    rw (p.1, p.2) (columns_refused _ c.args.array.now c.children.result.now c.children.ensures.children c.in_err-columns.field-0.0 c.in_err-columns.ensures.cause)

pub returns-in_err-message-clause-cause : goal.returns-in_err-message-clause-cause
returns-in_err-message-clause-cause g c =
    let p = err_from_is_err_and c.from_residual-in_err-message.result c.from_residual-in_err-message.ensures.1 in
    let s = session_meaning (λ b. (goal.ArrayPlugin-dyn g (b.vtable, b.value)).means b.value) (λ b. (goal.ExtPlugin-dyn g (b.vtable, b.value)).accepted b.value) c.args.session.now in
    rw (p.1, p.2) (type_refused s c.args.array.now c.children.result.now c.children.ensures.children (typ c.dtype.result.now) c.in_err-message.field-0.0 c.dtype.ensures.dtype c.in_err-message.ensures.cause)

pub returns-in_err-footer-clause-cause : goal.returns-in_err-footer-clause-cause
returns-in_err-footer-clause-cause g c =
    let p = err_from_is_err_and c.from_residual-in_err-footer.result c.from_residual-in_err-footer.ensures.1 in
    rw (p.1, p.2) (footer_refused _ c.args.array.now c.children.result.now c.children.ensures.children c.in_ok-columns.columns c.in_ok-columns.ensures.made c.len.result
    c.as_slice.result.now c.as_slice-2.result.now c.as_slice-3.result.now c.len.ensures.len c.as_slice.ensures.value (c.as_slice-2.ensures ∙ c.in-Ok.ensures.ids)
    (c.as_slice-3.ensures ∙ c.in_ok-message.ensures.written ∙ ap (λ d. written_layout type_schema (type_table d)) c.dtype.ensures.dtype) c.in_err-footer.field-0.0 c.in_err-footer.ensures.cause)

pub returns-clause-written : goal.returns-clause-written
returns-clause-written g c =
    let message_is = c.as_slice-3.ensures ∙ c.in_ok-message.ensures.written ∙ ap (λ d. written_layout type_schema (type_table d)) c.dtype.ensures.dtype in
    c.new.ensures
    ∙ file_made _ c.args.array.now c.children.result.now c.children.ensures.children c.in_ok-columns.columns c.in_ok-columns.ensures.made c.len.result
    c.as_slice.result.now c.as_slice-2.result.now c.as_slice-3.result.now c.len.ensures.len c.as_slice.ensures.value (c.as_slice-2.ensures ∙ c.in-Ok.ensures.ids) message_is
    c.as_slice-4.result.now c.in_ok-bytes.bytes.items (c.as_slice-4.ensures.value ∙ c.in_ok-footer.ensures.written) c.in_ok-bytes.ensures

pub returns-clause-spelled : goal.returns-clause-spelled
returns-clause-spelled g c = λ ok again known.
    let message_is = c.as_slice-3.ensures ∙ c.in_ok-message.ensures.written ∙ ap (λ d. written_layout type_schema (type_table d)) c.dtype.ensures.dtype in
    made_spells _ c.args.array.now c.children.result.now c.children.ensures.children c.in_ok-columns.columns c.in_ok-columns.ensures.made c.len.result
    c.as_slice.result.now c.as_slice-2.result.now c.as_slice-3.result.now c.len.ensures.len c.as_slice.ensures.value (c.as_slice-2.ensures ∙ c.in-Ok.ensures.ids) message_is
    (c.is_table.ensures.table c.if-not-is_table.false) c.in_ok-footer.ensures.fits (typ c.dtype.result.now) c.dtype.ensures.dtype
    (read_as c.as_slice-3.result.now c.in_ok-message.message (typ c.dtype.result.now) c.as_slice-3.ensures c.in_ok-message.ensures.read_back)
    c.new.result (returns-clause-written g c) ok again known
