use Rattle.std.proofs.Common.{refl, sym, subst}
use Rattle.vx_types.specs.Seen.{typ}
use Rattle.vx_wire_tree.specs.Session.{SessionMeaning, IsShipped}
use Rattle.vxcat_store.specs.IdFile.{ReadsIds}
use Rattle.vxcat_blobs.specs.RecodeViews.{line_of, loaded_of}
use Rattle.vxcat_blobs.proofs.Recodings.{read_alike, inputs_made, inputs_refused, inputs_complete, type_cause, type_memory, ids_cause, allowed_cause, ids_memory}
use Rattle.vxcat_blobs.proofs.Sessions.{asked_readers, shipped_session}
use Rattle.vxcat_blobs.proofs.recode.steps.recode_under.Goals as goal

pub returns-clause-cause : goal.returns-clause-cause
returns-clause-cause g c =
    let type_read = read_alike _ _ _ _ (typ c.in-Ok.dtype) refl (asked_readers _ c.args.words.now.options.revised c.args.words.now.options.unknown c.requires) c.in-Ok.ensures.read in
    let ids_read = subst (λ l. ReadsIds l c.in-Ok-read_id_file.ids) c.as_slice.ensures c.in-Ok-read_id_file.ensures.read in
    inputs_refused (line_of c.args.words.now) (loaded_of c.args.loaded) (typ c.in-Ok.dtype) c.in-Ok-read_id_file.ids c.new-read.result c.in-Ok-read_context.context _ c.serialize_options-options.result c.recode_blob.result
    type_read ids_read c.new-read.ensures c.in-Ok-read_context.ensures.read c.requires c.serialize_options-options.ensures c.recode_blob.ensures.cause

pub returns-clause-complete : goal.returns-clause-complete
returns-clause-complete g c =
    let type_read = read_alike _ _ _ _ (typ c.in-Ok.dtype) refl (asked_readers _ c.args.words.now.options.revised c.args.words.now.options.unknown c.requires) c.in-Ok.ensures.read in
    let ids_read = subst (λ l. ReadsIds l c.in-Ok-read_id_file.ids) c.as_slice.ensures c.in-Ok-read_id_file.ensures.read in
    inputs_complete (line_of c.args.words.now) (loaded_of c.args.loaded) (typ c.in-Ok.dtype) c.in-Ok-read_id_file.ids c.new-read.result c.in-Ok-read_context.context _ c.serialize_options-options.result c.recode_blob.result
    type_read ids_read c.new-read.ensures c.in-Ok-read_context.ensures.read c.requires c.serialize_options-options.ensures
    (c.recode_blob.ensures.complete (subst (λ (z : SessionMeaning). IsShipped z) (sym c.requires) (shipped_session c.args.words.now.options.revised _)))

pub returns-clause-made : goal.returns-clause-made
returns-clause-made g c =
    let type_read = read_alike _ _ _ _ (typ c.in-Ok.dtype) refl (asked_readers _ c.args.words.now.options.revised c.args.words.now.options.unknown c.requires) c.in-Ok.ensures.read in
    let ids_read = subst (λ l. ReadsIds l c.in-Ok-read_id_file.ids) c.as_slice.ensures c.in-Ok-read_id_file.ensures.read in
    inputs_made (line_of c.args.words.now) (loaded_of c.args.loaded) (typ c.in-Ok.dtype) c.in-Ok-read_id_file.ids c.new-read.result c.in-Ok-read_context.context _ c.serialize_options-options.result c.recode_blob.result
    type_read ids_read c.new-read.ensures c.in-Ok-read_context.ensures.read c.requires c.serialize_options-options.ensures
    (c.recode_blob.ensures.made (subst (λ (z : SessionMeaning). IsShipped z) (sym c.requires) (shipped_session c.args.words.now.options.revised _)))

pub returns-in-Err-clause-cause : goal.returns-in-Err-clause-cause
returns-in-Err-clause-cause g c =
    type_cause c.in-Err.status (line_of c.args.words.now) (loaded_of c.args.loaded) c.args.loaded.type_bytes _ refl (asked_readers _ c.args.words.now.options.revised c.args.words.now.options.unknown c.requires) c.in-Err.ensures.status c.in-Err.ensures.complete

pub returns-in-Err-clause-complete : goal.returns-in-Err-clause-complete
returns-in-Err-clause-complete g c = λ can.
    type_memory c.in-Err.status (line_of c.args.words.now) (loaded_of c.args.loaded) c.args.loaded.type_bytes _ refl (asked_readers _ c.args.words.now.options.revised c.args.words.now.options.unknown c.requires) c.in-Err.ensures.complete can

pub returns-in-Err-read_id_file-clause-cause : goal.returns-in-Err-read_id_file-clause-cause
returns-in-Err-read_id_file-clause-cause g c =
    ids_cause c.in-Err-read_id_file.status (line_of c.args.words.now) (loaded_of c.args.loaded) c.as_slice.result.now c.as_slice.ensures c.in-Err-read_id_file.ensures.cause

pub returns-in-Err-read_id_file-clause-complete : goal.returns-in-Err-read_id_file-clause-complete
returns-in-Err-read_id_file-clause-complete g c = λ can.
    ids_memory c.in-Err-read_id_file.status (λ ids. ReadsIds c.as_slice.result.now ids) c.in-Err-read_id_file.ensures.cause can.terms.ids
    (subst (λ l. ReadsIds l can.terms.ids) (sym c.as_slice.ensures) can.are_read.ids_read)

pub returns-in-Err-read_context-clause-cause : goal.returns-in-Err-read_context-clause-cause
returns-in-Err-read_context-clause-cause g c =
    allowed_cause c.in-Err-read_context.status (line_of c.args.words.now) (loaded_of c.args.loaded) c.in-Err-read_context.ensures.cause

pub returns-in-Err-read_context-clause-complete : goal.returns-in-Err-read_context-clause-complete
returns-in-Err-read_context-clause-complete g c = λ can. ids_memory c.in-Err-read_context.status _ c.in-Err-read_context.ensures.cause can.terms.allowed can.are_read.allowed_read
