-- What is built and what is refused, by the fields that the bytes show.
use Rattle.std.proofs.Common.{ℕ, List, subst, sym}
use Rattle.vx_proto.specs.Reads.{Reads}
use Rattle.vx_wire_tree.specs.Fields.{DictFields}
use Rattle.vx_encodings.proofs.DictSteps.{dicts_built, dicts_refused}
use Rattle.vx_encodings.specs.DictMessage.{dict_schema, dict_value}
use Rattle.vx_encodings.specs.Steps.{RefusesBuilding}
use Rattle.vx_encodings.specs.declared.encoding.Encoding.TheVariants.{Dict}
use Rattle.vx_plans.specs.declared.error.EncodingError.{EncodingError}
use Rattle.vx_encodings.proofs.encodings.dict.build.Goals as goal

pub returns-in-Ok-clause-parts : goal.returns-in-Ok-clause-parts
returns-in-Ok-clause-parts c =
    let m = c.in_ok-metadata.metadata in
    let f : DictFields = record { values_len = m.values_len; codes_ptype = m.codes_ptype; is_nullable_codes = m.is_nullable_codes; all_values_referenced = m.all_values_referenced } in
    let shown = subst (λ (bytes : List ℕ). Reads dict_schema 0 bytes (dict_value f)) c.as_slice.ensures c.in_ok-metadata.ensures.read in
    λ x. dicts_built x c.args.head c.args.buffers c.args.children f c.unwrap_or-flag.result c.in-Ok.array c.requires shown (c.is_empty.ensures.0 c.if-not-is_empty.false) c.unwrap_or-flag.ensures c.in-Ok.ensures.ok

pub returns-clause-err : goal.returns-clause-err
returns-clause-err c =
    let m = c.in_ok-metadata.metadata in
    let f : DictFields = record { values_len = m.values_len; codes_ptype = m.codes_ptype; is_nullable_codes = m.is_nullable_codes; all_values_referenced = m.all_values_referenced } in
    let shown = subst (λ (bytes : List ℕ). Reads dict_schema 0 bytes (dict_value f)) c.as_slice.ensures c.in_ok-metadata.ensures.read in
    λ x. subst (λ (e : EncodingError). RefusesBuilding e x Dict c.args.head c.args.buffers c.args.children) (sym c.of_constructor.ensures)
    (dicts_refused x c.in-Err.e c.args.head c.args.buffers c.args.children f c.unwrap_or-flag.result c.requires shown (c.is_empty.ensures.0 c.if-not-is_empty.false) c.unwrap_or-flag.ensures c.in-Err.ensures.err)
