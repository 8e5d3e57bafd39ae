use Rattle.std.proofs.Common.{List, ◌∷◌, [], ap, sym, subst, ◌∙◌}
use Rattle.vx_proto.specs.Form.{HasForm}
use Rattle.vx_proto.specs.Value.{Content, Entry, value_view}
use Rattle.vx_proto.proofs.LawsOfParts.{IfStands, whole_form}
use Rattle.vx_proto.proofs.LawsOfRepeated.{shows_message}
use Rattle.vx_type_wire.specs.TypeMessage.{type_lists}
use Rattle.vx_encodings.specs.VariantMessage.{variant_schema, variant_value, variant_parts}
use Rattle.vx_encodings.proofs.encodings.variant.VariantMetadataMessage.to_value.Goals as goal

pub returns-in_ok-vec-in-Some-clause-same : goal.returns-in_ok-vec-in-Some-clause-same
returns-in_ok-vec-in-Some-clause-same c =
    ap value_view c.in_ok-vec-in-Some.ensures.items
    ∙ ap (λ (es : List Entry). es ∷ []) (c.in_ok-entries-in-Some.ensures.same ∙ ap (λ (e : Content). (1, e) ∷ []) (shows_message c.in_ok-inner-in-Some.inner _ c.in_ok-inner-in-Some.ensures.same))
    ∙ sym (ap variant_value c.in-Some.is)

pub returns-in_ok-vec-in-Some-clause-form : goal.returns-in_ok-vec-in-Some-clause-form
returns-in_ok-vec-in-Some-clause-form c =
    whole_form variant_schema 14 variant_parts (c.args.self.now.shredded_dtype, tt) (subst (IfStands (HasForm type_lists 0)) (sym c.in-Some.is) c.in_ok-inner-in-Some.ensures.form, tt)

pub returns-in_ok-vec-in-None-clause-form : goal.returns-in_ok-vec-in-None-clause-form
returns-in_ok-vec-in-None-clause-form c =
    whole_form variant_schema 14 variant_parts (c.args.self.now.shredded_dtype, tt) (subst (IfStands (HasForm type_lists 0)) (sym c.in-None.is) tt, tt)
