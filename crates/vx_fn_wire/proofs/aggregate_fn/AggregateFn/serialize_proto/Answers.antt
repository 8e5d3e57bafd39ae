use Rattle.std.proofs.Common.{[], ◌∷◌, ap, sym, subst, ◌∙◌}
use Rattle.vx_types.specs.Content.{IsText}
use Rattle.vx_proto.specs.Form.{HasForm}
use Rattle.vx_proto.specs.Value.{value_view}
use Rattle.vx_fn_wire.specs.Schema.{aggregate_lists}
use Rattle.vx_fn_wire.proofs.Forms.{aggregate_form}
use Rattle.vx_fn_wire.proofs.aggregate_fn.AggregateFn.serialize_proto.Goals as goal

pub new-requires : goal.new-requires
new-requires c =
    let shows = ap value_view c.in_ok-slots.ensures.items ∙ (λ i. c.in_ok-id.ensures.same i ∷ c.in_ok-metadata.ensures.same i ∷ []) in
    subst (HasForm aggregate_lists 0) (sym shows) (aggregate_form _ _ (subst IsText (sym (c.as_bytes.ensures.value ∙ c.as_str.ensures.same)) c.as_str.ensures.text))
