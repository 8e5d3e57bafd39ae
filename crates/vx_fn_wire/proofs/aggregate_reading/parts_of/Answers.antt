use Rattle.vx_fn_wire.proofs.AggregateParts.{id_found, parts_found}
use Rattle.vx_fn_wire.proofs.aggregate_reading.parts_of.Goals as goal

pub unreachable-requires : goal.unreachable-requires
unreachable-requires c = id_found _ _ c.in-Some.ensures.form c.in-Some.ensures.value c.in_default-text_at.ensures

pub returns : goal.returns
returns c = parts_found _ _ _ _ c.in-Some.ensures.form c.in-Some.ensures.value c.in-Some-text_at.ensures c.octets_at.ensures
