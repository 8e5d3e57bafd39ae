use Rattle.std.proofs.Common.{sym, ◌∙◌}
use Rattle.vx_encodings.proofs.MapSteps.{maps_planned}
use Rattle.vx_encodings.proofs.encodings.map.plan.Goals as goal

pub returns-in-Map-clause-plan : goal.returns-in-Map-clause-plan
returns-in-Map-clause-plan c =
    λ x. maps_planned x c.args.head.now c.plan_entries.result c.in-Map.map c.in-Map.nullability (sym c.as_slice.ensures ∙ c.in_ok-read_empty.ensures.ok) c.in-Map.is c.plan_entries.ensures.plan
