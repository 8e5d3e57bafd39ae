use Rattle.std.proofs.Common.{arith, ◌∙◌}
use Rattle.vx_registry.specs.Session.{shipped_encodings}
use Rattle.vx_registry.proofs.Shipped.{all_tables, next_tables, shipped_within}
use Rattle.vx_registry.proofs.array_session.ArraySession.default.Goals as goal

pub loop-encoding-preserved : goal.loop-encoding-preserved
loop-encoding-preserved g c =
    c.in_ok-set.ensures.registered ∙ next_tables shipped_encodings c.loop-encoding.encoding-index _ c.loop-encoding.tables (omega (arith, c.loop-encoding-test.true)) c.loop-encoding.invariant

pub invariant_of-result : goal.invariant_of-result
invariant_of-result g c =
    let all = c.loop-encoding.invariant ∙ all_tables c.loop-encoding.encoding-index (omega (arith, c.loop-encoding-test.false)) in
    record { in_range = shipped_within c.loop-encoding.tables _ all }
