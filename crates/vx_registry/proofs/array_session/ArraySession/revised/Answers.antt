use Rattle.std.proofs.Common.{refl}
use Rattle.vx_registry.proofs.Meanings.{revised_as}
use Rattle.vx_registry.proofs.array_session.ArraySession.revised.Goals as goal

pub returns-in-Ok-clause-revised : goal.returns-in-Ok-clause-revised
returns-in-Ok-clause-revised g c = λ x.
    revised_as _ _ x (c.in_ok-session.ensures.shipped x) (λ id. c.in-Ok.ensures.readers x id) (λ id. c.in-Ok.ensures.writers x id) refl
