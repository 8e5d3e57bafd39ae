use Rattle.vx_serde.proofs.TakenBelow.{well}
use Rattle.vx_serde.proofs.taken.OpenRoot.close.Goals as goal

pub closed-requires-clause-places : goal.closed-requires-clause-places
closed-requires-clause-places c = c.requires.places (well c.args.filled _ c.in-Ok.is)

pub closed-requires-clause-own : goal.closed-requires-clause-own
closed-requires-clause-own c = c.requires.own (well c.args.filled _ c.in-Ok.is)
