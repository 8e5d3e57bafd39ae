use Rattle.vx_serde.proofs.TakenBelow.{own_root}
use Rattle.vx_serde.proofs.taken.OpenRoot.closed.Goals as goal

pub over-requires-clause-own : goal.over-requires-clause-own
over-requires-clause-own c = λ o. let k = c.is_own-own.ensures o in own_root c.args.self.root c.args.self.children.items (c.requires.own k.0) k.1
