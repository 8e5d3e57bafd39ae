use Rattle.vx_flat.proofs.Walking.{kind_there}
use Rattle.vx_flat.proofs.writing.walking.push_all.Goals as goal

pub bounds-kinds-i : goal.bounds-kinds-i
bounds-kinds-i g c =
    kind_there g.K.TableKind.schema c.args.kinds.now c.args.values.now c.loop-i.i c.index-values-i.result c.loop-i-test.true
    c.index-values-i.is c.loop-i.invariant.of_kinds
