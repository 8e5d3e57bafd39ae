-- A foreign node's slots are named by their numbers.
use Rattle.vx_trees.specs.Rose.{below, count, label}
use Rattle.vx_arrays.proofs.Bracketed.{foreign_slot}
use Rattle.vx_arrays.proofs.array.Array.slot_name.Goals as goal

pub returns-in-Foreign-clause-ok : goal.returns-in-Foreign-clause-ok
returns-in-Foreign-clause-ok c =
    foreign_slot (label c.args.self.now).body c.body.result.now c.in-Foreign.field-0 c.body.ensures c.in-Foreign.is (label c.args.self.now).dtype (count (below c.args.self.now)) c.args.index c.requires c.numbered.result c.numbered.ensures.ok
