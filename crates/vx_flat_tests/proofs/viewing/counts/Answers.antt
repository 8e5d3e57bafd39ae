use Rattle.vx_flat.specs.Parts.{IsVector}
use Rattle.vx_flat_tests.proofs.EveryView.{every_field}
use Rattle.vx_flat_tests.proofs.viewing.counts.Goals as goal

pub vector-requires : goal.vector-requires
vector-requires c = every_field IsVector c.args.view.now c.requires 10 tt

pub vector-requires-2 : goal.vector-requires-2
vector-requires-2 c = every_field IsVector c.args.view.now c.requires 11 tt

pub vector-requires-3 : goal.vector-requires-3
vector-requires-3 c = every_field IsVector c.args.view.now c.requires 13 tt

pub vector-requires-4 : goal.vector-requires-4
vector-requires-4 c = every_field IsVector c.args.view.now c.requires 15 tt
