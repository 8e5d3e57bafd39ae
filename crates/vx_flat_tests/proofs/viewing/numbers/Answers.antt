use Rattle.vx_flat.specs.Parts.{IsNumber}
use Rattle.vx_flat_tests.proofs.EveryView.{every_field}
use Rattle.vx_flat_tests.proofs.viewing.numbers.Goals as goal

pub number-requires : goal.number-requires
number-requires c = every_field IsNumber c.args.view.now c.requires 0 tt

pub number-requires-2 : goal.number-requires-2
number-requires-2 c = every_field IsNumber c.args.view.now c.requires 1 tt

pub number-requires-3 : goal.number-requires-3
number-requires-3 c = every_field IsNumber c.args.view.now c.requires 2 tt

pub number-requires-4 : goal.number-requires-4
number-requires-4 c = every_field IsNumber c.args.view.now c.requires 3 tt
