use Rattle.vx_flat.specs.Parts.{IsOptional}
use Rattle.vx_flat_tests.proofs.EveryView.{every_field}
use Rattle.vx_flat_tests.proofs.viewing.numbers_that_may_be_missing.Goals as goal

pub opt_number-requires : goal.opt_number-requires
opt_number-requires c = every_field IsOptional c.args.view.now c.requires 4 tt

pub opt_number-requires-2 : goal.opt_number-requires-2
opt_number-requires-2 c = every_field IsOptional c.args.view.now c.requires 5 tt

pub opt_number-requires-3 : goal.opt_number-requires-3
opt_number-requires-3 c = every_field IsOptional c.args.view.now c.requires 8 tt

pub opt_number-requires-4 : goal.opt_number-requires-4
opt_number-requires-4 c = every_field IsOptional c.args.view.now c.requires 9 tt
