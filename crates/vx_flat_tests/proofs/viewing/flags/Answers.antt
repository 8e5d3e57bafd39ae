use Rattle.vx_flat.specs.Parts.{IsFlag}
use Rattle.vx_flat_tests.proofs.EveryView.{every_field}
use Rattle.vx_flat_tests.proofs.viewing.flags.Goals as goal

pub flag-requires : goal.flag-requires
flag-requires c = every_field IsFlag c.args.view.now c.requires 6 tt

pub flag-requires-2 : goal.flag-requires-2
flag-requires-2 c = every_field IsFlag c.args.view.now c.requires 7 tt
