use Rattle.vx_flat.specs.Parts.{IsBytes, IsText}
use Rattle.vx_flat_tests.proofs.EveryView.{every_field}
use Rattle.vx_flat_tests.proofs.viewing.lengths.Goals as goal

pub bytes-requires : goal.bytes-requires
bytes-requires c = every_field IsBytes c.args.view.now c.requires 10 tt

pub bytes-requires-2 : goal.bytes-requires-2
bytes-requires-2 c = every_field IsBytes c.args.view.now c.requires 11 tt

pub text-requires : goal.text-requires
text-requires c = every_field IsText c.args.view.now c.requires 12 tt
