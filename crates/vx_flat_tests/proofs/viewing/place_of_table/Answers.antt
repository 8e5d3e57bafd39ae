use Rattle.vx_flat.specs.Parts.{IsTable}
use Rattle.vx_flat_tests.proofs.EveryView.{every_field}
use Rattle.vx_flat_tests.proofs.viewing.place_of_table.Goals as goal

pub table-requires : goal.table-requires
table-requires c = every_field IsTable c.args.view.now c.requires 14 tt
