use Rattle.vx_flat.specs.Parts.{IsUnion}
use Rattle.vx_flat_tests.proofs.EveryView.{every_field}
use Rattle.vx_flat_tests.proofs.viewing.tags.Goals as goal

pub union_part-requires : goal.union_part-requires
union_part-requires c = every_field IsUnion c.args.view.now c.requires 16 tt

pub union_part-requires-2 : goal.union_part-requires-2
union_part-requires-2 c = every_field IsUnion c.args.view.now c.requires 18 tt

pub union_part-requires-3 : goal.union_part-requires-3
union_part-requires-3 c = every_field IsUnion c.args.view.now c.requires 20 tt
