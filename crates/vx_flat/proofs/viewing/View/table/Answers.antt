use Rattle.vx_flat.specs.Seen.{kind_in, part_in}
use Rattle.vx_flat.proofs.Missing.{no_table}
use Rattle.vx_flat.proofs.viewing.View.table.Goals as goal

pub returns-then-is_absent-clause-part : goal.returns-then-is_absent-clause-part
returns-then-is_absent-clause-part c =
    no_table (kind_in c.args.self.now c.args.field) (part_in c.args.self.now c.args.field) c.requires
    (c.is_absent.ensures.absent c.if-is_absent.true)
