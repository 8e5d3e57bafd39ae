use Rattle.vx_flat.specs.Seen.{kind_in, part_in}
use Rattle.vx_flat.proofs.Missing.{no_optional}
use Rattle.vx_flat.proofs.viewing.View.opt_number.Goals as goal

pub returns-then-is_absent : goal.returns-then-is_absent
returns-then-is_absent c =
    no_optional (kind_in c.args.self.now c.args.field) (part_in c.args.self.now c.args.field) c.requires
    (c.is_absent.ensures.absent c.if-is_absent.true)
