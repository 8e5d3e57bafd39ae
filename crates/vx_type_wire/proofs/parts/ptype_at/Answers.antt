use Rattle.vx_flat.specs.Seen.{part_in}
use Rattle.vx_type_wire.proofs.Sound.{no_code}
use Rattle.vx_type_wire.proofs.parts.ptype_at.Goals as goal

pub returns-in-None : goal.returns-in-None
returns-in-None c =
    no_code (part_in c.args.view.now c.args.field) c.in_ok-code.code c.in_ok-code.ensures (λ p e. absurd (cc (c.in-None.ensures.each p e)))
