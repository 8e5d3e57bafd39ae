use Rattle.vx_flat.proofs.Composing.{set_four}
use Rattle.vx_flat.proofs.builder.message.set_number.Goals as goal

pub returns : goal.returns
returns c = set_four c.args.bytes.now.items c.args.place _ _ _ _ c.requires
