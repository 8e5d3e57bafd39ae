-- Each identifier is shorter than all of them.
use Rattle.std.proofs.Common.{ap, length, arith}
use Rattle.vx_file.proofs.FooterLengths.{id_shorter}
use Rattle.vx_file.proofs.footer_writing.push_ids.Goals as goal

pub push_text-requires : goal.push_text-requires
push_text-requires c =
    omega (arith, c.requires.short, ap length c.as_str.ensures.same, ap length c.id-item.is, id_shorter c.args.ids.now c.loop-id.id-index c.id-item.result c.loop-id-test.true)
