-- By the number of the footer's bytes.
use Rattle.std.proofs.Common.{◌≡◌, ◌+◌, ◌*◌, ◌<◌, ◌≤◌, ◌^◌, length, arith}
use Rattle.std.specs.List.{flat_map}
use Rattle.vx_forms.specs.Octets.{octets_written}
use Rattle.vx_file.specs.FooterReading.{ranges_of}
use Rattle.vx_file.specs.FooterWriting.{footer_in}
use Rattle.vx_file.proofs.FooterLengths.{footer_long, footer_short, footer_fits, ids_fewer}
use Rattle.vx_file.proofs.FooterLists.{length-ranges}
use Rattle.vx_file.proofs.footer_writing.footer_bytes.Goals as goal

pub returns-then-len-clause-cause : goal.returns-then-len-clause-cause
returns-then-len-clause-cause c =
    let footer = footer_in c.args.rows c.args.ranges.now c.args.ids.now c.args.message.now in
    footer_long footer c.footer_len-len.result (omega (arith, c.footer_len-len.ensures, length-ranges c.args.ranges.now)) (omega (arith, c.if-len.true))

pub push_ids-requires-clause-few : goal.push_ids-requires-clause-few
push_ids-requires-clause-few c = omega (arith, c.footer_len-len.ensures, c.if-len.false, ids_fewer c.args.ids.now)

pub returns-clause-fits : goal.returns-clause-fits
returns-clause-fits c =
    let footer = footer_in c.args.rows c.args.ranges.now c.args.ids.now c.args.message.now in
    let short : 16 * length (ranges_of c.args.ranges.now) + length (flat_map octets_written c.args.ids.now) + length c.args.message.now + 20 < 2 ^ 32
    = omega (arith, c.footer_len-len.ensures, c.if-len.false, length-ranges c.args.ranges.now) in
    footer_fits footer c.ranges.rows.fits c.in_ok-push_ranges.ensures.fit c.in_ok-push_ids.ensures.texts (footer_short footer short)
