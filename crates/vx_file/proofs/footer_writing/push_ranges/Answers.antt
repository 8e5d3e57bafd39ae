-- By the steps of a loop that writes a list.
use Rattle.std.proofs.Common.{get_or}
use Rattle.std.proofs.lemmas.List.{drop_more}
use Rattle.vx_file.specs.declared.footer.ColumnRange.{ColumnRange}
use Rattle.vx_file.specs.Footer.{range_form}
use Rattle.std.specs.List.{AllByRecursion}
use Rattle.vx_file.specs.FooterReading.{ranges_of}
use Rattle.vx_file.proofs.FooterPushes.{range_bytes, range_fits, ranges_begun, ranges_fit, more_pushed, more_hold}
use Rattle.vx_file.proofs.footer_writing.push_ranges.Goals as goal

pub loop-range-init : goal.loop-range-init
loop-range-init c = record {
  written = ranges_begun c.args.out.now.items c.push_u32.new.out.items c.args.ranges.now c.in_ok-push_u32.ensures.written;
  fit = ranges_fit c.args.ranges.now;
}

pub loop-range-preserved : goal.loop-range-preserved
loop-range-preserved c =
    let rs = c.args.ranges.now in
    let i = c.loop-range.range-index in
    let none : ColumnRange = record { start = 0; len = 0 } in
    let there = drop_more rs i none c.loop-range-test.true in
    record {
      written = more_pushed rs range_bytes c.loop-range.out.items c.push_range.new.out.items _ i (get_or rs i none) there c.loop-range.invariant.written c.in_ok-push_range.ensures.written;
      fit = more_hold rs range_fits (AllByRecursion range_form.Fits (ranges_of rs)) i (get_or rs i none) there c.loop-range.invariant.fit c.in_ok-push_range.ensures.fits;
    }
