-- The ranges so far, before those that are still to be read, are the whole list.
use Rattle.std.proofs.Common.{◌≡◌, ◌-◌}
use Rattle.vx_forms.specs.Lists.{read_more}
use Rattle.vx_file.specs.Footer.{range_form, ranges_form}
use Rattle.vx_file.specs.FooterReading.{ranges_of}
use Rattle.vx_file.proofs.footer.take_ranges.Given as goal

abbrev pub invariant-loop : goal.invariant-loop
invariant-loop l = ranges_form.read l.fn.bytes ≡ read_more range_form (ranges_of l.ranges.items) (l.count - l.counter) l.rest
