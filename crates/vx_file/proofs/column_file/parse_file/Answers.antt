-- No type is read of the footer's message.
use Rattle.std.proofs.Common.{◌≡◌, ◌∙◌, vec_len, rules, sym, ap, length}
use Rattle.std.specs.Prelude.{option_map}
use Rattle.std.specs.List.{list_all}
use Rattle.vx_file.specs.Within.{lies_within}
use Rattle.vx_file.specs.FooterReading.{footer_of, ranges_of}
use Rattle.vx_file.proofs.NoTables.{no_table_as}
use Rattle.vx_file.proofs.FooterLists.{length-ranges, at_none}
use Rattle.vx_file.proofs.column_file.parse_file.Goals as goal

pub returns-in_default-dtype-clause-cause : goal.returns-in_default-dtype-clause-cause
returns-in_default-dtype-clause-cause g c =
    let parts = c.in-Some.parts in
    let vec_all : vec_len parts.ranges ≡ length parts.ranges.items = search rules in
    let count : c.len.result ≡ length (ranges_of parts.ranges.items) = c.len.ensures ∙ (vec_all ∙ sym (length-ranges parts.ranges.items)) in
    record {
      footer = footer_of parts;
      footer_is = sym c.in-Ok.ensures.ok ∙ ap (λ o. option_map footer_of o) c.in-Some.is;
      within = ap (λ rs. list_all (lies_within c.args.offset) (ranges_of rs)) (sym c.as_slice.ensures.value) ∙ (sym c.are_within.ensures ∙ c.if-not-are_within.false);
      none = no_table_as _ parts.type_message.now c.len.result (length (ranges_of parts.ranges.items)) count (at_none _ _ c.in_ok-dtype.dtype c.in_default-dtype.is c.in_ok-dtype.ensures.ok);
    }
