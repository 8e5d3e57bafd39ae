use Rattle.std.proofs.Common.{option_copied}
use Rattle.vx_scalars.specs.Measures.{value_size, slice_size, values_size}
use Rattle.vx_scalars.specs.Seen.{all_seen, seen}
use Rattle.vx_variant_tests.proofs.texts.+text.Given as goal

abbrev pub decreases-text_of : goal.decreases-text_of
decreases-text_of l = value_size (seen (option_copied l.value))

abbrev pub decreases-tuple_text : goal.decreases-tuple_text
decreases-tuple_text l = values_size (all_seen l.values.now)

abbrev pub decreases-field_texts : goal.decreases-field_texts
decreases-field_texts l = slice_size (all_seen l.values.now)

abbrev pub decreases-element_texts : goal.decreases-element_texts
decreases-element_texts l = slice_size (all_seen l.values.now)
