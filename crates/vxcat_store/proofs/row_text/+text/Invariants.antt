use Rattle.std.proofs.Common.{◌≡◌, ◌+◌, ◌*◌, take}
use Rattle.std.specs.Prelude.{string_bytes}
use Rattle.vx_trees.specs.Rose.{roses_of}
use Rattle.vx_trees.specs.Walks.{nodes, nodes_of}
use Rattle.vx_types.specs.Seen.{typ, typs}
use Rattle.vx_rows.specs.Plain.{plain_value, plain_values}
use Rattle.vxcat_store.specs.RowText.{each_text, entry_texts, parted, texts_by}
use Rattle.vxcat_store.proofs.row_text.+text.Given as goal

abbrev pub decreases-row_text : goal.decreases-row_text
decreases-row_text l = 4 * nodes (plain_value l.value.now)

abbrev pub decreases-tuple_text : goal.decreases-tuple_text
decreases-tuple_text l = 4 * nodes_of (roses_of (plain_values l.values.now)) + 3

abbrev pub decreases-union_text : goal.decreases-union_text
decreases-union_text l = 4 * nodes (plain_value l.row.now) + 1

abbrev pub decreases-variant_text : goal.decreases-variant_text
decreases-variant_text l = 4 * nodes l.scalar.now.value + 2

abbrev pub decreases-text_of : goal.decreases-text_of
decreases-text_of l = 4 * nodes (plain_value l.value) + 1

abbrev pub decreases-texts_of_one : goal.decreases-texts_of_one
decreases-texts_of_one l = 4 * nodes_of (roses_of (plain_values l.values.now)) + 2

abbrev pub decreases-texts_by : goal.decreases-texts_by
decreases-texts_by l = 4 * nodes_of (roses_of (plain_values l.values.now)) + 2

abbrev pub decreases-entry_texts : goal.decreases-entry_texts
decreases-entry_texts l = 4 * nodes_of (roses_of (plain_values l.values.now)) + 2

abbrev pub decreases-entry_text : goal.decreases-entry_text
decreases-entry_text l = 4 * nodes (plain_value l.value.now) + 1

-- The texts so far are those of the first values.
abbrev pub invariant-texts_of_one-loop-i : goal.invariant-texts_of_one-loop-i
invariant-texts_of_one-loop-i l = string_bytes l.texts ≡ parted (each_text (roses_of (plain_values (take l.i l.values))) (typ l.dtype))

abbrev pub invariant-texts_by-loop-i : goal.invariant-texts_by-loop-i
invariant-texts_by-loop-i l = string_bytes l.texts ≡ parted (texts_by (roses_of (plain_values (take l.i l.values))) (roses_of (typs (take l.i l.dtypes))))

abbrev pub invariant-entry_texts-loop-i : goal.invariant-entry_texts-loop-i
invariant-entry_texts-loop-i l = string_bytes l.texts ≡ parted (entry_texts (roses_of (plain_values (take l.i l.values))) l.map.key l.map.value)
