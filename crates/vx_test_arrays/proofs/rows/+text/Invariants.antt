use Rattle.std.proofs.Common.{◌+◌, ◌*◌}
use Rattle.vx_trees.specs.Rose.{roses_of}
use Rattle.vx_trees.specs.Walks.{nodes, nodes_of}
use Rattle.vx_rows.specs.Plain.{plain_value, plain_values}
use Rattle.vx_test_arrays.proofs.rows.+text.Given as goal

abbrev pub decreases-text_of : goal.decreases-text_of
decreases-text_of l = 2 * nodes (plain_value l.value.now)

abbrev pub decreases-texts_of : goal.decreases-texts_of
decreases-texts_of l = 2 * nodes_of (roses_of (plain_values l.values.now)) + 1

abbrev pub decreases-variant_text : goal.decreases-variant_text
decreases-variant_text l = 2 * nodes l.scalar.now.value + 1
