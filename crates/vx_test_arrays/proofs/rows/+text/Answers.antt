use Rattle.std.proofs.Common.{ap, arith}
use Rattle.vx_trees.specs.Walks.{nodes}
use Rattle.vx_types.specs.Value.{Value}
use Rattle.vx_test_arrays.proofs.RowSizes.{smaller_value}
use Rattle.vx_test_arrays.proofs.rows.+text.Goals as goal

pub texts_of-text_of-requires : goal.texts_of-text_of-requires
texts_of-text_of-requires t c = (omega (arith, smaller_value c.args.values.now c.loop-i.i c.index-values-i.result c.loop-i-test.true c.index-values-i.is), tt)

pub variant_text-text_of-text-requires : goal.variant_text-text_of-text-requires
variant_text-text_of-text-requires t c = (omega (arith, ap (λ (v : Value). nodes v) c.in_ok-value.ensures), tt)
