use Rattle.std.proofs.Common.{◌≡◌, ◌+◌, take, option_copied}
use Rattle.vx_scalars.specs.Measures.{value_size, ref_size, values_size, slice_size, typed_size, variant_size}
use Rattle.vx_scalars.specs.Seen.{value_of, seen, all_seen}
use Rattle.vx_scalars.proofs.+copy.Given as goal

abbrev pub decreases-value::ScalarValue::clone : goal.decreases-value::ScalarValue::clone
decreases-value::ScalarValue::clone l = value_size (value_of l.self.now)

abbrev pub decreases-values::Values::clone : goal.decreases-values::Values::clone
decreases-values::Values::clone l = values_size l.self.now

abbrev pub decreases-value_ref::ValueRef::clone : goal.decreases-value_ref::ValueRef::clone
decreases-value_ref::ValueRef::clone l = ref_size l.self.now

abbrev pub decreases-variant_ref::VariantRef::clone : goal.decreases-variant_ref::VariantRef::clone
decreases-variant_ref::VariantRef::clone l = variant_size l.self.now

abbrev pub decreases-scalar::Scalar::clone : goal.decreases-scalar::Scalar::clone
decreases-scalar::Scalar::clone l = typed_size l.self.now

abbrev pub decreases-copy::copied : goal.decreases-copy::copied
decreases-copy::copied l = value_size (seen (option_copied l.value)) + 1

abbrev pub decreases-copy::copy_all : goal.decreases-copy::copy_all
decreases-copy::copy_all l = slice_size (all_seen l.values.now)

abbrev pub invariant-copy::copy_all-loop-value : goal.invariant-copy::copy_all-loop-value
invariant-copy::copy_all-loop-value l = l.copies.items ≡ take l.value-index l.values
