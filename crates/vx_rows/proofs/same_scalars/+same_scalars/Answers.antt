-- Tuples are compared by their values, and scalars by their types and their values.
use Rattle.vx_types.specs.Seen.{typ}
use Rattle.vx_rows.proofs.Scalared.{scalars_decide, scalars_differ, tuples_decide}
use Rattle.vx_rows.proofs.same_scalars.+same_scalars.Goals as goal

pub is_same_present-returns-in-Tuple-Tuple : goal.is_same_present-returns-in-Tuple-Tuple
is_same_present-returns-in-Tuple-Tuple t c =
    tuples_decide c.args.a.now c.args.b.now c.in-Tuple-Tuple.x c.in-Tuple-Tuple.y _ _ c.are_same_values.result c.in-Tuple-Tuple.is-0 c.in-Tuple-Tuple.is-1 c.as_slice.ensures c.as_slice-in-Tuple-Tuple.ensures c.are_same_values.ensures

pub is_same_scalar-returns-then-eq : goal.is_same_scalar-returns-then-eq
is_same_scalar-returns-then-eq t c =
    scalars_decide c.args.a.now c.args.b.now (typ c.dtype.result.now) (typ c.dtype-2.result.now) c.eq.result c.dtype.ensures c.dtype-2.ensures c.eq.ensures _ _ c.is_same_value.result c.value.ensures.value c.value-then-eq.ensures.value c.if-eq.true
    c.is_same_value.ensures

pub is_same_scalar-returns-else-eq : goal.is_same_scalar-returns-else-eq
is_same_scalar-returns-else-eq t c = scalars_differ c.args.a.now c.args.b.now (typ c.dtype.result.now) (typ c.dtype-2.result.now) c.eq.result c.dtype.ensures c.dtype-2.ensures c.eq.ensures c.if-eq.false
