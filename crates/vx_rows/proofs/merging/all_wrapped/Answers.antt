-- Elements are wrapped one by one.
use Rattle.std.proofs.Common.{List, Option, ap, sym, subst, ◌∙◌}
use Rattle.vx_trees.specs.Rose.{roses_of}
use Rattle.vx_types.specs.Fits.{EachFits}
use Rattle.vx_types.specs.Seen.{typ}
use Rattle.vx_types.specs.Value.{Value}
use Rattle.vx_scalars.specs.Seen.{seen, value_of}
use Rattle.vx_scalars.specs.declared.value.ScalarValue.{ScalarValue}
use Rattle.std.specs.Prelude.{option_copied}
use Rattle.vx_array_tree.specs.Merge.{wrapped}
use Rattle.vx_rows.proofs.Fieldwise.{element_fits, wrapped_more}
use Rattle.vx_rows.proofs.merging.all_wrapped.Goals as goal

pub wrapped-requires : goal.wrapped-requires
wrapped-requires c =
    let e = typ c.args.element.now in
    element_fits e c.as_slice-value-items.result.now c.loop-value.value-index c.value-item.result (option_copied c.as_ref.result) c.loop-value-test.true c.value-item.is c.as_ref.ensures.value
    (subst (λ (vs : List Value). EachFits (roses_of vs) e) (sym c.as_slice-value-items.ensures) c.requires)

pub loop-value-preserved : goal.loop-value-preserved
loop-value-preserved c =
    let e = typ c.args.element.now in
    let w = c.in_ok-value.ensures.ok ∙ sym c.in_ok-scalar.ensures.ok ∙ ap (λ (o : Option ScalarValue). wrapped e (seen o)) c.as_ref.ensures.value in
    ap (λ (vs : List Value). roses_of vs) c.in-Ok.ensures.ok
    ∙ wrapped_more e c.loop-value.all c.as_slice-value-items.result.now c.loop-value.value-index c.value-item.result (value_of c.in_ok-value.value) c.loop-value-test.true c.value-item.is c.loop-value.invariant w
