-- The node that is made is that of the core and the shredded child.
use Rattle.std.proofs.Common.{◌≡◌, ◌∙◌, ap}
use Rattle.vx_trees.specs.Rose.{label, more}
use Rattle.vx_types.specs.Seen.{typ}
use Rattle.vx_types.specs.declared.dtype.DType.{DType}
use Rattle.vx_array_tree.specs.Body as B
use Rattle.vx_array_tree.specs.Tree.{Trees, option_trees, untold}
use Rattle.vx_arrays.proofs.After.{if_ok}
use Rattle.vx_arrays.proofs.Over.{complete_over}
use Rattle.vx_arrays.proofs.encodings.variant.VariantArray.try_new.Goals as goal

pub returns-in-Ok-Ok-clause-complete : goal.returns-in-Ok-Ok-clause-complete
returns-in-Ok-Ok-clause-complete c =
    let core = c.args.core in
    let d : typ c.in-Ok-Ok.dtype ≡ (label core).dtype =
    ap (λ (d : DType). typ d) (if_ok (λ (d : DType). d ≡ c.dtype.result.now) c.copied_type-dtype.result c.in-Ok-Ok.dtype c.in-Ok-Ok.is-0 c.copied_type-dtype.ensures.ok) ∙ c.dtype.ensures.dtype in
    complete_over (untold (typ c.in-Ok-Ok.dtype) c.len-len.result B.variant) (untold (label core).dtype (label core).len B.variant) c.in-Ok-Ok.children (more core (option_trees c.args.shredded))
    (λ i. untold (d i) (c.len-len.ensures.len i) B.variant)
    (if_ok (λ (ts : Trees). ts ≡ more core (option_trees c.args.shredded)) c.with_shredded-children.result c.in-Ok-Ok.children c.in-Ok-Ok.is-1 c.with_shredded-children.ensures.children) c.of_children.result c.of_children.ensures.complete
