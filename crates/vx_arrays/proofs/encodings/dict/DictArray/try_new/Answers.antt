-- The node that is made is that of the codes and the values.
use Rattle.std.proofs.Common.{◌≡◌, ◌∙◌, ap}
use Rattle.vx_trees.specs.Rose.{end, label, more}
use Rattle.vx_types.specs.Seen.{typ}
use Rattle.vx_types.specs.Typ.{Typ}
use Rattle.vx_types.specs.Words.{nullability}
use Rattle.vx_types.specs.declared.dtype.DType.{DType}
use Rattle.vx_array_tree.specs.Encodings.Dicts.{raised}
use Rattle.vx_array_tree.specs.Tree.{Trees}
use Rattle.vx_arrays.specs.Dicts.{dict_head}
use Rattle.vx_arrays.proofs.After.{if_ok}
use Rattle.vx_arrays.proofs.Over.{complete_over}
use Rattle.vx_arrays.proofs.encodings.dict.DictArray.try_new.Goals as goal

pub returns-in-Ok-Ok-clause-complete : goal.returns-in-Ok-Ok-clause-complete
returns-in-Ok-Ok-clause-complete c =
    let f = c.args.all_values_referenced in
    let m : c.nullability.result ≡ nullability (label c.args.codes).dtype = c.nullability.ensures ∙ ap (λ (d : Typ). nullability d) c.dtype.ensures.dtype in
    let d : typ c.in-Ok-Ok.dtype ≡ raised (nullability (label c.args.codes).dtype) (label c.args.values).dtype =
    if_ok (λ (d : DType). typ d ≡ raised c.nullability.result (typ c.dtype-2.result.now)) c.raised_type-dtype.result c.in-Ok-Ok.dtype c.in-Ok-Ok.is-0 c.raised_type-dtype.ensures.ok
    ∙ (λ i. raised (m i) (c.dtype-2.ensures.dtype i)) in
    complete_over (dict_head (typ c.in-Ok-Ok.dtype) c.len-len.result f) (dict_head (raised (nullability (label c.args.codes).dtype) (label c.args.values).dtype) (label c.args.codes).len f) c.in-Ok-Ok.children
    (more c.args.codes (more c.args.values end)) (λ i. dict_head (d i) (c.len-len.ensures.len i) f)
    (if_ok (λ (ts : Trees). ts ≡ more c.args.codes (more c.args.values end)) c.listed-children.result c.in-Ok-Ok.children c.in-Ok-Ok.is-1 c.listed-children.ensures.children) c.of_children.result c.of_children.ensures.complete
