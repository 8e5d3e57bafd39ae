-- What is judged of the parts is judged of the children.
use Rattle.std.proofs.Common.{◌≡◌, ◌∙◌, Vec, Global, ap}
use Rattle.vx_trees.specs.Rose.{end, label, more, node, roses_of}
use Rattle.vx_types.specs.Kind.{fixed_size_list}
use Rattle.vx_types.specs.Seen.{typ}
use Rattle.vx_types.specs.Typ.{Typ}
use Rattle.vx_types.specs.declared.dtype.DType.{DType}
use Rattle.vx_array_tree.specs.Body as B
use Rattle.vx_array_tree.specs.Tree.{option_trees, untold}
use Rattle.vx_arrays.specs.FixedSizeLists.{fixed_size_list_head}
use Rattle.vx_arrays.specs.declared.array.Array.{Array}
use Rattle.vx_arrays.proofs.After.{if_ok}
use Rattle.vx_arrays.proofs.Over.{shaped_over}
use Rattle.vx_arrays.proofs.encodings.fixed_size_list.FixedSizeListArray.try_new.Goals as goal

pub over_children-requires-clause-shaped : goal.over_children-requires-clause-shaped
over_children-requires-clause-shaped c =
    let d : typ c.in-Ok-Ok.dtype ≡ node (fixed_size_list c.args.size c.args.nullability) (more (label c.args.elements).dtype end) =
    if_ok (λ (d : DType). typ d ≡ node (fixed_size_list c.args.size c.args.nullability) (more (typ c.dtype.result.now) end)) c.list_type-dtype.result c.in-Ok-Ok.dtype c.in-Ok-Ok.is-0 c.list_type-dtype.ensures.ok
    ∙ ap (λ (x : Typ). node (fixed_size_list c.args.size c.args.nullability) (more x end)) c.dtype.ensures.dtype in
    shaped_over (untold (typ c.in-Ok-Ok.dtype) c.args.len B.fixed_size_list) (fixed_size_list_head (label c.args.elements).dtype c.args.size c.args.nullability c.args.len) (roses_of c.in-Ok-Ok.children.items)
    (more c.args.elements (option_trees c.args.validity)) (ap (λ (x : Typ). untold x c.args.len B.fixed_size_list) d)
    (if_ok (λ (v : Vec Array Global). roses_of v.items ≡ more c.args.elements (option_trees c.args.validity)) c.with_validity-children.result c.in-Ok-Ok.children c.in-Ok-Ok.is-1 c.with_validity-children.ensures.children)
    c.is_shaped-shaped.result c.is_shaped-shaped.ensures.shaped
