-- What is judged of the validity is judged of the children.
use Rattle.std.proofs.Common.{true, refl}
use Rattle.vx_trees.specs.Rose.{roses_of}
use Rattle.vx_types.specs.Seen.{typ}
use Rattle.vx_array_tree.specs.Tree.{option_trees, untold}
use Rattle.vx_arrays.specs.Plain.{plain_body}
use Rattle.vx_arrays.proofs.Over.{made_over, unmade_over, complete_over, shaped_over, content_over, below_over}
use Rattle.vx_arrays.proofs.validity.over_validity.Goals as goal

pub over_children-requires-clause-shaped : goal.over_children-requires-clause-shaped
over_children-requires-clause-shaped c =
    shaped_over (untold (typ c.args.dtype) c.args.len (plain_body c.args.body)) (untold (typ c.args.dtype) c.args.len (plain_body c.args.body)) (roses_of c.in-Ok.children.items) (option_trees c.args.validity) refl c.in-Ok.ensures.children c.args.shaped c.requires.shaped

pub over_children-requires-clause-content : goal.over_children-requires-clause-content
over_children-requires-clause-content c =
    content_over (untold (typ c.args.dtype) c.args.len (plain_body c.args.body)) (untold (typ c.args.dtype) c.args.len (plain_body c.args.body)) (roses_of c.in-Ok.children.items) (option_trees c.args.validity) refl c.in-Ok.ensures.children c.args.shaped true
    (λ _ _. (λ _. c.requires.content, λ _. refl))

pub over_children-requires-clause-below : goal.over_children-requires-clause-below
over_children-requires-clause-below c =
    below_over (untold (typ c.args.dtype) c.args.len (plain_body c.args.body)) (untold (typ c.args.dtype) c.args.len (plain_body c.args.body)) (roses_of c.in-Ok.children.items) (option_trees c.args.validity) refl c.in-Ok.ensures.children c.args.shaped c.requires.below

pub returns-in-Ok-clause-ok : goal.returns-in-Ok-clause-ok
returns-in-Ok-clause-ok c =
    made_over (untold (typ c.args.dtype) c.args.len (plain_body c.args.body)) (untold (typ c.args.dtype) c.args.len (plain_body c.args.body)) (roses_of c.in-Ok.children.items) (option_trees c.args.validity) refl c.in-Ok.ensures.children c.over_children.result c.over_children.ensures.ok

pub returns-in-Ok-clause-err : goal.returns-in-Ok-clause-err
returns-in-Ok-clause-err c =
    unmade_over (untold (typ c.args.dtype) c.args.len (plain_body c.args.body)) (untold (typ c.args.dtype) c.args.len (plain_body c.args.body)) (roses_of c.in-Ok.children.items) (option_trees c.args.validity) refl c.in-Ok.ensures.children c.over_children.result c.over_children.ensures.err

pub returns-in-Ok-clause-complete : goal.returns-in-Ok-clause-complete
returns-in-Ok-clause-complete c =
    complete_over (untold (typ c.args.dtype) c.args.len (plain_body c.args.body)) (untold (typ c.args.dtype) c.args.len (plain_body c.args.body)) (roses_of c.in-Ok.children.items) (option_trees c.args.validity) refl c.in-Ok.ensures.children c.over_children.result c.over_children.ensures.complete
