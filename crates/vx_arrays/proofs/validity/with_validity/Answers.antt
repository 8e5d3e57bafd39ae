-- What was put after the first child stands after it.
use Rattle.std.proofs.Common.{◌∙◌}
use Rattle.vx_array_tree.specs.Tree.{option_trees}
use Rattle.vx_arrays.proofs.After.{after_one, on_ok}
use Rattle.vx_arrays.proofs.validity.with_validity.Goals as goal

pub returns-in-Ok-Ok-clause-children : goal.returns-in-Ok-Ok-clause-children
returns-in-Ok-Ok-clause-children c =
    c.into_vec.ensures.items
    ∙ after_one c.new-children.result c.push_some-last.new.self (option_trees c.args.validity) c.new-children.ensures c.push-one.new.self c.args.first (on_ok c.push-one.result c.in-Ok-Ok.field-0-0 c.in-Ok-Ok.is-0 c.push-one.ensures.ok)
    (on_ok c.push_some-last.result c.in-Ok-Ok.field-0-1 c.in-Ok-Ok.is-1 c.push_some-last.ensures.ok)
