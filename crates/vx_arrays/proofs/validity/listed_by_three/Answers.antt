-- What was put after three children stands after them.
use Rattle.vx_array_tree.specs.Tree.{option_trees}
use Rattle.vx_arrays.proofs.After.{after_three, on_ok}
use Rattle.vx_arrays.proofs.validity.listed_by_three.Goals as goal

pub returns-in-Ok-Ok-Ok-Ok-clause-children : goal.returns-in-Ok-Ok-Ok-Ok-clause-children
returns-in-Ok-Ok-Ok-Ok-clause-children c =
    after_three c.new-children.result c.push_some-last.new.self (option_trees c.args.validity) c.new-children.ensures c.push-one.new.self c.args.first (on_ok c.push-one.result c.in-Ok-Ok-Ok-Ok.field-0-0 c.in-Ok-Ok-Ok-Ok.is-0 c.push-one.ensures.ok)
    c.push-two.new.self c.args.second (on_ok c.push-two.result c.in-Ok-Ok-Ok-Ok.field-0-1 c.in-Ok-Ok-Ok-Ok.is-1 c.push-two.ensures.ok)
    c.push-three.new.self c.args.third (on_ok c.push-three.result c.in-Ok-Ok-Ok-Ok.field-0-2 c.in-Ok-Ok-Ok-Ok.is-2 c.push-three.ensures.ok)
    (on_ok c.push_some-last.result c.in-Ok-Ok-Ok-Ok.field-0-3 c.in-Ok-Ok-Ok-Ok.is-3 c.push_some-last.ensures.ok)
