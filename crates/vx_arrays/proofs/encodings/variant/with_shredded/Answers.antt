-- What was put after the core stands after it.
use Rattle.vx_array_tree.specs.Tree.{option_trees}
use Rattle.vx_arrays.proofs.After.{after_one, on_ok}
use Rattle.vx_arrays.proofs.encodings.variant.with_shredded.Goals as goal

pub returns-in-Ok-Ok-clause-children : goal.returns-in-Ok-Ok-clause-children
returns-in-Ok-Ok-clause-children c =
    after_one c.new-children.result c.push_some-last.new.self (option_trees c.args.shredded) c.new-children.ensures c.push-first.new.self c.args.core (on_ok c.push-first.result c.in-Ok-Ok.field-0-0 c.in-Ok-Ok.is-0 c.push-first.ensures.ok)
    (on_ok c.push_some-last.result c.in-Ok-Ok.field-0-1 c.in-Ok-Ok.is-1 c.push_some-last.ensures.ok)
