-- A node whose only child may be a validity has no second one.
use Rattle.vx_arrays.proofs.Rebuffered.{only_child}
use Rattle.vx_arrays.proofs.new_buffers.copied_validity.Goals as goal

pub returns-in_ok-clone-in-len1-up-clause-ok : goal.returns-in_ok-clone-in-len1-up-clause-ok
returns-in_ok-clone-in-len1-up-clause-ok c =
    only_child c.args.len c.args.children.now c.in_ok-clone-in-len1-up.field-0 c.array-item.result c.requires c.in-len1-up.len_at_least c.array-item.is c.in_ok-clone-in-len1-up.ensures.ok
