use Rattle.std.proofs.Common.{◌≡◌, [], take}
use Rattle.vx_wire_tree.specs.Context.{with_ids}
use Rattle.vx_registry.proofs.context.set_of.Given as goal

-- The identifiers so far, each once.
abbrev pub invariant-loop-id : goal.invariant-loop-id
invariant-loop-id l = l.set.keys ≡ with_ids [] (take l.id-index l.id-items)
