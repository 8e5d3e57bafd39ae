use Rattle.std.proofs.Common.{◌≡◌, take}
use Rattle.vx_registry.proofs.tables.copies.Given as goal

-- The identifiers so far.
abbrev pub invariant-loop-id : goal.invariant-loop-id
invariant-loop-id l = l.copies.items ≡ take l.id-index l.id-items
