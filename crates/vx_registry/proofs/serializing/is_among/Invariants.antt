use Rattle.std.proofs.Common.{◌≡◌, drop}
use Rattle.vx_wire_tree.specs.Context.{is_among}
use Rattle.vx_registry.proofs.serializing.is_among.Given as goal

-- An identifier is among those that are left exactly where it is among all of them.
abbrev pub invariant-loop-other : goal.invariant-loop-other
invariant-loop-other l = is_among l.id (drop l.other-index l.other-items) ≡ is_among l.id l.other-items
