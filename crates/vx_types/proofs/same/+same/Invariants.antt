use Rattle.std.proofs.Common.{◌≡◌, take}
use Rattle.vx_types.specs.Parts.{typ_size, slice_size, fields_size, members_size}
use Rattle.vx_types.specs.Seen.{typ, typs}
use Rattle.vx_types.proofs.same.+same.Given as goal

abbrev pub decreases-is_same : goal.decreases-is_same
decreases-is_same l = typ_size (typ l.a.now)

abbrev pub decreases-are_same : goal.decreases-are_same
decreases-are_same l = slice_size (typs l.a.now)

abbrev pub decreases-are_same_fields : goal.decreases-are_same_fields
decreases-are_same_fields l = fields_size l.a.now

abbrev pub decreases-are_same_members : goal.decreases-are_same_members
decreases-are_same_members l = members_size l.a.now

abbrev pub invariant-are_same-loop-i : goal.invariant-are_same-loop-i
invariant-are_same-loop-i l = typs (take l.i l.a) ≡ typs (take l.i l.b)
