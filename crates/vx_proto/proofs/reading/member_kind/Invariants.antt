use Rattle.std.proofs.Common.{◌≡◌, drop}
use Rattle.vx_proto.specs.Schema.{kind_in}
use Rattle.vx_proto.proofs.reading.member_kind.Given as goal

abbrev pub invariant-loop-member : goal.invariant-loop-member
invariant-loop-member l = kind_in (drop l.member-index l.members) l.number ≡ kind_in l.members l.number
