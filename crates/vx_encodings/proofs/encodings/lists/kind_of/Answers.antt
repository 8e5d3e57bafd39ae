use Rattle.std.proofs.Common.{arith}
use Rattle.vx_encodings.proofs.ListSteps.{lone_kind}
use Rattle.vx_encodings.proofs.encodings.lists.kind_of.Goals as goal

pub returns-in-len1 : goal.returns-in-len1
returns-in-len1 c = lone_kind c.args.children.now (omega (arith, c.in-len1.len_below))
