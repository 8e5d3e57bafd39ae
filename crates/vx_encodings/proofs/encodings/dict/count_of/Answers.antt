use Rattle.std.proofs.Common.{arith}
use Rattle.vx_encodings.proofs.DictWritten.{none_counted}
use Rattle.vx_encodings.proofs.encodings.dict.count_of.Goals as goal

pub returns-in-len1 : goal.returns-in-len1
returns-in-len1 c = none_counted c.args.children.now (omega (arith, c.in-len1.len_below))
