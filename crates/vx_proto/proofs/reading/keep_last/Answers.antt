use Rattle.std.proofs.Common.{arith}
use Rattle.vx_proto.proofs.Lasts.{last_alone, last_is}
use Rattle.vx_proto.proofs.reading.keep_last.Goals as goal

pub returns-then-len-lt2 : goal.returns-then-len-lt2
returns-then-len-lt2 c = let r = c.args.entries.now in last_is r.items (omega (arith, c.if-len-lt2.true, c.len.ensures, r.ok))

pub returns : goal.returns
returns c = last_alone c.args.entries.now.items c.pop.new.self.items c.clear.new.self.items c.push.new.self.items c.in-Some.last c.in-Some.ensures.items c.clear.ensures.items c.in_ok-push.ensures.items
