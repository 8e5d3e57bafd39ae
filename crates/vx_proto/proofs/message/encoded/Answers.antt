use Rattle.std.proofs.Common.{arith, ap}
use Rattle.std.specs.Prelude.{length}
use Rattle.vx_proto.proofs.message.encoded.Goals as goal

pub returns-clause-short : goal.returns-clause-short
returns-clause-short c = let b = c.in_ok-bytes.bytes in omega (arith, ap length c.new.ensures, b.ok, b.small)
