use Rattle.std.proofs.Common.{arith}
use Rattle.vx_types.proofs.Contents.{bytes_within}
use Rattle.vx_types.proofs.blob.Blob.new.Goals as goal

pub invariant_of-result : goal.invariant_of-result
invariant_of-result c = bytes_within c.args.bytes.items (λ i l. omega (arith, l))
