use Rattle.std.proofs.Common.{◌≤◌, length, arith}
use Rattle.vx_serialized.proofs.Pieces.{descriptors_of-eight}
use Rattle.vx_serialized.proofs.message.first_descriptor.Goals as goal

pub returns-clause-some : goal.returns-clause-some
returns-clause-some c =
    let enough : 8 ≤ length c.args.bytes.now = omega arith in
    rw (c.from_le_bytes.ensures, c.from_le_bytes-2.ensures, c.split_at.ensures.back) (descriptors_of-eight c.args.bytes.now enough)
