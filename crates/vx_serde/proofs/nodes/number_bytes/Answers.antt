use Rattle.std.proofs.Common.{◌+◌, ◌-◌, arith}
use Rattle.vx_serde.specs.MessageValue.{index_bytes}
use Rattle.vx_serde.specs.Numbered.{numbers_from}
use Rattle.vx_serde.proofs.NodePieces.{number_next}
use Rattle.vx_serde.proofs.nodes.number_bytes.Goals as goal

pub loop-i-preserved : goal.loop-i-preserved
loop-i-preserved c =
    rw (c.in_ok-extend_from_slice.ensures.items, c.to_le_bytes.ensures)
    (number_next c.loop-i.bytes.items (index_bytes (numbers_from c.args.first c.args.count)) (c.args.first + c.loop-i.i) (c.args.first + (c.loop-i.i + 1)) (c.args.count - c.loop-i.i) (c.args.count - (c.loop-i.i + 1))
    (omega arith) (omega arith) c.loop-i.invariant)
