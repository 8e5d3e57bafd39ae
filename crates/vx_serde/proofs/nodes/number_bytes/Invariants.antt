use Rattle.std.proofs.Common.{◌≡◌, ◌+◌, ◌-◌, ◌++◌}
use Rattle.vx_serde.specs.MessageValue.{index_bytes}
use Rattle.vx_serde.specs.Numbered.{numbers_from}
use Rattle.vx_serde.proofs.nodes.number_bytes.Given as goal

abbrev pub invariant-loop-i : goal.invariant-loop-i
invariant-loop-i l = l.bytes.items ++ index_bytes (numbers_from (l.first + l.i) (l.count - l.i)) ≡ index_bytes (numbers_from l.first l.count)
