use Rattle.std.proofs.Common.{ℕ, ◌<◌, get_or}
use Rattle.vx_buffer.specs.Buffer.{Buffer}
use Rattle.vx_wire_tree.specs.Limits.{IsDescribable}
use Rattle.vx_serde.proofs.limits.are_describable.Given as goal

abbrev pub invariant-loop-i : goal.invariant-loop-i
invariant-loop-i l = (k : ℕ) (d : Buffer) → k < l.i → IsDescribable (get_or l.buffers k d)
