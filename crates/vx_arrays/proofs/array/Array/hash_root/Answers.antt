-- One buffer more is fed.
use Rattle.vx_trees.specs.Rose.{label}
use Rattle.vx_array_tree.specs.Table.{buffers_of}
use Rattle.vx_arrays.proofs.Feeding.{buffer_fed}
use Rattle.vx_arrays.proofs.array.Array.hash_root.Goals as goal

pub loop-i-preserved : goal.loop-i-preserved
loop-i-preserved g c =
    buffer_fed g.H.Hasher.write c.hash-3.new.state c.loop-i.state c.array_hash.new.state (buffers_of (label c.args.self.now).body) c.loop-i.i c.buffer.result.now c.buffer.ensures c.loop-i.invariant c.array_hash.ensures
