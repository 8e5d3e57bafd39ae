-- One child more is fed, and in the end the whole array.
use Rattle.std.proofs.Common.{arith}
use Rattle.vx_arrays.proofs.Feeding.{child_fed, array_fed}
use Rattle.vx_arrays.proofs.array.Array.+array_hash.Goals as goal

pub loop-child-preserved : goal.loop-child-preserved
loop-child-preserved g t c =
    child_fed g.H.Hasher.write c.hash_root.new.state c.loop-child.state c.array_hash.new.state c.children-child-items.result.now c.loop-child.child-index c.child-item.result c.loop-child-test.true c.child-item.is
    c.loop-child.invariant c.array_hash.ensures

pub returns : goal.returns
returns g t c =
    array_fed g.H.Hasher.write c.args.state.now c.hash_root.new.state c.loop-child.state c.args.self.now c.children-child-items.result.now c.loop-child.child-index (omega (arith, c.loop-child-test.false))
    c.children-child-items.ensures.children c.hash_root.ensures c.loop-child.invariant
