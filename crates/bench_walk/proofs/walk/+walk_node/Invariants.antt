use Rattle.std.proofs.Common.{◌-◌, length}
use Rattle.bench_walk.proofs.walk.+walk_node.Given as goal

abbrev pub decreases-walk_node : goal.decreases-walk_node
decreases-walk_node l = length l.node.now.message.now - l.node.now.place
