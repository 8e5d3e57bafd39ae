use Rattle.std.proofs.Common.{refl}
use Rattle.vx_flat_tests.proofs.WorkedMessages.{nodes_shared, nodes_plain}
use Rattle.vx_flat_tests.proofs.worked.worked_nodes.Goals as goal

pub returns : goal.returns
returns c = record { shared = nodes_shared; length = refl; plain = nodes_plain }
