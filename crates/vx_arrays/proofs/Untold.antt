-- Nodes without statistics.
use Rattle.vx_types.specs.Typ.{Typ}
use Rattle.std.proofs.Common.{ℕ}
use Rattle.vx_scalars.specs.Stats.{Stats}
use Rattle.vx_scalars.proofs.LawsStats.{none_fit}
use Rattle.vx_array_tree.specs.Body.{Body}
use Rattle.vx_array_tree.specs.Refused.{IsWellShaped}
use Rattle.vx_array_tree.specs.Sound.{IsControlled, IsSoundNode}
use Rattle.vx_array_tree.specs.Table.{Content}
use Rattle.vx_array_tree.specs.Tree.{Trees, rows_below, untold}
use Rattle.vx_array_tree.proofs.Built.{shaped_sound}

-- A node of the right shape and content, of which it is known where its rows are, is sound without statistics.
pub untold_sound : (d : Typ) (n : ℕ) (b : Body) (ts : Trees) → IsWellShaped (untold d n b) ts → IsControlled (untold d n b) ts → Content d n b (rows_below ts) → IsSoundNode (untold d n b) ts
untold_sound d n b ts s k c = shaped_sound (untold d n b) ts s k c (none_fit d)

-- So is what is sound with some.
pub untold_node : (d : Typ) (n : ℕ) (x : Stats) (b : Body) (ts : Trees) → IsSoundNode (record { dtype = d; len = n; stats = x; body = b }) ts → IsSoundNode (untold d n b) ts
untold_node d n x b ts s =
    shaped_sound (untold d n b) ts (record { fair = s.fair; planned = s.planned; allows = s.allows; takes = s.takes; holds = s.holds })
    (record { controls = s.controlled.controls; entries = s.controlled.entries }) s.content (none_fit d)
