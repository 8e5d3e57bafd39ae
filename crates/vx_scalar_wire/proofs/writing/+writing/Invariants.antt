use Rattle.std.proofs.Common.{◌≡◌, ◌+◌, ◌*◌, take, option_copied}
use Rattle.vx_trees.specs.Rose.{roses_of}
use Rattle.vx_trees.specs.Walks.{nodes, nodes_of}
use Rattle.vx_proto.specs.Value.{entries_view}
use Rattle.vx_types.specs.Well.{AreWell}
use Rattle.vx_type_wire.specs.TypeMessage.{all_messages}
use Rattle.vx_scalars.specs.Seen.{seen, all_seen}
use Rattle.vx_scalar_wire.specs.ScalarMessage.{value_messages}
use Rattle.vx_scalar_wire.specs.Shallow.{AreShallow}
use Rattle.vx_scalar_wire.proofs.writing.+writing.Given as goal

abbrev pub decreases-value_slots : goal.decreases-value_slots
decreases-value_slots l = 4 * nodes (seen (option_copied l.value)) + 1

abbrev pub decreases-member_slot : goal.decreases-member_slot
decreases-member_slot l = 4 * nodes (seen (option_copied l.value))

abbrev pub decreases-list_slots : goal.decreases-list_slots
decreases-list_slots l = 4 * nodes_of (roses_of (all_seen l.values.now)) + 2

abbrev pub decreases-union_slots : goal.decreases-union_slots
decreases-union_slots l = 4 * nodes (seen (option_copied l.value)) + 2

abbrev pub decreases-scalar_slots : goal.decreases-scalar_slots
decreases-scalar_slots l = 4 * nodes l.scalar.now.value + 2

abbrev pub invariant-list_slots-loop-value : goal.invariant-list_slots-loop-value
invariant-list_slots-loop-value l =
    (entries_view l.entries.items ≡ all_messages 1 (value_messages (roses_of (all_seen (take l.value-index l.values)))))
    × AreShallow (roses_of (all_seen (take l.value-index l.values)))
    × AreWell (roses_of (all_seen (take l.value-index l.values)))
