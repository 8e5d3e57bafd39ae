use Rattle.std.proofs.Common.{◌≡◌, ◌+◌, ◌-◌, ◌*◌, ◌<◌, ◌^◌, length, take}
use Rattle.vx_flat.specs.declared.builder.piece.LinkKind.TheVariants.{Table}
use Rattle.vx_flat.specs.Building.{element_links}
use Rattle.vx_flat.specs.Pieces.{links_piece}
use Rattle.vx_trees.specs.Everywhere.{EverywhereBelow}
use Rattle.vx_trees.specs.Rose.{roses_of}
use Rattle.vx_trees.specs.Walks.{nodes, nodes_of}
use Rattle.vx_wire_tree.specs.ReadBack.{IsStorableNode}
use Rattle.vx_wire_tree.specs.Session.{SessionMeaning}
use Rattle.vx_encodings.specs.Messages.{codec}
use Rattle.vx_flat.specs.Building.{IsPartWay}
use Rattle.vx_serde.proofs.NodePieces.{rows_of, buffers_below}
use Rattle.vx_serde.proofs.WiredNodes.{wired}
use Rattle.vx_serde.proofs.nodes.+nodes.Given as goal

abbrev pub decreases-write_node : goal.decreases-write_node
decreases-write_node l = 2 * nodes l.array.now

abbrev pub decreases-write_nodes : goal.decreases-write_nodes
decreases-write_nodes l = 2 * nodes_of (roses_of l.arrays.now) + 1

abbrev pub invariant-write_nodes-loop-i : goal.invariant-write_nodes-loop-i
invariant-write_nodes-loop-i l = record {
  places : l.passed.nodes ≡ l.fn.passed.nodes + nodes_of (roses_of (take l.i l.arrays));
  count : (s : SessionMeaning) → l.passed.buffers ≡ l.fn.passed.buffers + buffers_below (take l.i (wired s l.arrays));
  so_far : (s : SessionMeaning) → IsPartWay l.fn.builder (links_piece Table (length l.arrays)) (element_links l.fn.builder.count l.i Table (length l.arrays - l.i))
      (rows_of l.encodings l.fn.passed.nodes l.fn.passed.buffers (take l.i (wired s l.arrays))) l.builder;
  stored : EverywhereBelow (IsStorableNode codec) (roses_of (take l.i l.arrays));
  fits : length l.builder.bytes < 2 ^ 31;
  numbered : l.vector ≡ l.fn.builder.count;
}
