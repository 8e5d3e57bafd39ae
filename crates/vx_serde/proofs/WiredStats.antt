-- The statistics of an array's nodes on the wire: each node has a table of them, of its kind.
use Rattle.std.proofs.Common.{◌≡◌, refl}
use Rattle.vx_flat.specs.Value.{table}
use Rattle.vx_trees.specs.Everywhere.{Everywhere, EverywhereBelow}
use Rattle.vx_trees.specs.Rose.{node, end, more}
use Rattle.vx_scalars.specs.Stats.{Stats}
use Rattle.vx_scalar_wire.specs.StatsTable.{stats_table}
use Rattle.vx_scalar_wire.proofs.LawsStats.{of_kind_anywhere}
use Rattle.vx_array_tree.specs.Tree.{Tree, Trees}
use Rattle.vx_wire_tree.specs.Session.{SessionMeaning}
use Rattle.vx_wire_tree.specs.Wire.{WireHead, Wires}
use Rattle.vx_wire_tree.specs.Written.{wire, wires}
use Rattle.vx_encodings.specs.Messages.{codec}
use Rattle.vx_serialized.specs.ArraySchema.{array_schema}
use Rattle.vx_serde.proofs.NumberedRead.{IsTabledNode}

module _ (s : SessionMeaning) where
  mutual
    pub wire-tabled : (t : Tree) → Everywhere IsTabledNode (wire codec s t)
    wire-tabled (node h ts) = (of_kind_anywhere array_schema h.stats, wires-tabled ts)

    wires-tabled : (ts : Trees) → EverywhereBelow IsTabledNode (wires codec s ts)
    wires-tabled end = tt
    wires-tabled (more t ts) = (wire-tabled t, wires-tabled ts)

-- A node has the table of a set.
abbrev pub IsToldNode : WireHead → Wires → Type 0
IsToldNode h ws = (x : Stats) × (h.stats ≡ table (stats_table x))

module _ (s : SessionMeaning) where
  mutual
    pub wire-told : (t : Tree) → Everywhere IsToldNode (wire codec s t)
    wire-told (node h ts) = ((h.stats, refl), wires-told ts)

    wires-told : (ts : Trees) → EverywhereBelow IsToldNode (wires codec s ts)
    wires-told end = tt
    wires-told (more t ts) = (wire-told t, wires-told ts)
