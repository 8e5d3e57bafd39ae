-- The bytes of the metadata in a message that is light can be counted.
use Rattle.std.proofs.Common.{ℕ, ◌<◌, ◌≤◌, ◌+◌, ◌^◌, List, length, ap, arith}
use Rattle.vx_flat.specs.Limits.{KeepsLimits}
use Rattle.vx_flat.specs.ValueWeight.{weight_of_fields, weight_of_rows}
use Rattle.vx_flat.specs.Weight.{weight}
use Rattle.vx_flat.specs.declared.weight.Weight.{Weight}
use Rattle.vx_flat.proofs.LawsOfMessages.{weight-shown}
use Rattle.vx_trees.specs.Rose.{node, end, more}
use Rattle.vx_trees.specs.Everywhere.{EverywhereBelow}
use Rattle.vx_trees.specs.Walks.{gathered}
use Rattle.vx_array_tree.specs.Table.{buffers_of}
use Rattle.vx_array_tree.specs.Tree.{Tree, Trees}
use Rattle.vx_wire_tree.specs.ReadBack.{HasCountableMetadata, IsCountableNode}
use Rattle.vx_wire_tree.specs.Session.{SessionMeaning}
use Rattle.vx_wire_tree.specs.Wire.{all_present, buffers_at_node, present}
use Rattle.vx_wire_tree.specs.Written.{wire, wires}
use Rattle.vx_encodings.specs.Messages.{codec}
use Rattle.vx_serialized.specs.ArraySchema.{array_schema}
use Rattle.vx_serde.specs.Limits.{message_limits}
use Rattle.vx_serialized.specs.declared.message.Descriptor.{Descriptor}
use Rattle.vx_serde.specs.MessageValue.{message_value, node_value, rows_value}
use Rattle.vx_serde.specs.Numbered.{numbered, numbered_below}
use Rattle.vx_serde.specs.declared.options.SerializeOptions.{SerializeOptions}
use Rattle.vx_flat.specs.Shows.{Shows}

module _ (ids : List (List ℕ)) (s : SessionMeaning) where
  mutual
    in_node : (t : Tree) (n b : ℕ) → (weight_of_fields (node_value (numbered ids n (wire codec s t)))).bytes ≤ b → b < 2 ^ 64 → HasCountableMetadata codec t
    in_node (node h ts) n b w k = (omega (arith, w, k), in_rows ts (n + length (present (all_present (buffers_of h.body)))) b (omega (arith, w)) k)

    in_rows : (ts : Trees) (n b : ℕ) → (weight_of_rows (rows_value (numbered_below ids n (wires codec s ts)))).bytes ≤ b → b < 2 ^ 64 → EverywhereBelow (IsCountableNode codec) ts
    in_rows end n b w k = tt
    in_rows (more t ts) n b w k = (in_node t n b (omega (arith, w)) k, in_rows ts (n + length (gathered buffers_at_node (wire codec s t))) b (omega (arith, w)) k)

  -- The metadata of each node of an array whose message is light can be counted.
  pub countable_in : (t : Tree) (options : SerializeOptions) (message : List ℕ) (ds : List Descriptor) → Shows array_schema message (message_value (numbered ids 0 (wire codec s t)) ds)
      → KeepsLimits (message_limits options) (weight array_schema message) → HasCountableMetadata codec t
  countable_in t options message ds shows within_limits =
      let same = ap (λ (x : Weight). x.bytes) (weight-shown array_schema message (message_value (numbered ids 0 (wire codec s t)) ds) shows) in
      in_node t 0 (2 ^ 31) (omega (arith, same, within_limits.2)) (omega arith)
