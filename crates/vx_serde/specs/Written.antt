-- The bytes that are written for a wire tree.
use Rattle.std.specs.Prelude.{ℕ, ◌+◌, ◌≤◌, ◌-◌, ◌^◌, List, ◌++◌, length, replicate}
use Rattle.std.specs.Int.{w32, to_le_bytes}
use Rattle.vx_flat.specs.Layout.{written_layout}
use Rattle.vx_flat.specs.Weight.{weight}
use Rattle.vx_flat.specs.Limits.{KeepsLimits}
use Rattle.vx_serde.specs.declared.options.SerializeOptions.{SerializeOptions}
use Rattle.vx_serialized.specs.ArraySchema.{array_schema}
use Rattle.vx_wire_tree.specs.Limits.{IsWritableTree}
use Rattle.vx_serde.specs.Limits.{message_limits, most_levels}
use Rattle.vx_serde.specs.MessageValue.{message_value}
use Rattle.vx_wire_tree.specs.Wire.{Wire, buffers_in}
use Rattle.vx_serde.specs.Numbered.{numbered}
use Rattle.vx_serde.specs.Placing.{pad, descriptors_from, data_from, data_end}

-- The array message of a tree: its nodes with the places of their identifiers in ids and with buffers numbered from 0
-- on, and the descriptors of the buffers.
abbrev pub message_bytes : List (List ℕ) → SerializeOptions → Wire → List ℕ
message_bytes ids options w =
    written_layout array_schema (message_value (numbered ids 0 w) (descriptors_from options options.offset (buffers_in w)))

-- The pad before the message, which is aligned to 8; no descriptor holds it.
abbrev pub message_pad : SerializeOptions → Wire → ℕ
message_pad options w = pad options 3 (data_end options options.offset (buffers_in w))

-- The blob: the buffers in preorder, each after its pad, the message after its own, and the message's length as a word
-- of four bytes.
abbrev pub blob_bytes : List (List ℕ) → SerializeOptions → Wire → List ℕ
blob_bytes ids options w =
    data_from options options.offset (buffers_in w)
    ++ (replicate (message_pad options w) 0 ++ (message_bytes ids options w ++ to_le_bytes w32 (length (message_bytes ids options w))))

-- The limits on writing: those on the tree; a message of at most 2^31 - 1 bytes that the limits on reading admit; and
-- an end within the positions of 64 bits.
pub record IsWritable (ids : List (List ℕ)) (options : SerializeOptions) (w : Wire) : Type 0 where
  pub tree : IsWritableTree (most_levels options) w
  pub short : length (message_bytes ids options w) ≤ 2 ^ 31 - 1
  pub within_limits : KeepsLimits (message_limits options) (weight array_schema (message_bytes ids options w))
  pub ends : options.offset + length (blob_bytes ids options w) ≤ 2 ^ 64 - 1
