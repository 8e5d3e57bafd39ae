-- The buffers that a blob is written as.
use Rattle.std.specs.Prelude.{ℕ, zero, suc, max, List, [], ◌∷◌, ◌++◌, length, replicate}
use Rattle.std.specs.Int.{w32, to_le_bytes}
use Rattle.vx_buffer.specs.Buffer.{Buffer}
use Rattle.vx_serde.specs.declared.options.SerializeOptions.{SerializeOptions}
use Rattle.vx_wire_tree.specs.Wire.{Wire, buffers_in}
use Rattle.vx_serde.specs.Placing.{pad, position_behind}
use Rattle.vx_serde.specs.Written.{message_bytes, message_pad}

-- Bytes with no alignment.
abbrev pub unaligned : List ℕ → Buffer
unaligned bytes = record { bytes = bytes; exponent = 0 }

-- A pad of this many zeros as a buffer; none, where it is empty.
abbrev pub pad_buffers : ℕ → List Buffer
pad_buffers zero = []
pad_buffers (suc n) = unaligned (replicate (suc n) 0) ∷ []

-- Data buffers with no alignment, each after its pad; the first may start at a position.
abbrev pub data_buffers : SerializeOptions → ℕ → List Buffer → List Buffer
data_buffers options position [] = []
data_buffers options position (b ∷ bs) =
    pad_buffers (pad options b.exponent position) ++ (unaligned b.bytes ∷ data_buffers options (position_behind options position b) bs)

-- The greatest exponent of buffers, or n where it is greater.
abbrev pub greatest_exponent : ℕ → List Buffer → ℕ
greatest_exponent n [] = n
greatest_exponent n (b ∷ bs) = greatest_exponent (max n b.exponent) bs

-- The buffers of a blob: an empty one with the greatest alignment of the tree's buffers, at least 8 bytes; the data,
-- each buffer after its pad; the message after its own; and the message's length. All but the first have no alignment,
-- and no pad is empty.
abbrev pub written_buffers : List (List ℕ) → SerializeOptions → Wire → List Buffer
written_buffers ids options w =
    record { bytes = []; exponent = greatest_exponent 3 (buffers_in w) }
    ∷ (data_buffers options options.offset (buffers_in w)
    ++ (pad_buffers (message_pad options w)
    ++ (unaligned (message_bytes ids options w) ∷ unaligned (to_le_bytes w32 (length (message_bytes ids options w))) ∷ [])))
