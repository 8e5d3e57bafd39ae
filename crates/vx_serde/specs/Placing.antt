-- The places of the buffers of a written blob. Positions count from the offset at which the blob is to stand.
use Rattle.std.specs.Prelude.{ℕ, ◌+◌, ◌-◌, ◌%◌, ◌^◌, List, [], ◌∷◌, ◌++◌, length, replicate, if◌then◌else◌}
use Rattle.vx_buffer.specs.Buffer.{Buffer}
use Rattle.vx_serde.specs.declared.options.SerializeOptions.{SerializeOptions}
use Rattle.vx_serialized.specs.declared.message.Descriptor.{Descriptor}

-- The least number that makes a position a multiple of n when it is added to it.
abbrev pub gap_to : ℕ → ℕ → ℕ
gap_to n position = (n - position % n) % n

-- The pad at a position, before what is aligned to two to this exponent: up to the next such position where padding is
-- asked for, and else none.
abbrev pub pad : SerializeOptions → ℕ → ℕ → ℕ
pad options exponent position = if options.include_padding then gap_to (2 ^ exponent) position else 0

-- The position where a buffer ends whose pad begins at a position.
abbrev pub position_behind : SerializeOptions → ℕ → Buffer → ℕ
position_behind options position b = position + pad options b.exponent position + length b.bytes

-- The descriptors of buffers of which the first may start at a position, and each other where the one before it ends:
-- each has its pad before it.
abbrev pub descriptors_from : SerializeOptions → ℕ → List Buffer → List Descriptor
descriptors_from options position [] = []
descriptors_from options position (b ∷ bs) =
    record { padding = pad options b.exponent position; exponent = b.exponent; compression = 0; len = length b.bytes }
    ∷ descriptors_from options (position_behind options position b) bs

-- The bytes of these buffers, each after its pad of zeros.
abbrev pub data_from : SerializeOptions → ℕ → List Buffer → List ℕ
data_from options position [] = []
data_from options position (b ∷ bs) = replicate (pad options b.exponent position) 0 ++ (b.bytes ++ data_from options (position_behind options position b) bs)

-- The position where the last of these buffers ends.
abbrev pub data_end : SerializeOptions → ℕ → List Buffer → ℕ
data_end options position [] = position
data_end options position (b ∷ bs) = data_end options (position_behind options position b) bs
