-- Buffers one after the other.
use Rattle.std.specs.Prelude.{ℕ, List, [], ◌∷◌, ◌++◌}
use Rattle.vx_buffer.specs.Buffer.{Buffer}

-- The bytes of buffers, one after the other.
abbrev pub joined : List Buffer → List ℕ
joined [] = []
joined (b ∷ bs) = b.bytes ++ joined bs
