-- Lists of bytes.
use Rattle.std.specs.Prelude.{ℕ, zero, suc, ◌<◌, List, [], ◌∷◌}
use Rattle.std.proofs.Common.{arith, get_or}
use Rattle.vx_trees.specs.Bytes.{AreBytes}

-- A list is bytes where each of its places holds a byte.
pub bytes_from_index : (bs : List ℕ) → ((i : ℕ) → get_or bs i 0 < 256) → AreBytes bs
bytes_from_index [] h = tt
bytes_from_index (b ∷ bs) h = (omega (arith, h zero), bytes_from_index bs (λ i. h (suc i)))
