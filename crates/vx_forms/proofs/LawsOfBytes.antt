-- Lists of bytes in two parts.
use Rattle.std.proofs.Common.{ℕ, List, [], ◌∷◌, ◌++◌}
use Rattle.vx_trees.specs.Bytes.{AreBytes}

pub bytes_before : (a b : List ℕ) → AreBytes (a ++ b) → AreBytes a
bytes_before [] b h = tt
bytes_before (x ∷ a) b h = (h.0, bytes_before a b h.1)

pub bytes_after : (a b : List ℕ) → AreBytes (a ++ b) → AreBytes b
bytes_after [] b h = h
bytes_after (x ∷ a) b h = bytes_after a b h.1
