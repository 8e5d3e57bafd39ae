-- The limits on the trees that are written.
use Rattle.std.specs.Prelude.{ℕ, ◌≤◌, ◌-◌, ◌^◌, List, length, All}
use Rattle.vx_buffer.specs.Buffer.{Buffer}
use Rattle.vx_trees.specs.Everywhere.{Everywhere}
use Rattle.vx_trees.specs.Walks.{levels}
use Rattle.vx_array_tree.specs.Sound.{metadata_in}
use Rattle.vx_array_tree.specs.Tree.{Tree, Trees, Head}
use Rattle.vx_wire_tree.specs.Fields.{FitsMessage}
use Rattle.vx_wire_tree.specs.Wire.{Wire, buffers_in}

-- A node's metadata fits its message.
abbrev pub HasMessage : Head → Trees → Type 0
HasMessage h ts = FitsMessage (metadata_in h ts)

-- Each node's metadata fits its message.
abbrev pub HasMessages : Tree → Type 0
HasMessages = Everywhere HasMessage

-- A descriptor can describe a buffer: its exponent is at most 16, and its length fits four bytes.
pub record IsDescribable (b : Buffer) : Type 0 where
  pub exponent : b.exponent ≤ 16
  pub len : length b.bytes ≤ 2 ^ 32 - 1

-- Descriptors can describe each of these buffers.
abbrev pub AreDescribable : List Buffer → Type 0
AreDescribable bs = All (λ b. IsDescribable b) bs

-- The limits on a written tree whatever its identifiers: at most this many levels, and at most 65,535 buffers, each of
-- which a descriptor can describe.
pub record IsWritableTree (most : ℕ) (w : Wire) : Type 0 where
  pub nested : levels w ≤ most
  pub few : length (buffers_in w) ≤ 65535
  pub describable : AreDescribable (buffers_in w)
