-- The model of a builder's fields.
use Rattle.std.specs.Prelude.{◌≡◌, ℕ, ◌+◌, ◌<◌, ◌≤◌, Bool, List, [], ◌∷◌, length, reverse, Option, Some, None}
use Rattle.vx_flat.specs.declared.builder.message.Message.{Message}
use Rattle.vx_flat.specs.declared.builder.slot.Slot.{Slot}
use Rattle.vx_flat.specs.Building.{Built}
use Rattle.vx_flat.specs.FieldTables.{zeros}
use Rattle.vx_flat.specs.BlockOffsets.{Known}

-- The first eight bytes are written with the first block.
abbrev pub begun : List ℕ → List ℕ
begun [] = zeros 8
begun (b ∷ bs) = b ∷ bs

-- The bytes before the next block, if it is the first.
abbrev pub front : List ℕ → List ℕ
front [] = zeros 8
front (b ∷ bs) = []

-- A link lies within n bytes.
abbrev pub SlotsLie : List Slot → ℕ → Type 0
SlotsLie [] n = Unit {0}
SlotsLie (l ∷ ls) n = (l.place + 4 ≤ n) × SlotsLie ls n

abbrev pub SlotLies : Option Slot → ℕ → Type 0
SlotLies None n = Unit {0}
SlotLies (Some l) n = l.place + 4 ≤ n

-- The offsets of the unset links lie within the bytes so far. Each block has some bytes, and the
-- first one comes after eight.
pub record IsOpen (m : Message) : Type 0 where
  pub left : SlotsLie (reverse m.left.items) (length m.bytes.items)
  pub waits : SlotLies m.waits (length m.bytes.items)
  pub many : m.count ≤ length m.bytes.items
  pub some : 0 < length m.bytes.items → 8 ≤ length m.bytes.items

-- Nothing changed.
pub record IsSame (old new : Message) : Type 0 where
  pub bytes : new.bytes.items ≡ old.bytes.items
  pub count : new.count ≡ old.count
  pub left : new.left.items ≡ old.left.items
  pub waits : new.waits ≡ old.waits

-- What was built. The list of the code has the next link last.
abbrev pub built : Message → Known → Bool → Bool → Built
built m known shares failed = record {
  bytes = begun m.bytes.items;
  count = m.count;
  left = reverse m.left.items;
  waits = m.waits;
  known = known;
  shares = shares;
  failed = failed;
}
