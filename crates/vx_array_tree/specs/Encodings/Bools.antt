-- Flags, of a bit each.
use Rattle.std.specs.Prelude.{ℕ, ◌+◌, ◌*◌, ◌/◌, ◌%◌, ◌^◌, ◌≤◌, ◌<◌, ◌==◌, List, [], ◌∷◌, Option, Some, None, Bool, codes, length, slice_index, refl, true}
use Rattle.std.specs.Coded.{Coded, code_by, coded×, coded_ℕ}
use Rattle.vx_buffer.specs.Buffer.{Buffer, coded_buffer}
use Rattle.vx_trees.specs.Rose.{node, end}
use Rattle.vx_types.specs.Kind.{boolean}
use Rattle.vx_types.specs.Typ.{Typ}
use Rattle.vx_types.specs.Value.{bool, lone}
use Rattle.vx_array_tree.specs.Place.{Place, AllowsValidity, before_validity}
use Rattle.vx_array_tree.specs.Rows.{Rows, by_validity, validity}

-- The identifier is "vortex.bool".
abbrev pub id : List ℕ
id = codes "vortex.bool"

-- A node holds bits, and how many of them stand before the first row's.
pub record Data : Type 0 where
  pub bits : Buffer
  pub offset : ℕ

-- The code by which what nodes hold is told apart.
abbrev pub data_code : Coded Data
data_code = code_by (Buffer × ℕ) (coded× coded_buffer coded_ℕ) (λ x. (x.bits, x.offset)) (λ p. record { bits = p.0; offset = p.1 }) (λ _. refl)

-- The metadata is the offset.
abbrev pub Metadata : Type 0
Metadata = ℕ

-- The metadata of a node that holds this.
abbrev pub metadata_of : Data → Metadata
metadata_of x = x.offset

-- An offset stays within a byte: it is below 8.
abbrev pub IsFair : Metadata → Type 0
IsFair offset = offset < 8

-- The bits are the one buffer.
abbrev pub buffers_of : Data → List Buffer
buffers_of x = x.bits ∷ []

-- What a node of this metadata and these buffers holds.
abbrev pub body_of : Metadata → List Buffer → Option Data
body_of offset (b ∷ []) = Some (record { bits = b; offset = offset })
body_of offset _ = None

-- A node is of the type of flags, and has at most a validity.
abbrev pub plan : Typ → ℕ → ℕ → Option (List Place)
plan (node (boolean m) end) n k = before_validity [] n k
plan _ n k = None

-- Each child is a control child: there is none but a validity.
abbrev pub is_control : ℕ → Bool
is_control i = true

-- A validity stands only where rows may be null.
abbrev pub Allows : Typ → ℕ → Type 0
Allows d k = AllowsValidity d 0 k

-- There is a bit for each row.
abbrev pub Holds : ℕ → Data → Type 0
Holds n x = x.offset + n ≤ 8 * length x.bits.bytes

-- The bit at a place, the lowest of a byte first.
abbrev pub bit_at : List ℕ → ℕ → Bool
bit_at bytes i = (slice_index bytes (i / 8) / 2 ^ (i % 8)) % 2 == 1

-- A valid row is its bit: true where that is 1.
abbrev pub rows : ℕ → Data → List Rows → Rows
rows n x rs = by_validity n (validity rs) (λ i. lone (bool (bit_at x.bits.bytes (x.offset + i))))
